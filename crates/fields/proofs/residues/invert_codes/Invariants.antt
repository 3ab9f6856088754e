-- Each entry below a is the inverse of its code.
use Rattle.fields.proofs.Filling.{Inverted}
use Rattle.fields.proofs.residues.invert_codes.Given as goal

abbrev pub invariant-loop-a : goal.invariant-loop-a
invariant-loop-a l = Inverted l.m l.table l.a
