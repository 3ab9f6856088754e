-- The entries by codes: a code that divides m has no inverse, and any other has its inverse from an earlier entry.
use Rattle.std.proofs.Common.{◌≡◌, length, sym, ap, ◌∙◌, subst, arith, length-set}
use Rattle.fields.specs.Residues.{filled_or}
use Rattle.fields.proofs.LawfulResidues.{Taken, taken_bounds}
use Rattle.fields.proofs.Filling.{Inverted, inverted_two, inverted_next, inverted_stuck, inverted_all, inverted_table}
use Rattle.fields.proofs.residues.invert_codes.Goals as goal

pub loop-a-init : goal.loop-a-init
loop-a-init c = inverted_two c.args.m (taken_bounds c.args.m c.requires.modulus) c.args.table.now c.requires.entries

pub returns-then-rest-eq0-clause-answer : goal.returns-then-rest-eq0-clause-answer
returns-then-rest-eq0-clause-answer c =
    ap filled_or (sym (inverted_stuck c.args.m (taken_bounds c.args.m c.requires.modulus) c.loop-a.table c.loop-a.a (omega arith)
    c.loop-a-test.true c.if-rest-eq0.true c.loop-a.invariant))

pub loop-a-preserved : goal.loop-a-preserved
loop-a-preserved c =
    let long : length c.loop-a.table ≡ c.args.m = c.loop-a.auto.table ∙ simp length-set c.requires.entries in
    rw c.from-in-loop-a.ensures (rw c.opposite.ensures (rw c.from.ensures
    (inverted_next c.args.m (taken_bounds c.args.m c.requires.modulus) c.loop-a.table c.loop-a.a (omega arith)
    c.loop-a-test.true long c.if-rest-eq0.false c.loop-a.invariant)))

pub returns : goal.returns
returns c =
    let bounds : Taken c.args.m = taken_bounds c.args.m c.requires.modulus in
    let long : length c.loop-a.table ≡ c.args.m = c.loop-a.auto.table ∙ simp length-set c.requires.entries in
    let all : Inverted c.args.m c.loop-a.table c.args.m = subst (Inverted c.args.m c.loop-a.table) (omega arith) c.loop-a.invariant in
    record {
      answer = ap filled_or (sym (inverted_all c.args.m bounds c.loop-a.table all));
      left = inverted_table c.args.m bounds c.loop-a.table long all;
    }
