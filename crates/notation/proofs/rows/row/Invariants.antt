-- The loop of `row`: words are read for the places one after another.
use Rattle.std.proofs.Common.{◌≤◌, length, ◌+◌}
use Rattle.notation.proofs.rows.row.Given as goal

-- each word that was read took at least a byte of the text
abbrev pub invariant-loop-place : goal.invariant-loop-place
invariant-loop-place g l = l.place-index + length l.words.rest.now ≤ length l.fn.text
