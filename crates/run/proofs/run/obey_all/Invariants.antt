use Rattle.std.proofs.Common.{◌≡◌, ◌+◌, ◌*◌, ◌≤◌, length}
use Rattle.methods.specs.Methods.{LawfulMethod}
use Rattle.run.specs.Stages.{progress_at}
use Rattle.run.proofs.Running.{Running}
use Rattle.run.proofs.run.obey_all.Given as goal

abbrev pub invariant-loop-record : goal.invariant-loop-record
invariant-loop-record g l =
    (6 * length l.record-iterator.rest.now + l.out.written ≤ length l.out.bytes.now)
    × (l.out.bytes.ghost_name ≡ l.initial.out.bytes.ghost_name)
    × (LawfulMethod g.M.Method.answers
    → Running l.sheet l.initial.out.bytes.now (progress_at g.R.Field l.stage) l.record-iterator.rest.now l.out.bytes.now l.out.written)
