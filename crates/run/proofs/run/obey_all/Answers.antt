use Rattle.std.proofs.Common.{◌+◌, ◌≤◌, length, Some, ap, ◌∙◌, arith}
use Rattle.run.specs.declared.record.Records.{Records}
use Rattle.run.specs.Meanings.{NextRecord}
use Rattle.run.specs.Progress.{reply_bytes}
use Rattle.run.specs.Stages.{progress_at}
use Rattle.run.proofs.Buffers.{length-overwritten}
use Rattle.run.proofs.Running.{Fits, Turned, whole_fits, unread_fits, whole_turned, unread_turned, running_on, running_end}
use Rattle.run.proofs.run.obey_all.Given.{Over}
use Rattle.run.proofs.run.obey_all.Goals as goal
use Rattle.run.proofs.run.obey_all.Goals.{Joined-record, in-Ok, in-Err}

-- The reply to an item of the sheet fits the output.
reply_fits : (g : Over) (c : Joined-record g) → Fits c.loop-record.record-iterator.rest.now c.match-record.next.1 c.next.new.self.rest.now
reply_fits g c =
    let s : Records = c.loop-record.record-iterator in
    let t : Records = c.next.new.self in
    let gives : NextRecord s (Some c.in-Some.record) t = c.in-Some.ensures.steps in
    elim c.match-record.branch [
      | in-Ok w ↦ rw w.next-is (whole_fits s t _ gives _ _ w.in-Ok.is w.obey.ensures.fits)
      | in-Err w ↦ rw w.next-is (unread_fits s t _ gives _ _ w.in-Err.is w.into.ensures)
    ]

pub write-requires : goal.write-requires
write-requires g c =
    let fits = reply_fits g (goal.at.write-requires g c).Joined-record in
    omega arith

pub loop-record-preserved : goal.loop-record-preserved
loop-record-preserved g c =
    let s : Records = c.loop-record.record-iterator in
    let t : Records = c.next.new.self in
    let gives : NextRecord s (Some c.in-Some.record) t = c.in-Some.ensures.steps in
    let fits = reply_fits g (goal.at.loop-record-preserved g c).Joined-record in
    let room : c.loop-record.out.written + length (reply_bytes c.match-record.next.1) ≤ length c.loop-record.out.bytes.now = omega arith in
    let long = ap length c.write.ensures.bytes ∙ length-overwritten c.loop-record.out.bytes.now (reply_bytes c.match-record.next.1) c.loop-record.out.written room in (
      omega (arith, c.write.ensures.place),
      c.write.ensures.same_reference ∙ c.loop-record.invariant.1,
      λ method.
          let running = c.loop-record.invariant.2 method in
          let stands = running.standing in
          let turned : Turned (progress_at g.R.Field c.loop-record.stage) s.rest.now (progress_at g.R.Field c.match-record.next.0) c.match-record.next.1 t.rest.now =
          elim c.match-record.branch [
            | in-Ok w ↦ rw w.next-is (whole_turned s t _ gives _ stands _ _ _ w.in-Ok.is (w.obey.ensures.obeyed method stands))
            | in-Err w ↦ rw w.next-is (unread_turned s t _ gives _ stands _ _ w.in-Err.is w.into.ensures)
          ] in
          running_on _ _ _ _ _ _ running _ _ _ _ _ turned room c.write.ensures.place c.write.ensures.bytes,
    )

pub returns-clause-count : goal.returns-clause-count
returns-clause-count g c method = (running_end _ _ _ _ _ _ (c.loop-record.invariant.2 method) c.in-None.ensures.steps).0

pub returns-clause-bytes : goal.returns-clause-bytes
returns-clause-bytes g c method =
    let same = c.loop-record.invariant.1 in
    let written = (running_end _ _ _ _ _ _ (c.loop-record.invariant.2 method) c.in-None.ensures.steps).1 in
    grind arith
