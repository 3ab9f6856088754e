use Rattle.std.proofs.Common.{ap, ◌∙◌}
use Rattle.run.specs.Progress.{ready}
use Rattle.run.specs.Stages.{chosen_meaning, progress_with}
use Rattle.run.proofs.Steps.{curve_accepted, curve_refused}
use Rattle.run.proofs.stage.Stage.on_curve.Goals as goal

pub returns-in-Ok-clause-obeyed : goal.returns-in-Ok-clause-obeyed
returns-in-Ok-clause-obeyed g c lawful =
    let h = c.in-Ok.ensures in
    let k = c.new.ensures in
    curve_accepted g.R.Field c.args.field c.args.curve _ _ c.from.ensures (h.answer lawful)
    (rw (k.model, h.holds.0, h.holds.1, c.from.ensures)
    (ap (ready (chosen_meaning g.R.Field c.args.field) c.args.curve) k.fresh))

pub returns-in-Err-clause-obeyed : goal.returns-in-Err-clause-obeyed
returns-in-Err-clause-obeyed g c lawful =
    let h = c.in-Err.ensures in
    curve_refused g.R.Field c.args.field c.args.curve _ _ _ c.in-Err.why c.from.ensures (h.answer lawful)
    (c.with.ensures ∙ ap (progress_with g.R.Field) h.holds.0) c.into.ensures
