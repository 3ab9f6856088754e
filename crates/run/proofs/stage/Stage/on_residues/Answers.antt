use Rattle.std.proofs.Common.{refl, ap}
use Rattle.run.specs.Progress.{based}
use Rattle.run.proofs.Steps.{choice-accepted, choice-refused, step-residues}
use Rattle.run.proofs.stage.Stage.on_residues.Goals as goal

pub returns-in-Ok-clause-obeyed : goal.returns-in-Ok-clause-obeyed
returns-in-Ok-clause-obeyed g c =
    choice-accepted _ _ _ _ _ _ (step-residues c.args.m) _ c.in-Ok.ensures.0 (ap based c.in-Ok.ensures.1)

pub returns-in-Err-clause-obeyed : goal.returns-in-Err-clause-obeyed
returns-in-Err-clause-obeyed g c =
    choice-refused _ _ _ _ _ _ (step-residues c.args.m) _ _ c.in-Err.why c.in-Err.ensures refl c.into.ensures
