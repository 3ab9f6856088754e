use Rattle.std.proofs.Common.{ap, ◌∙◌}
use Rattle.calculator.specs.Calculators.{Sound}
use Rattle.run.specs.Progress.{ready, replied, step}
use Rattle.run.specs.Stages.{chosen_meaning}
use Rattle.run.proofs.stage.Stage.on_call.Goals as goal

pub returns-clause-obeyed : goal.returns-clause-obeyed
unfolding step
returns-clause-obeyed g c method standing =
    let sent = c.send-answer.ensures in
    let old = c.args.calculator in
    let sound : Sound _ _ old = record { lawful = standing.0; accepted = standing.1; method = method } in
    record {
      comes_to =
          rw sent.left.model
          (ap (ready (chosen_meaning g.R.Field old.model.field) old.model.curve) (sent.left.registers sound));
      writes = c.replied.ensures.same ∙ ap (replied c.args.call) (sent.answer sound);
    }
