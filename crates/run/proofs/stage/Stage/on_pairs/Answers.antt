use Rattle.std.proofs.Common.{◌≡◌, sym, ap, ◌∙◌}
use Rattle.fields.specs.Arithmetic.{Arithmetic}
use Rattle.fields.specs.Pairs.{pairs, pairs_answer}
use Rattle.run.specs.Progress.{based, paired}
use Rattle.run.specs.Stages.{base_meaning, pairs_meaning}
use Rattle.run.proofs.Steps.{choice-accepted, choice-refused, step-pairs}
use Rattle.run.proofs.stage.Stage.on_pairs.Goals as goal

pub returns-in-Ok-clause-obeyed : goal.returns-in-Ok-clause-obeyed
returns-in-Ok-clause-obeyed g c =
    let K : Arithmetic = base_meaning g.R.Field c.args.base in
    let h = c.in-Ok.ensures in
    let same : pairs_meaning g.R.Field c.in-Ok.pairs ≡ pairs K K.size c.args.r =
    rw (h.holds.0, h.holds.1, h.holds.2, c.from.ensures) in
    choice-accepted _ _ _ _ _ _ (step-pairs K c.args.r) _ (sym (ap (pairs_answer K) c.from.ensures) ∙ h.answer) (ap paired same)

pub returns-in-Err-clause-obeyed : goal.returns-in-Err-clause-obeyed
returns-in-Err-clause-obeyed g c =
    let K : Arithmetic = base_meaning g.R.Field c.args.base in
    let h = c.in-Err.ensures in
    choice-refused _ _ _ _ _ _ (step-pairs K c.args.r) _ _ c.in-Err.why (sym (ap (pairs_answer K) c.from.ensures) ∙ h.answer)
    (ap (λ b. based (base_meaning g.R.Field b)) h.holds) c.into.ensures
