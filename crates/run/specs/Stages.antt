-- What a stage of the code stands for, over the meaning of the field of residues.
use Rattle.std.specs.Prelude.{◌≡◌}
use Rattle.fields.specs.Arithmetic.{Arithmetic}
use Rattle.fields.specs.Nine.{nine}
use Rattle.fields.specs.Pairs.{pairs}
use Rattle.fields.specs.declared.field.Field.{Ghosts}
use Rattle.fields.specs.declared.nine.Nine.{Nine}
use Rattle.fields.specs.declared.pairs.Pairs.{Pairs}
use Rattle.calculator.specs.declared.calculator.Calculator.{Calculator}
use Rattle.calculator.specs.Calculators.{held}
use Rattle.run.specs.declared.field.OneOf.{OneOf}
use Rattle.run.specs.declared.reply.Reply.{Reply}
use Rattle.run.specs.declared.stage.Stage.{Stage}
use Rattle.run.specs.declared.stage.Stage.TheVariants.{Start, Based, Paired, Ready}
use Rattle.run.specs.Choices.{one_of}
use Rattle.run.specs.Records.{Command}
use Rattle.run.specs.Progress.{Progress, start, based, paired, ready, step}

-- A record was obeyed: how far the run is after it, and what is written, are those of the step.
pub record Obeyed (before : Progress) (c : Command) (after : Progress) (written : Reply) : Type 0 where
  pub comes_to : after ≡ (step before c).after
  pub writes : written ≡ (step before c).reply

module _ {R : Type 0} (field : Ghosts R) where
  -- the meaning of a base field, of pairs over one, and of the field of a sheet
  abbrev pub base_meaning : OneOf R Nine → Arithmetic
  base_meaning = one_of field.meaning (λ _. nine)

  abbrev pub pairs_meaning : Pairs (OneOf R Nine) → Arithmetic
  pairs_meaning p = pairs (base_meaning p.below) p.q p.r

  abbrev pub chosen_meaning : OneOf (OneOf R Nine) (Pairs (OneOf R Nine)) → Arithmetic
  chosen_meaning = one_of base_meaning pairs_meaning

  -- how far a run has come with a field, with a calculator, and at a stage
  abbrev pub progress_with : OneOf (OneOf R Nine) (Pairs (OneOf R Nine)) → Progress
  progress_with = one_of (λ b. based (base_meaning b)) (λ p. paired (pairs_meaning p))

  abbrev pub progress_of : {M : Type 0} → Calculator (OneOf (OneOf R Nine) (Pairs (OneOf R Nine))) M → Progress
  progress_of c = ready (chosen_meaning c.model.field) c.model.curve (held c)

  abbrev pub progress_at : {T M : Type 0} → Stage T R M → Progress
  progress_at (Start t) = start
  progress_at (Based b) = based (base_meaning b)
  progress_at (Paired p) = paired (pairs_meaning p)
  progress_at (Ready c) = progress_of c
