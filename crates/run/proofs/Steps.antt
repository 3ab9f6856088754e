-- What a record does, by what the call behind it answers.
use Rattle.std.proofs.Common.{◌≡◌, ℕ, Ok, Err, Result, sym, refl, ap, ◌∙◌}
use Rattle.fields.specs.Arithmetic.{Arithmetic}
use Rattle.fields.specs.Residues.{residues, fill_answer}
use Rattle.fields.specs.Pairs.{pairs, pairs_answer}
use Rattle.fields.specs.declared.field.Field.{Ghosts}
use Rattle.fields.specs.declared.nine.Nine.{Nine}
use Rattle.fields.specs.declared.pairs.Pairs.{Pairs}
use Rattle.methods.specs.declared.curve.Curve.{Curve}
use Rattle.methods.specs.declared.curve.CurveRefusal.{CurveRefusal}
use Rattle.methods.specs.Curves.{curve_answer}
use Rattle.calculator.specs.Calls.{sixteen_neutral}
use Rattle.run.specs.declared.field.OneOf.{OneOf}
use Rattle.run.specs.declared.field.OneOf.TheVariants.{First, Second}
use Rattle.run.specs.declared.refusal.Refusal.{Refusal}
use Rattle.run.specs.declared.refusal.Refusal.TheVariants.{Field as RefusedField, Curve as RefusedCurve}
use Rattle.run.specs.declared.reply.Reply.TheVariants.{Silent, Refused}
use Rattle.run.specs.Records.{Command, modulus, square_root, coefficients}
use Rattle.run.specs.Progress.{Progress, start, based, paired, ready, step, chosen, curve_step}
use Rattle.run.specs.Stages.{chosen_meaning, progress_with, Obeyed}

module _ {E : Type 0} (why : E → Refusal) (p : Progress) (c : Command) (kind : ℕ) (q : Progress) (answer : Result (Unit {0}) E)
    (chooses : step p c ≡ chosen why p kind q answer) where
  -- A record that chooses is obeyed, where its call accepts and where it refuses.
  pub choice-accepted : (after : Progress) → answer ≡ Ok tt → after ≡ q → Obeyed p c after Silent
  choice-accepted after ok e =
      let s : step p c ≡ chosen why p kind q (Ok tt) = chooses ∙ ap (chosen why p kind q) ok in
      record { comes_to = e ∙ sym (ap (λ x. x.after) s); writes = sym (ap (λ x. x.reply) s) }

  pub choice-refused : (after : Progress) (w : Refusal) (e : E) → answer ≡ Err e → after ≡ p → w ≡ why e → Obeyed p c after (Refused kind w)
  choice-refused after w e err same is =
      let s : step p c ≡ chosen why p kind q (Err e) = chooses ∙ ap (chosen why p kind q) err in
      record { comes_to = same ∙ sym (ap (λ x. x.after) s); writes = ap (Refused kind) is ∙ sym (ap (λ x. x.reply) s) }

pub step-residues : (m : ℕ) → step start (modulus m) ≡ chosen RefusedField start 1 (based (residues m)) (fill_answer m m)
unfolding step
step-residues m = refl

pub step-pairs : (K : Arithmetic) (r : ℕ)
    → step (based K) (square_root r) ≡ chosen RefusedField (based K) 3 (paired (pairs K K.size r)) (pairs_answer K r)
unfolding step
step-pairs K r = refl

module _ {R : Type 0} (field : Ghosts R) (f : OneOf (OneOf R Nine) (Pairs (OneOf R Nine))) (C : Curve) where
  step_curve : step (progress_with field f) (coefficients C)
      ≡ chosen RefusedCurve (progress_with field f) 4 (ready (chosen_meaning field f) C sixteen_neutral) (curve_answer (chosen_meaning field f) C)
  unfolding step
  step_curve = elim f as (λ f. step (progress_with field f) (coefficients C) ≡ curve_step (progress_with field f) (chosen_meaning field f) C) [ First b ↦ refl | Second p ↦ refl ]

  -- The curve that is checked is that of the record.
  pub curve_accepted : (after : Progress) (D : Curve) → D ≡ C → curve_answer (chosen_meaning field f) D ≡ Ok tt
      → after ≡ ready (chosen_meaning field f) C sixteen_neutral → Obeyed (progress_with field f) (coefficients C) after Silent
  curve_accepted after D same ok =
      choice-accepted RefusedCurve (progress_with field f) (coefficients C) 4
      (ready (chosen_meaning field f) C sixteen_neutral) (curve_answer (chosen_meaning field f) C) step_curve after
      (ap (curve_answer (chosen_meaning field f)) (sym same) ∙ ok)

  pub curve_refused : (after : Progress) (w : Refusal) (D : Curve) (e : CurveRefusal) → D ≡ C → curve_answer (chosen_meaning field f) D ≡ Err e
      → after ≡ progress_with field f → w ≡ RefusedCurve e → Obeyed (progress_with field f) (coefficients C) after (Refused 4 w)
  curve_refused after w D e same err =
      choice-refused RefusedCurve (progress_with field f) (coefficients C) 4
      (ready (chosen_meaning field f) C sixteen_neutral) (curve_answer (chosen_meaning field f) C) step_curve after w e
      (ap (curve_answer (chosen_meaning field f)) (sym same) ∙ err)
