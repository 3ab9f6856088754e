-- How far a run has come, and what an arriving record does: what is written for it, and how far the run is after it.
use Rattle.std.specs.Prelude.{ℕ, List, [], ◌∷◌, Some, None, Ok, Err, Result}
use Rattle.fields.specs.Arithmetic.{Arithmetic}
use Rattle.fields.specs.Lawful.{Lawful}
use Rattle.fields.specs.Residues.{residues, fill_answer}
use Rattle.fields.specs.Nine.{nine}
use Rattle.fields.specs.Pairs.{pairs, pairs_answer}
use Rattle.methods.specs.declared.curve.Curve.{Curve}
use Rattle.methods.specs.declared.divisor.Divisor.{Divisor}
use Rattle.methods.specs.Curves.{Accepted, curve_answer}
use Rattle.calculator.specs.declared.call.Call.{Call}
use Rattle.calculator.specs.declared.call.Call.TheVariants.{Enter, Add, Double, Negate, Show}
use Rattle.calculator.specs.Calls.{Answer, sixteen_neutral, reply, next}
use Rattle.run.specs.declared.reply.Reply.{Reply}
use Rattle.run.specs.declared.reply.Reply.TheVariants.{Silent, Shown, Refused}
use Rattle.run.specs.declared.refusal.Refusal.{Refusal}
use Rattle.run.specs.declared.refusal.Refusal.TheVariants.{Field as RefusedField, Curve as RefusedCurve, Call as RefusedCall, OutOfTurn}
use Rattle.run.specs.Bytes.{divisor_bytes}
use Rattle.run.specs.Refusals.{run_refusal_number}
use Rattle.run.specs.Records.{Command, modulus, nine_elements, square_root, coefficients, call, kind_of_call, kind_of}

-- What the accepted records have brought: nothing yet; a field, by a record of kind 1 or 2; a field, by one of kind 3; or a
-- curve over a field, with the sixteen registers.
pub data Progress : Type 0 where
  start : Progress
  based : Arithmetic → Progress
  paired : Arithmetic → Progress
  ready : Arithmetic → Curve → List Divisor → Progress

-- The field is lawful, and the curve is accepted over it.
abbrev pub Standing : Progress → Type 0
Standing start = Unit {0}
Standing (based K) = Lawful K
Standing (paired K) = Lawful K
Standing (ready K C rs) = Lawful K × Accepted K C

-- Show writes kind 16, the register and its divisor; a refusal writes kind 17, the record's kind and the number of its reason.
abbrev pub reply_bytes : Reply → List ℕ
reply_bytes Silent = []
reply_bytes (Shown register D) = 16 ∷ register ∷ divisor_bytes D
reply_bytes (Refused kind why) = 17 ∷ kind ∷ run_refusal_number why ∷ []

-- What is written for a call that is accepted, and for a call by its answer.
abbrev pub accepted_reply : Call → Divisor → Reply
accepted_reply (Enter t D) E = Silent
accepted_reply (Add t a b) E = Silent
accepted_reply (Double t a) E = Silent
accepted_reply (Negate t a) E = Silent
accepted_reply (Show a) E = Shown a E

abbrev pub replied : Call → Answer → Reply
replied c (Err e) = Refused (kind_of_call c) (RefusedCall e)
replied c (Ok (Some D)) = accepted_reply c D
replied c (Ok None) = Silent

-- What an arriving record does.
pub record Step : Type 0 where
  pub reply : Reply
  pub after : Progress

abbrev pub accepted : Progress → Step
accepted q = record { reply = Silent; after = q }

-- A refusal leaves the run where it was.
abbrev pub refused : Progress → (kind : ℕ) → Refusal → Step
refused p kind why = record { reply = Refused kind why; after = p }

abbrev pub out_of_turn : Progress → Command → Step
out_of_turn p c = refused p (kind_of c) OutOfTurn

-- A record that chooses a field or a curve, by what the call answers.
abbrev pub chosen : {E : Type 0} → (E → Refusal) → (p : Progress) (kind : ℕ) (q : Progress) → Result (Unit {0}) E → Step
chosen why p kind q (Ok _) = accepted q
chosen why p kind q (Err e) = refused p kind (why e)

abbrev pub curve_step : Progress → Arithmetic → Curve → Step
curve_step p K C = chosen RefusedCurve p 4 (ready K C sixteen_neutral) (curve_answer K C)

-- First comes kind 1 or 2, then at most one of kind 3, then kind 4, then kinds 5 to 9.
unfoldable pub step : Progress → Command → Step
step start (modulus m) = chosen RefusedField start 1 (based (residues m)) (fill_answer m m)
step start nine_elements = accepted (based nine)
step start (square_root r) = out_of_turn start (square_root r)
step start (coefficients C) = out_of_turn start (coefficients C)
step start (call c) = out_of_turn start (call c)
step (based K) (modulus m) = out_of_turn (based K) (modulus m)
step (based K) nine_elements = out_of_turn (based K) nine_elements
step (based K) (square_root r) = chosen RefusedField (based K) 3 (paired (pairs K K.size r)) (pairs_answer K r)
step (based K) (coefficients C) = curve_step (based K) K C
step (based K) (call c) = out_of_turn (based K) (call c)
step (paired K) (modulus m) = out_of_turn (paired K) (modulus m)
step (paired K) nine_elements = out_of_turn (paired K) nine_elements
step (paired K) (square_root r) = out_of_turn (paired K) (square_root r)
step (paired K) (coefficients C) = curve_step (paired K) K C
step (paired K) (call c) = out_of_turn (paired K) (call c)
step (ready K C rs) (modulus m) = out_of_turn (ready K C rs) (modulus m)
step (ready K C rs) nine_elements = out_of_turn (ready K C rs) nine_elements
step (ready K C rs) (square_root r) = out_of_turn (ready K C rs) (square_root r)
step (ready K C rs) (coefficients D) = out_of_turn (ready K C rs) (coefficients D)
step (ready K C rs) (call c) = record { reply = replied c (reply K C rs c); after = ready K C (next K C rs c) }
