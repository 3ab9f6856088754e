-- The ten bytes of a valid divisor read back are that divisor, and enter it again.
use Rattle.std.proofs.Common.{◌≡◌, ℕ, ◌+◌, ◌*◌, ◌/◌, ◌%◌, ◌<◌, cond, List, [], ◌∷◌, Ok, Err, Result, refl, ap, ◌∙◌, arith}
use Rattle.std.proofs.lemmas.Bool.{lt-ltb}
use Rattle.fields.specs.Arithmetic.{Arithmetic}
use Rattle.fields.specs.Lawful.{Lawful}
use Rattle.methods.specs.declared.curve.Curve.{Curve}
use Rattle.methods.specs.declared.divisor.Divisor.{Divisor}
use Rattle.methods.specs.Divisors.{Valid, entered}
use Rattle.methods.proofs.Representations.{valid_shaped}
use Rattle.calculator.specs.declared.call.Call.TheVariants.{Enter, Show}
use Rattle.calculator.specs.declared.call.CallRefusal.{CallRefusal}
use Rattle.calculator.specs.declared.call.CallRefusal.TheVariants.{NoSuchRegister}
use Rattle.calculator.specs.Calls.{at, numbered, or_invalid, given, posted, said}
use Rattle.run.specs.declared.reply.Reply.TheVariants.{Shown}
use Rattle.run.specs.Bytes.{divisor_at, divisor_bytes}
use Rattle.run.specs.Records.{call, whole, reading}
use Rattle.run.specs.Progress.{ready, reply_bytes, replied, step}
use Rattle.run.specs.Laws.{ShownAgain}
use Rattle.run.proofs.Reading.{read_whole}
use Rattle.run.proofs.Refusals.{one_written, one-behind}

-- A number in two bytes.
code_back : (a : ℕ) → a < 65536 → a % 256 + a / 256 % 256 * 256 ≡ a
code_back a small = omega arith

linears_back : (D : Divisor) {u1 u0 v1 v0 : ℕ} → u1 ≡ D.u.x1 → u0 ≡ D.u.x0 → v1 ≡ D.v.x1 → v0 ≡ D.v.x0
    → ◌≡◌ {A = Divisor} (record { degree = D.degree; u = record { x1 = u1; x0 = u0 }; v = record { x1 = v1; x0 = v0 }; n = D.n }) D
linears_back D e1 e0 h1 h0 = rw (e1, e0, h1, h0)

-- A valid divisor over a lawful field fits its ten bytes.
pub divisor_back : (K : Arithmetic) (L : Lawful K) (C : Curve) (D : Divisor) → Valid K C D → divisor_at (divisor_bytes D) ≡ D
divisor_back K L C D valid =
    let s = valid_shaped K L C D valid in
    let most = L.most_size in
    linears_back D (code_back _ (omega (arith, s.u_codes.code_1))) (code_back _ (omega (arith, s.u_codes.code_0)))
    (code_back _ (omega (arith, s.v_codes.code_1))) (code_back _ (omega (arith, s.v_codes.code_0)))

numbered_fine : {X : Type 0} (k : ℕ) (r : Result X CallRefusal) → k < 16 → numbered k r ≡ r
numbered_fine k r small = ap (λ b. cond b r (Err NoSuchRegister)) (lt-ltb k 16 small)

module _ (K : Arithmetic) (L : Lawful K) (C : Curve) (rs : List Divisor) (k t : ℕ) (small-k : k < 16) (small-t : t < 16)
    (valid : Valid K C (at rs k)) where
  show_read : reading (9 ∷ k ∷ []) ≡ whole (call (Show k)) []
  show_read = read_whole 9 _ (k ∷ []) [] refl refl

  shown-reply : (step (ready K C rs) (call (Show k))).reply ≡ Shown k (at rs k)
  unfolding step
  shown-reply = ap (λ r. replied (Show k) (said (Show k) r)) (numbered_fine k (Ok (at rs k)) small-k)

  enter_read : reading (5 ∷ t ∷ divisor_bytes (at rs k)) ≡ whole (call (Enter t (at rs k))) []
  enter_read =
      read_whole 5 _ (t ∷ divisor_bytes (at rs k)) [] refl refl
      ∙ ap (λ E. whole (call (Enter t E)) []) (divisor_back K L C (at rs k) valid)

  enter_gives : given K C rs (Enter t (at rs k)) ≡ Ok (at rs k)
  enter_gives = numbered_fine t (or_invalid (entered K C (at rs k))) small-t ∙ ap or_invalid valid

  pub shown_again : ShownAgain K C rs k t
  unfolding step
  shown_again =
      record {
        shows = one_written (ready K C rs) (9 ∷ k ∷ []) (call (Show k)) show_read ∙ ap reply_bytes shown-reply;
        reads_back = divisor_back K L C (at rs k) valid;
        accepted =
            one_written (ready K C rs) (5 ∷ t ∷ divisor_bytes (at rs k)) (call (Enter t (at rs k))) enter_read
            ∙ ap (λ r. reply_bytes (replied (Enter t (at rs k)) (said (Enter t (at rs k)) r))) enter_gives;
        entered =
            one-behind (ready K C rs) (5 ∷ t ∷ divisor_bytes (at rs k)) (call (Enter t (at rs k))) enter_read
            ∙ ap (λ r. ready K C (posted rs (Enter t (at rs k)) r)) enter_gives;
      }
