-- Ten numbers made one after the other.
use Rattle.std.proofs.Common.{◌≡◌, ℕ, zero, suc, ◌+◌, ◌<◌, ◌≤◌, List, ◌∷◌, get_or, sym, refl, ap, ◌∙◌, subst, arith}
use native.Mathlib.Decide.{dec_lt}
use denote.Param.Members.{Mut, Called}
use Rattle.std.specs.Array.{IsFromFnResultFrom, IsFromFnResult}
use Rattle.polynomials.specs.Ten.{Filled}

-- the same number before the same places
pub shifted_at : (a : ℕ) (c p : List ℕ) → Filled 10 c (λ k. get_or p k 0) → (k : ℕ) → k < 10 → get_or (a ∷ c) k 0 ≡ get_or (a ∷ p) k 0
shifted_at a c p h zero l = refl
shifted_at a c p h (suc k) l = h.each k (omega arith)

-- a closure that a call leaves as it was, and that gives h of each index below ten
module _ {F : Type 0} {g : Mut F (ℕ × Unit {0}) ℕ} {f : F} (h : ℕ → ℕ) (gives : (i y : ℕ) (q : F) → i < 10 → Called g f (i, tt) y q → (q ≡ f) × (y ≡ h i)) where
  made_at : (ys : List ℕ) (i n : ℕ) → i + n ≤ 10 → IsFromFnResultFrom g f ys i n → (k : ℕ) → i ≤ k → k < i + n → get_or ys k 0 ≡ h k
  made_at ys i zero w m k a b = absurd (omega arith)
  made_at ys i (suc n) w (q, y, ey, call, rest) k a b =
      let made : (q ≡ f) × (y ≡ h i) = gives i y q (omega arith) call in
      elim (dec_lt i k) [
        | yes l ↦ made_at ys (i + 1) n (omega arith) (subst (λ p. IsFromFnResultFrom g p ys (i + 1) n) made.0 rest) k (omega arith) (omega arith)
        | no l ↦
            let e : k ≡ i = omega arith in
            ap (λ j. get_or ys j 0) e ∙ ey.1 0 ∙ made.1 ∙ ap h (sym e)
      ]

  -- makes h of each index of an array of ten
  pub array_made : {ys : List ℕ} → IsFromFnResult g f ys 10 → Filled 10 ys h
  array_made {ys} m = record { long = m.long; each = λ k l. made_at ys 0 10 (omega arith) m.each k (omega arith) l }
