-- The coefficients of a derivative.
use Rattle.std.proofs.Common.{◌≡◌, ℕ, zero, suc, ◌+◌, ◌-◌, ◌≤◌, [], ◌∷◌, length, get_or, sym, refl, ap, ◌∙◌, arith}
use Rattle.fields.specs.Arithmetic.{Arithmetic}
use Rattle.fields.specs.Lawful.{Lawful}
use Rattle.polynomials.specs.Polynomial.{Polynomial, numeral, weigh, derive, derivative}
use Rattle.polynomials.proofs.Laws.{times_zero}
use Rattle.polynomials.proofs.Coefficients.{Codes, code_by, trim_shorter}

module _ (K : Arithmetic) where
  weigh-length : (n : ℕ) (p : Polynomial) → length (weigh K n p) ≡ length p
  weigh-length n [] = refl
  weigh-length n (a ∷ p) = ap suc (weigh-length (suc n) p)

  pub derivative-length : (p : Polynomial) → length (derivative K p) ≤ length p - 1
  unfolding derivative
  derivative-length [] = omega arith
  derivative-length (a ∷ p) = omega (arith, trim_shorter (weigh K 1 p), weigh-length 1 p)

  module _ (L : Lawful K) where
    weigh-at : (n : ℕ) (p : Polynomial) (k : ℕ) → get_or (weigh K n p) k 0 ≡ K.times (numeral K (n + k)) (get_or p k 0)
    weigh-at n [] k = sym (times_zero K L (numeral K (n + k)))
    weigh-at n (a ∷ p) zero = let e : n ≡ n + 0 = omega arith in ap (λ m. K.times (numeral K m) a) e
    weigh-at n (a ∷ p) (suc k) =
        let e : suc n + k ≡ n + suc k = omega arith in
        weigh-at (suc n) p k ∙ ap (λ m. K.times (numeral K m) (get_or p k 0)) e

    -- (k + 1)·(the coefficient of x^(k + 1))
    pub derive-at : (p : Polynomial) (k : ℕ) → get_or (derive K p) k 0 ≡ K.times (numeral K (suc k)) (get_or p (suc k) 0)
    derive-at [] k = sym (times_zero K L (numeral K (suc k)))
    derive-at (a ∷ p) k =
        let e : 1 + k ≡ suc k = omega arith in
        weigh-at 1 p k ∙ ap (λ m. K.times (numeral K m) (get_or p k 0)) e

    pub derive-codes : (p : Polynomial) → Codes K L (derive K p)
    derive-codes p k = code_by K L (derive-at p k) (L.products.answers_code (numeral K (suc k)) (get_or p (suc k) 0))
