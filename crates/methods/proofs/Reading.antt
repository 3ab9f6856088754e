-- Ten numbers that end in zeros are read as the numbers before them; u and v as they are read from a divisor's numbers, and
-- how long they are.
use Rattle.std.proofs.Common.{◌≡◌, ℕ, zero, suc, ◌≤◌, ◌≢◌, List, [], ◌∷◌, ◌++◌, map, length, replicate, sym, refl, ap, ap₂, arith}
use Rattle.fields.specs.Arithmetic.{Arithmetic}
use Rattle.polynomials.specs.Polynomial.{attach, trim}
use Rattle.polynomials.specs.Ten.{code, value}
use Rattle.polynomials.proofs.Tens.{code_zero, value-length}
use Rattle.methods.specs.declared.divisor.Linear.{Linear}
use Rattle.methods.specs.declared.divisor.Divisor.{Divisor}
use Rattle.methods.specs.Divisors.{monic_codes, u_of, v_of}

monic_codes-two : (d : ℕ) (l : Linear) → d ≢ 0 → d ≢ 1 → monic_codes d l ≡ l.x0 ∷ l.x1 ∷ 1 ∷ []
monic_codes-two zero l z o = absurd (z refl)
monic_codes-two (suc zero) l z o = absurd (o refl)
monic_codes-two (suc (suc d)) l z o = refl

monic_codes_few : (d : ℕ) (l : Linear) → length (monic_codes d l) ≤ 3
monic_codes_few zero l = omega arith
monic_codes_few (suc zero) l = omega arith
monic_codes_few (suc (suc d)) l = omega arith

module _ (K : Arithmetic) where
  zeros_read : (n : ℕ) → trim (map (code K) (replicate n 0)) ≡ []
  zeros_read zero = refl
  zeros_read (suc n) = ap₂ attach (code_zero K) (zeros_read n)

  padded_read : (c : List ℕ) (n : ℕ) → trim (map (code K) (c ++ replicate n 0)) ≡ trim (map (code K) c)
  padded_read [] n = zeros_read n
  padded_read (a ∷ c) n = ap (attach (code K a)) (padded_read c n)

  pub value_padded : (c : List ℕ) (n : ℕ) → value K (c ++ replicate n 0) ≡ value K c
  unfolding value
  value_padded c n = padded_read c n

  -- u from the numbers that stand for it, by its degree

  pub u-zero : (D : Divisor) → D.degree ≡ 0 → value K (1 ∷ []) ≡ u_of K D
  unfolding u_of
  u-zero D e = ap (λ d. value K (monic_codes d D.u)) (sym e)

  pub u-one : (D : Divisor) → D.degree ≡ 1 → value K (D.u.x0 ∷ 1 ∷ []) ≡ u_of K D
  unfolding u_of
  u-one D e = ap (λ d. value K (monic_codes d D.u)) (sym e)

  pub u-two : (D : Divisor) → D.degree ≢ 0 → D.degree ≢ 1 → value K (D.u.x0 ∷ D.u.x1 ∷ 1 ∷ []) ≡ u_of K D
  unfolding u_of
  u-two D z o = ap (value K) (sym (monic_codes-two D.degree D.u z o))

  -- lengths

  pub u-short : (D : Divisor) → length (u_of K D) ≤ 3
  unfolding u_of
  u-short D = omega (arith, value-length K (monic_codes D.degree D.u), monic_codes_few D.degree D.u)

  pub v-short : (D : Divisor) → length (v_of K D) ≤ 2
  unfolding v_of
  v-short D = value-length K (D.v.x0 ∷ D.v.x1 ∷ [])
