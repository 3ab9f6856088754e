-- Polynomials given by their coefficients: how many there are, and which is the highest.
use Rattle.std.proofs.Common.{◌≡◌, ℕ, suc, pred, ◌-◌, ◌≤◌, List, length, get_or, sym, refl, ap, ◌∙◌, arith}
use lib.ListN.{get_or-eq_default}
use Rattle.algebra.specs.Polynomials.{Monic}
use Rattle.fields.specs.Arithmetic.{Arithmetic}
use Rattle.fields.specs.Lawful.{Lawful}
use Rattle.fields.proofs.Codes.{Code, code_path, codes, one_code}
use Rattle.polynomials.specs.Polynomial.{Polynomial, leading}
use Rattle.polynomials.specs.Proper.{Proper, Listed}
use Rattle.polynomials.specs.Ten.{code, value}
use Rattle.polynomials.proofs.Coefficients.{trim_equal, trim_within, counted}
use Rattle.polynomials.proofs.Tens.{code_zero, code_inside, value-at, value_trimmed, value_proper}
use Rattle.polynomials.proofs.Presentation.{presentation}
use Rattle.polynomials.proofs.Operations.{leading_is}

module _ (K : Arithmetic) where
  -- no number from n on that is not 0: a degree below n
  pub value_within : (c : List ℕ) (n : ℕ) → ((k : ℕ) → n ≤ k → get_or c k 0 ≡ 0) → length (value K c) ≤ n
  value_within c n above =
      omega (
        arith,
        ap length (value_trimmed K c),
        trim_within (value K c) n (λ k l. value-at K c k ∙ ap (code K) (above k l) ∙ code_zero K),
      )

  pub value_same : (c d : List ℕ) → ((k : ℕ) → get_or c k 0 ≡ get_or d k 0) → value K c ≡ value K d
  value_same c d same =
      sym (value_trimmed K c)
      ∙ trim_equal (value K c) (value K d) (λ k. value-at K c k ∙ ap (code K) (same k) ∙ sym (value-at K d k))
      ∙ value_trimmed K d

  -- a polynomial stands for itself
  pub value_is : {p : Polynomial} → Proper K p → value K p ≡ p
  value_is {p} h =
      sym (value_trimmed K p)
      ∙ trim_equal (value K p) p (λ k. value-at K p k ∙ code_inside K (get_or p k 0) (h.codes k))
      ∙ h.trimmed

  module _ (L : Lawful K) where
    abbrev pub value_of : List ℕ → Listed K
    value_of c = (value K c, value_proper K L c)

    -- Numbers of which the last is 1 stand for a monic polynomial.
    module _ (c : List ℕ) (n : ℕ) (long : length c ≡ suc n) (last : get_or c n 0 ≡ 1) where
      top : get_or (value K c) n 0 ≡ 1
      top = value-at K c n ∙ ap (code K) last ∙ code_inside K 1 (one_code K L)

      pub monic-value-length : length (value K c) ≡ suc n
      monic-value-length =
          sym (counted (value K c) (suc n)
          (λ k l. value-at K c k ∙ ap (code K) (get_or-eq_default c 0 (omega arith)) ∙ code_zero K)
          (λ _ z. omega (arith, top, ap (λ m. get_or (value K c) m 0) same))
          ∙ ap length (value_trimmed K c))
        where
          same : n ≡ suc n - 1
          same = omega arith

      pub monic-value-leading : leading (value K c) ≡ 1
      monic-value-leading = ap (λ m. get_or (value K c) (pred m) 0) monic-value-length ∙ top

    -- A leading coefficient 1 in the two ways of saying so.

    unit_number : (codes K L).unit.0 ≡ 1
    unfolding codes
    unit_number = refl

    pub leading-monic : (a : Listed K) → leading a.0 ≡ 1 → Monic (presentation K L) a
    leading-monic a e = code_path (sym (leading_is K L a) ∙ e ∙ sym unit_number)

    pub monic-leading : (a : Listed K) → Monic (presentation K L) a → leading a.0 ≡ 1
    monic-leading a m = leading_is K L a ∙ ap (λ (c : Code K.size). c.0) m ∙ unit_number
