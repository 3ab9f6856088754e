-- Differences, multiples by a constant, derivatives and leading coefficients of lists are those of polynomials; the length
-- and the leading coefficient of a product.
use Rattle.std.proofs.Common.{◌≡◌, ℕ, zero, suc, ◌+◌, ◌<◌, ◌≢◌, length, get_or, sym, refl, ap, ◌∙◌}
use Rattle.algebra.specs.Ring as ring
use Rattle.algebra.specs.Ring.{Ops, sub}
use Rattle.algebra.specs.Field.{Field}
use Rattle.algebra.specs.Polynomials as theory
use Rattle.algebra.specs.Polynomials.{Polynomials, constant}
use Rattle.algebra.proofs.PolynomialRing as A
use Rattle.algebra.proofs.Size as S
use Rattle.algebra.proofs.Monic as M
use Rattle.algebra.proofs.Derivative as D
use Rattle.fields.specs.Arithmetic.{Arithmetic}
use Rattle.fields.specs.Lawful.{Lawful}
use Rattle.fields.proofs.Codes.{Code, code_path, codes, field}
use Rattle.polynomials.specs.Polynomial.{Polynomial, trim, leading, add, scale, negate, subtract, numeral, derive, sum, negative, difference, product, multiple, derivative}
use Rattle.polynomials.specs.Proper.{Listed}
use Rattle.polynomials.proofs.Coefficients.{trim-at, add_at, scale_at, negate-codes, trim-codes}
use Rattle.polynomials.proofs.Derivatives.{derive-at}
use Rattle.polynomials.proofs.Listed.{difference_proper, multiple_proper, derivative_proper, polynomials}
use Rattle.polynomials.proofs.Presentation.{coefficient, same_lists, nil_number, presentation}

module _ (K : Arithmetic) (L : Lawful K) where
  abbrev P : Ops (Listed K)
  P = polynomials K L

  abbrev F : Field (codes K L)
  F = field K L

  abbrev H : Polynomials (codes K L) P
  H = presentation K L

  abbrev pub difference_of : Listed K → Listed K → Listed K
  difference_of a b = (difference K a.0 b.0, difference_proper K L a.1 b.0)

  pub difference_is : (a b : Listed K) → difference_of a b ≡ sub P a b
  unfolding polynomials difference sum negative
  difference_is a b =
      let n : Polynomial = negate K b.0 in
      same_lists K (difference_of a b) (sub P a b) λ k.
      trim-at (subtract K a.0 b.0) k
      ∙ add_at K L a.0 n a.1.codes (negate-codes K L b.0) k
      ∙ ap (K.plus (get_or a.0 k 0)) (sym (trim-at n k))
      ∙ sym (add_at K L a.0 (trim n) a.1.codes (trim-codes K L n (negate-codes K L b.0)) k)
      ∙ sym (trim-at (add K a.0 (trim n)) k)

  abbrev pub multiple_of : ℕ → Listed K → Listed K
  multiple_of c a = (multiple K c a.0, multiple_proper K L c a.0)

  pub multiple-at : (c : Code K.size) (a : Listed K) (k : ℕ) → coefficient K (multiple_of c.0 a) k ≡ (codes K L).mul c (coefficient K a k)
  unfolding codes multiple
  multiple-at c a k = code_path (trim-at (scale K c.0 a.0) k ∙ scale_at K L c.0 a.0 k)

  pub multiple_is : (c : Code K.size) (a : Listed K) → multiple_of c.0 a ≡ P.mul (constant H c) a
  multiple_is c a =
      A.same_at F H (multiple_of c.0 a) (P.mul (constant H c) a) λ k.
      multiple-at c a k ∙ sym (A.constant-at F H c a k)

  -- Derivatives.

  pub numeral_is : (n : ℕ) → numeral K n ≡ (ring.numeral (codes K L) n).0
  unfolding codes
  numeral_is zero = refl
  numeral_is (suc n) = ap (K.plus 1) (numeral_is n)

  abbrev pub derivative_of : Listed K → Listed K
  derivative_of a = (derivative K a.0, derivative_proper K L a.0)

  derivative-at : (a : Listed K) (k : ℕ)
      → coefficient K (derivative_of a) k ≡ (codes K L).mul (ring.numeral (codes K L) (suc k)) (coefficient K a (suc k))
  unfolding codes derivative
  derivative-at a k =
      code_path (trim-at (derive K a.0) k
      ∙ derive-at K L a.0 k
      ∙ ap (λ c. K.times c (get_or a.0 (suc k) 0)) (numeral_is (suc k)))

  pub derivative_is : (a : Listed K) → derivative_of a ≡ theory.derivative H a
  derivative_is a =
      A.same_at F H (derivative_of a) (theory.derivative H a) λ k. derivative-at a k ∙ sym (D.derivative-at F H a k)

  -- Leading coefficients and lengths.

  pub leading_is : (a : Listed K) → leading a.0 ≡ (theory.leading H a).0
  unfolding theory.leading
  leading_is a = refl

  pub multiple-length_is : (c : Code K.size) (a : Listed K) → c.0 ≢ 0 → length (multiple K c.0 a.0) ≡ length a.0
  multiple-length_is c a some =
      ap (λ (p : Listed K). length p.0) (multiple_is c a)
      ∙ S.size_constant-mul F H c a (λ e. some (ap (λ (b : Code K.size). b.0) e ∙ nil_number K L))

  -- the degrees of factors that are not 0 add up
  pub product-length_is : (a b : Listed K) → 0 < length a.0 → 0 < length b.0
      → suc (length (product K a.0 b.0)) ≡ length a.0 + length b.0
  unfolding polynomials
  product-length_is a b la lb = S.size_mul_some F H a b (S.some_size F H a la) (S.some_size F H b lb)

  pub leading-product : (a b : Listed K) → leading (product K a.0 b.0) ≡ K.times (leading a.0) (leading b.0)
  unfolding polynomials codes theory.leading
  leading-product a b = ap (λ (c : Code K.size). c.0) (M.leading-mul F H a b)
