-- The lists of codes are the polynomial ring over their field, in the sense of algebra.
use Rattle.std.proofs.Common.{◌≡◌, ℕ, zero, suc, ◌<◌, ◌≤◌, ◌≢◌, [], ◌∷◌, length, get_or, sym, refl, ap, ◌∙◌, arith}
use mathlib.Core.Path.{fun_ext}
use lib.ListN.{get_or-eq_default}
use Rattle.algebra.specs.Ring.{Laws}
use Rattle.algebra.specs.Series.{times, constant, series}
use Rattle.algebra.specs.Polynomials.{Polynomials}
use Rattle.algebra.proofs.PolynomialRing.{polynomial_laws}
use Rattle.fields.specs.Arithmetic.{Arithmetic}
use Rattle.fields.specs.Lawful.{Lawful}
use Rattle.fields.proofs.Codes.{Code, code_path, codes, field, zero-code}
use Rattle.polynomials.specs.Polynomial.{Polynomial, trim, add, negate, multiply, sum, negative, product}
use Rattle.polynomials.specs.Proper.{Listed}
use Rattle.polynomials.proofs.Coefficients.{Codes, trim-at, trim_equal, trim_last, add_at, negate-at, folded, multiply-at}
use Rattle.polynomials.proofs.Listed.{listed_path, trim_proper, polynomials}

module _ (K : Arithmetic) where
  -- the coefficient of x^k, as a code
  abbrev pub coefficient : Listed K → ℕ → Code K.size
  coefficient a k = (get_or a.0 k 0, a.1.codes k)

  pub same_lists : (a b : Listed K) → ((k : ℕ) → get_or a.0 k 0 ≡ get_or b.0 k 0) → a ≡ b
  same_lists a b e = listed_path (sym a.1.trimmed ∙ trim_equal a.0 b.0 e ∙ b.1.trimmed)

  pub same-coefficients : (a b : Listed K) → coefficient a ≡ coefficient b → a ≡ b
  same-coefficients a b e = same_lists a b λ k. ap (λ (s : ℕ → Code K.size). (s k).0) e

  -- the last coefficient of a polynomial is not 0
  pub last_some : (a : Listed K) (d : ℕ) → length a.0 ≡ suc d → get_or a.0 d 0 ≢ 0
  last_some a d e z = trim_last a.0 d (ap length a.1.trimmed ∙ e) (trim-at a.0 d ∙ z)

  -- the first n numbers of a row of codes
  abbrev pub row : ℕ → (ℕ → Code K.size) → Polynomial
  row zero s = []
  row (suc n) s = (s 0).0 ∷ row n (λ k. s (suc k))

  pub row_at : (n : ℕ) (s : ℕ → Code K.size) (k : ℕ) → k < n → get_or (row n s) k 0 ≡ (s k).0
  row_at zero s k h = absurd (omega arith)
  row_at (suc n) s zero h = refl
  row_at (suc n) s (suc k) h = row_at n (λ k. s (suc k)) k (omega arith)

  pub row_ends : (n : ℕ) (s : ℕ → Code K.size) (k : ℕ) → n ≤ k → get_or (row n s) k 0 ≡ 0
  row_ends zero s k h = refl
  row_ends (suc n) s zero h = absurd (omega arith)
  row_ends (suc n) s (suc k) h = row_ends n (λ k. s (suc k)) k (omega arith)

  module _ (L : Lawful K) where
    pub row-codes : (n : ℕ) (s : ℕ → Code K.size) → Codes K L (row n s)
    row-codes zero s k = zero-code K L
    row-codes (suc n) s zero = (s 0).1
    row-codes (suc n) s (suc k) = row-codes n (λ k. s (suc k)) k

    abbrev pub make : ℕ → (ℕ → Code K.size) → Listed K
    make n s = (trim (row n s), trim_proper K L (row n s) (row-codes n s))

    -- the product of two rows of codes, as numbers
    times_is : (s t : ℕ → Code K.size) (k : ℕ) → folded K L (λ i. (s i).0) (λ i. (t i).0) k ≡ (times (codes K L) s t k).0
    unfolding codes
    times_is s t zero = refl
    times_is s t (suc k) = ap (K.plus (K.times (s 0).0 (t (suc k)).0)) (times_is (λ i. s (suc i)) t k)

    pub add_is : (a b : Listed K) → coefficient ((polynomials K L).add a b) ≡ (series (codes K L)).add (coefficient a) (coefficient b)
    unfolding polynomials codes series sum
    add_is a b = fun_ext λ k. code_path (trim-at (add K a.0 b.0) k ∙ add_at K L a.0 b.0 a.1.codes b.1.codes k)

    pub mul_is : (a b : Listed K) → coefficient ((polynomials K L).mul a b) ≡ (series (codes K L)).mul (coefficient a) (coefficient b)
    unfolding polynomials series product
    mul_is a b = fun_ext λ k.
        code_path (trim-at (multiply K a.0 b.0) k
        ∙ multiply-at K L a.0 b.0 k
        ∙ times_is (coefficient a) (coefficient b) k)

    pub neg_is : (a : Listed K) → coefficient ((polynomials K L).neg a) ≡ (series (codes K L)).neg (coefficient a)
    unfolding polynomials codes series negative
    neg_is a = fun_ext λ k. code_path (trim-at (negate K a.0) k ∙ negate-at K L a.0 k)

    pub nil_is : coefficient (polynomials K L).nil ≡ (series (codes K L)).nil
    unfolding polynomials codes series
    nil_is = fun_ext λ k. code_path refl

    pub unit_is : coefficient (polynomials K L).unit ≡ (series (codes K L)).unit
    unfolding polynomials codes series
    unit_is = fun_ext λ k. code_path (at k)
      where
        at : (k : ℕ) → get_or (1 ∷ []) k 0 ≡ (constant (codes K L) (codes K L).unit k).0
        at zero = refl
        at (suc k) = refl

    pub nil_number : (codes K L).nil.0 ≡ 0
    unfolding codes
    nil_number = refl

    -- a code that is the number 0
    pub is_nil : (c : Code K.size) → c.0 ≡ 0 → c ≡ (codes K L).nil
    is_nil c e = code_path (e ∙ sym nil_number)

    abbrev pub presentation : Polynomials (codes K L) (polynomials K L)
    presentation =
        record {
          coefficient = coefficient;
          same = same-coefficients;
          size = λ a. length a.0;
          ends = λ a k h. is_nil (coefficient a k) (get_or-eq_default a.0 0 h);
          top = λ a d e z. last_some a d e (ap (λ (c : Code K.size). c.0) z ∙ nil_number);
          make = make;
          made = λ n s k h. code_path (trim-at (row n s) k ∙ row_at n s k h);
          made_ends = λ n s k h. is_nil (coefficient (make n s) k) (trim-at (row n s) k ∙ row_ends n s k h);
          add_is = add_is;
          mul_is = mul_is;
          neg_is = neg_is;
          nil_is = nil_is;
          unit_is = unit_is;
        }

    pub list_laws : Laws (polynomials K L)
    list_laws = polynomial_laws (field K L) presentation
