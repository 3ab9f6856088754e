-- The polynomials over a lawful field, each as its list: the operations on lists keep to them and are their ring operations.
use Rattle.std.proofs.Common.{◌≡◌, ℕ, zero, suc, [], ◌∷◌, get_or, refl, ap}
use mathlib.Core.HLevel.{Σ_prop_path, Π_prop}
use mathlib.Core.List.{is_set}
use native.Mathlib.Nat.{ℕ_set}
use native.Mathlib.Bridge.{le_prop}
use Rattle.algebra.specs.Ring.{Ops}
use Rattle.fields.specs.Arithmetic.{Arithmetic}
use Rattle.fields.specs.Lawful.{Lawful}
use Rattle.fields.proofs.Codes.{zero-code, one_code}
use Rattle.polynomials.specs.Polynomial.{Polynomial, trim, add, scale, negate, subtract, multiply, divide, derive, sum, negative, difference, product, multiple, quotient, remainder, derivative}
use Rattle.polynomials.specs.Proper.{Proper, Listed}
use Rattle.polynomials.proofs.Coefficients.{Codes, trim-trim, trim-codes, add-codes, scale-codes, negate-codes, subtract-codes, multiply-codes}
use Rattle.polynomials.proofs.Derivatives.{derive-codes}
use Rattle.polynomials.proofs.Divisions.{quotient-codes, remainder-codes, remainder_trimmed}

-- to be a polynomial is a proposition
pub proper_prop : (K : Arithmetic) (p : Polynomial) → IsProp (Proper K p)
proper_prop K p h k i =
    record {
      codes = Π_prop (λ n. le_prop {n = suc (get_or p n 0)} {m = K.size}) h.codes k.codes i;
      trimmed = is_set ℕ_set (trim p) p h.trimmed k.trimmed i;
    }

-- so polynomials are equal where their lists are
pub listed_path : {K : Arithmetic} {a b : Listed K} → a.0 ≡ b.0 → a ≡ b
listed_path {K} {a} {b} e = Σ_prop_path (proper_prop K) {u = a} {v = b} e

pub list_path : {K : Arithmetic} {a b : Listed K} → a ≡ b → a.0 ≡ b.0
list_path {K} e = ap (λ (p : Listed K). p.0) e

module _ (K : Arithmetic) (L : Lawful K) where
  -- What the operations on lists answer is a polynomial.

  pub trim_proper : (p : Polynomial) → Codes K L p → Proper K (trim p)
  trim_proper p h = record { codes = trim-codes K L p h; trimmed = trim-trim p }

  pub none_proper : Proper K []
  none_proper = record { codes = λ k. zero-code K L; trimmed = refl }

  one-codes : Codes K L (1 ∷ [])
  one-codes zero = one_code K L
  one-codes (suc k) = zero-code K L

  pub one_proper : Proper K (1 ∷ [])
  one_proper = record { codes = one-codes; trimmed = refl }

  pub sum_proper : {a b : Polynomial} → Proper K a → Proper K b → Proper K (sum K a b)
  unfolding sum
  sum_proper {a} {b} ha hb = trim_proper (add K a b) (add-codes K L a b ha.codes hb.codes)

  pub negative_proper : (a : Polynomial) → Proper K (negative K a)
  unfolding negative
  negative_proper a = trim_proper (negate K a) (negate-codes K L a)

  pub difference_proper : {a : Polynomial} → Proper K a → (b : Polynomial) → Proper K (difference K a b)
  unfolding difference
  difference_proper {a} ha b = trim_proper (subtract K a b) (subtract-codes K L a b ha.codes)

  pub product_proper : (a b : Polynomial) → Proper K (product K a b)
  unfolding product
  product_proper a b = trim_proper (multiply K a b) (multiply-codes K L a b)

  pub multiple_proper : (c : ℕ) (a : Polynomial) → Proper K (multiple K c a)
  unfolding multiple
  multiple_proper c a = trim_proper (scale K c a) (scale-codes K L c a)

  pub quotient_proper : (a d : Polynomial) → Proper K (quotient K a d)
  unfolding quotient
  quotient_proper a d = trim_proper (divide K a d).quotient (quotient-codes K L d a)

  pub remainder_proper : {a : Polynomial} → Proper K a → (d : Polynomial) → Proper K (remainder K a d)
  unfolding remainder
  remainder_proper {a} ha d = record { codes = remainder-codes K L d a ha.codes; trimmed = remainder_trimmed K L d a }

  pub derivative_proper : (a : Polynomial) → Proper K (derivative K a)
  unfolding derivative
  derivative_proper a = trim_proper (derive K a) (derive-codes K L a)

  -- The ring operations. They stay shut, so that the ring solver meets them as they are written.
  unfoldable pub polynomials : Ops (Listed K)
  polynomials =
      record {
        add = λ a b. (sum K a.0 b.0, sum_proper a.1 b.1);
        mul = λ a b. (product K a.0 b.0, product_proper a.0 b.0);
        neg = λ a. (negative K a.0, negative_proper a.0);
        nil = ([], none_proper);
        unit = (1 ∷ [], one_proper);
      }

  -- The lists of what they make.

  pub add_list : (a b : Listed K) → (polynomials.add a b).0 ≡ sum K a.0 b.0
  unfolding polynomials
  add_list a b = refl

  pub mul_list : (a b : Listed K) → (polynomials.mul a b).0 ≡ product K a.0 b.0
  unfolding polynomials
  mul_list a b = refl

  pub neg_list : (a : Listed K) → (polynomials.neg a).0 ≡ negative K a.0
  unfolding polynomials
  neg_list a = refl

  pub nil_list : polynomials.nil.0 ≡ []
  unfolding polynomials
  nil_list = refl

  pub unit_list : polynomials.unit.0 ≡ 1 ∷ []
  unfolding polynomials
  unit_list = refl
