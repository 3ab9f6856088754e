-- The curve y² = f(x), f = x⁶ + f4·x⁴ + f3·x³ + f2·x² + f1·x + f0, and the polynomial part V of the square root of f.
use Rattle.std.specs.Prelude.{◌≡◌, ℕ, ◌≤◌, Bool, cond, ◌&&◌, [], ◌∷◌, length, Ok, Err, Result, ◌==◌, nat_lt}
use Rattle.fields.specs.Arithmetic.{Arithmetic}
use Rattle.polynomials.specs.Polynomial.{Polynomial, leading, difference, product, gcd, derivative}
use Rattle.polynomials.specs.Ten.{value}
use Rattle.methods.specs.declared.curve.Curve.{Curve}
use Rattle.methods.specs.declared.curve.CurveRefusal.{CurveRefusal}
use Rattle.methods.specs.declared.curve.CurveRefusal.TheVariants.{NotACode, Singular}

-- V is the polynomial part of the square root of a monic sextic f: a monic cubic for which f − V² has a degree of at most 2.
pub record RootOf (K : Arithmetic) (f V : Polynomial) : Type 0 where
  pub cubic : length V ≡ 4
  pub monic : leading V ≡ 1
  pub close : length (difference K f (product K V V)) ≤ 3

module _ (K : Arithmetic) (C : Curve) where
  unfoldable pub sextic : Polynomial
  sextic = value K (C.f0 ∷ C.f1 ∷ C.f2 ∷ C.f3 ∷ C.f4 ∷ 0 ∷ 1 ∷ [])

  abbrev pub half : ℕ → ℕ
  half a = K.times a (K.inverse (K.plus 1 1))

  -- V = x³ + (f4/2)·x + f3/2, so that f − V² has a degree of at most 2
  unfoldable pub root : Polynomial
  root = value K (half C.f3 ∷ half C.f4 ∷ 0 ∷ 1 ∷ [])

  abbrev pub coefficients_are_codes : Bool
  coefficients_are_codes =
      nat_lt C.f4 K.size && nat_lt C.f3 K.size && nat_lt C.f2 K.size && nat_lt C.f1 K.size && nat_lt C.f0 K.size

  -- f and its derivative have no common factor
  unfoldable pub smooth : Bool
  smooth = length (gcd K sextic (derivative K sextic)).divisor == 1

  -- What the check of a curve answers: 5 where a coefficient is no code, then 8 where f and its derivative share a factor.
  abbrev pub curve_answer : Result (Unit {0}) CurveRefusal
  curve_answer = cond coefficients_are_codes (cond smooth (Ok tt) (Err Singular)) (Err NotACode)

  -- The curves that the check accepts.
  abbrev pub Accepted : Type 0
  Accepted = curve_answer ≡ Ok tt

-- The numbers of the refusals.
abbrev pub curve_refusal_number : CurveRefusal → ℕ
curve_refusal_number NotACode = 5
curve_refusal_number Singular = 8
