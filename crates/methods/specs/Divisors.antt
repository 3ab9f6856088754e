-- Divisors [u; v; n]: u monic of degree at most 2, v of a smaller degree, and n, which counts the point at infinity where y/x³
-- is 1, from 0 to 2 − deg u. Which of them are valid on a curve, the neutral one, and negatives.
use Rattle.std.specs.Prelude.{◌≡◌, ℕ, zero, suc, ◌-◌, Bool, true, cond, ◌&&◌, List, [], ◌∷◌, length, take, Ok, Err, Result, ◌==◌, nat_le, nat_lt, slice_index}
use Rattle.fields.specs.Arithmetic.{Arithmetic}
use Rattle.polynomials.specs.Polynomial.{Polynomial, difference, product, remainder, is_zero}
use Rattle.polynomials.specs.Ten.{value}
use Rattle.methods.specs.declared.curve.Curve.{Curve}
use Rattle.methods.specs.declared.divisor.Linear.{Linear}
use Rattle.methods.specs.declared.divisor.Divisor.{Divisor}
use Rattle.methods.specs.declared.divisor.DivisorRefusal.{DivisorRefusal}
use Rattle.methods.specs.declared.divisor.DivisorRefusal.TheVariants.{Shape, NotACode, NotOnCurve}
use Rattle.methods.specs.Curves.{sextic}

-- The polynomials u and v of a divisor.

abbrev pub monic_codes : ℕ → Linear → List ℕ
monic_codes zero l = 1 ∷ []
monic_codes (suc zero) l = l.x0 ∷ 1 ∷ []
monic_codes (suc (suc d)) l = l.x0 ∷ l.x1 ∷ 1 ∷ []

unfoldable pub u_of : Arithmetic → Divisor → Polynomial
u_of K D = value K (monic_codes D.degree D.u)

unfoldable pub v_of : Arithmetic → Divisor → Polynomial
v_of K D = value K (D.v.x0 ∷ D.v.x1 ∷ [])

-- The divisor of a monic u of degree at most 2, a v of a smaller degree, and n; coefficients that are not used are 0.
abbrev pub linear : List ℕ → Linear
linear p = record { x1 = slice_index p 1; x0 = slice_index p 0 }

unfoldable pub divisor_of : Polynomial → Polynomial → ℕ → Divisor
divisor_of u v n =
    let d : ℕ = length u - 1 in
    record { degree = d; u = linear (take d u); v = linear v; n = n }

-- What a divisor is refused on, in this order.

-- coefficients that a polynomial of a degree below d does not use are 0
abbrev pub unused : ℕ → Linear → Bool
unused zero l = l.x1 == 0 && l.x0 == 0
unused (suc zero) l = l.x1 == 0
unused (suc (suc d)) l = true

abbrev pub shaped : Divisor → Bool
shaped D = nat_le D.degree 2 && nat_le D.n (2 - D.degree) && unused D.degree D.u && unused D.degree D.v

abbrev pub linear_codes : Arithmetic → Linear → Bool
linear_codes K l = nat_lt l.x1 K.size && nat_lt l.x0 K.size

-- u divides f − v²
unfoldable pub on_curve : Arithmetic → Curve → Divisor → Bool
on_curve K C D = is_zero (remainder K (difference K (sextic K C) (product K (v_of K D) (v_of K D))) (u_of K D))

-- The divisor; or 4 where its degree is above 2, n above 2 − degree, or an unused coefficient not 0; 5 where a coefficient
-- is no code; 9 where u does not divide f − v².
unfoldable pub entered : Arithmetic → Curve → Divisor → Result Divisor DivisorRefusal
entered K C D =
    cond (shaped D)
    (cond (linear_codes K D.u && linear_codes K D.v) (cond (on_curve K C D) (Ok D) (Err NotOnCurve)) (Err NotACode))
    (Err Shape)

abbrev pub Valid : Arithmetic → Curve → Divisor → Type 0
Valid K C D = entered K C D ≡ Ok D

-- The numbers of the refusals.
abbrev pub divisor_refusal_number : DivisorRefusal → ℕ
divisor_refusal_number Shape = 4
divisor_refusal_number NotACode = 5
divisor_refusal_number NotOnCurve = 9

-- [1; 0; 1]
abbrev pub neutral : Divisor
neutral = record { degree = 0; u = record { x1 = 0; x0 = 0 }; v = record { x1 = 0; x0 = 0 }; n = 1 }

-- [u; −v; 2 − deg u − n]
unfoldable pub opposite : Arithmetic → Divisor → Divisor
opposite K D =
    record {
      degree = D.degree;
      u = D.u;
      v = record { x1 = K.minus D.v.x1; x0 = K.minus D.v.x0 };
      n = 2 - D.degree - D.n;
    }
