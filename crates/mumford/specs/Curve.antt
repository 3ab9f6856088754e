-- The curve y² = f over the polynomials on a field, f of degree 6.
use Rattle.std.specs.Prelude.{◌≡◌, ◌≤◌}
use Rattle.algebra.specs.Ring.{Ops, sub}
use Rattle.algebra.specs.Divisibility.{Coprime}
use Rattle.algebra.specs.Polynomials.{Polynomials, derivative}

-- V is monic of degree 3 and the polynomial part of the square root of f, so that f is monic of degree 6; and f has no
-- repeated factor.
pub record Curve {K : Type 0} {o : Ops K} {P : Type 0} {p : Ops P} (H : Polynomials o p) (f V : P) : Type 0 where
  pub V_size : H.size V ≡ 4
  pub V_top : H.coefficient V 3 ≡ o.unit
  pub close : H.size (sub p f (p.mul V V)) ≤ 3
  pub separable : Coprime p f (derivative H f)
