-- How a function grows at infinity. The curve has two points there: at one of them y/x³ is 1, at the other −1.
use Rattle.std.specs.Prelude.{true, false, length, ℤ, pos, ◌-ℤ◌, nat_le}
use Rattle.fields.specs.Arithmetic.{Arithmetic}
use Rattle.polynomials.specs.Polynomial.{Polynomial, is_zero, sum, product}
use Rattle.methods.specs.declared.curve.Curve.{Curve}
use Rattle.methods.specs.Curves.{root}
use Rattle.methods.specs.Sums.{deg}
use Rattle.classes.specs.Functions.{Function, norm}

-- The growth of a function that is not 0, the order of its pole at the point where y/x³ is 1 (below 0 for a zero): deg a, if b
-- is 0; else deg (a + b·V), if that is at least deg b, since y − V has a zero there; else deg (a² − b²·f) − deg b − 3, since
-- a − b·y then has a pole of order deg b + 3. The length is the degree and one more, and 0 for the polynomial 0, whose degree
-- is below every number.
unfoldable pub growth : Arithmetic → Curve → Function → ℤ
growth K C g =
    let s : Polynomial = sum K g.a (product K g.b (root K C)) in
    elim (is_zero g.b) [
      | true ↦ pos (deg g.a)
      | false ↦
          elim (nat_le (length g.b) (length s)) [
            | true ↦ pos (deg s)
            | false ↦ pos (deg (norm K C g)) -ℤ pos (deg g.b) -ℤ pos 3
          ]
    ]
