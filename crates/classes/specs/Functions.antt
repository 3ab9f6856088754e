-- Functions a + b·y on the curve y² = f(x), a and b polynomials of any degree: the functions with no pole outside infinity.
-- They are added and multiplied with y² replaced by f; nothing is cut off.
use Rattle.std.specs.Prelude.{[]}
use Rattle.fields.specs.Arithmetic.{Arithmetic}
use Rattle.polynomials.specs.Polynomial.{Polynomial, sum, negative, difference, product}
use Rattle.polynomials.specs.Proper.{Proper}
use Rattle.methods.specs.declared.curve.Curve.{Curve}
use Rattle.methods.specs.Curves.{sextic}

-- a + b·y
pub record Function : Type 0 where
  pub a : Polynomial
  pub b : Polynomial

-- Which pairs of lists are functions over a field: those of its polynomials. So equal functions are equal pairs.
pub record Over (K : Arithmetic) (g : Function) : Type 0 where
  pub a : Proper K g.a
  pub b : Proper K g.b

abbrev pub zero_function : Function
zero_function = record { a = []; b = [] }

-- (a + b·y) + (c + d·y) = (a + c) + (b + d)·y
unfoldable pub function_sum : Arithmetic → Function → Function → Function
function_sum K g h = record { a = sum K g.a h.a; b = sum K g.b h.b }

-- (a + b·y)·(c + d·y) = (a·c + b·d·f) + (a·d + b·c)·y
unfoldable pub function_product : Arithmetic → Curve → Function → Function → Function
function_product K C g h =
    record {
      a = sum K (product K g.a h.a) (product K (product K g.b h.b) (sextic K C));
      b = sum K (product K g.a h.b) (product K g.b h.a);
    }

-- a − b·y, which is a + b·y at the opposite point (x, −y)
unfoldable pub conjugate : Arithmetic → Function → Function
conjugate K g = record { a = g.a; b = negative K g.b }

-- (a + b·y)·(a − b·y) = a² − b²·f, a polynomial
unfoldable pub norm : Arithmetic → Curve → Function → Polynomial
norm K C g = difference K (product K g.a g.a) (product K (product K g.b g.b) (sextic K C))
