-- Polynomials by their coefficients, the lowest first.
use Rattle.std.specs.Prelude.{List, [], ◌∷◌, map}
use Rattle.algebra.specs.Ring.{Ops}
use Rattle.algebra.specs.Polynomials.{Polynomials, constant, x}

-- c0 + x·(c1 + x·(c2 + ..))
abbrev pub horner : {C : Type 0} → Ops C → C → List C → C
horner o x [] = o.nil
horner o x (c ∷ l) = o.add c (o.mul x (horner o x l))

-- the polynomial with a list of coefficients
unfoldable pub row : {K : Type 0} {o : Ops K} {P : Type 0} {p : Ops P} → Polynomials o p → List K → P
row {p = p} H l = horner p (x H) (map (constant H) l)
