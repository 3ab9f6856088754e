-- Closed formulas for the sum of two divisors [x² + a·x + b; c·x + e; 0], and for the double of one, on the curve
-- y² = x⁶ + f4·x⁴ + f3·x³ + f2·x² + f1·x + f0. They are written over any operations: those of the field, where they give the
-- coefficients, those of codes, or the solver's syntax. Inverses are given to them, so that they are straight-line.
use Rattle.std.specs.Prelude.{[], ◌∷◌, pos}
use Rattle.algebra.specs.Ring.{Ops, sub}
use Rattle.algebra.specs.Polynomials.{Polynomials}
use Rattle.algebra.specs.Rows.{row}
use Rattle.mumford.specs.Divisors.{Divisor}

-- the coefficients of f = x⁶ + f4·x⁴ + f3·x³ + f2·x² + f1·x + f0
pub record Sextic (C : Type 0) : Type 0 where
  pub f4 : C
  pub f3 : C
  pub f2 : C
  pub f1 : C
  pub f0 : C

-- the coefficients of u = x² + a·x + b and v = c·x + e
pub record Quadratic (C : Type 0) : Type 0 where
  pub a : C
  pub b : C
  pub c : C
  pub e : C

module _ {K : Type 0} {o : Ops K} {P : Type 0} {p : Ops P} (H : Polynomials o p) where
  unfoldable pub sextic : Sextic K → P
  sextic f = row H (f.f0 ∷ f.f1 ∷ f.f2 ∷ f.f3 ∷ f.f4 ∷ o.nil ∷ o.unit ∷ [])

  -- [x² + a·x + b; c·x + e; 0]
  abbrev pub divisor : Quadratic K → Divisor P
  divisor D = record { u = row H (D.b ∷ D.a ∷ o.unit ∷ []); v = row H (D.e ∷ D.c ∷ []); n = pos 0 }

-- s1 = p/r and s0 = o/r are the coefficients of the s with which v2 + s·u2 is the v of the composite.
pub record Fractions (C : Type 0) : Type 0 where
  pub r : C
  pub p : C
  pub o : C

-- s = s1·x + s0, with s·u2 = s1·x³ + L2·x² + L1·x + s0·B
pub record Line (C : Type 0) : Type 0 where
  pub s1 : C
  pub s0 : C
  pub L2 : C
  pub L1 : C

-- The quotient Q = x⁴ − a·x³ + k·x² + h·x + j of f − v² by u, and the remainder m·x + l.
pub record Quotient (C : Type 0) : Type 0 where
  pub k : C
  pub h : C
  pub j : C
  pub m : C
  pub l : C

-- The quotient x² − 2·a·x + g of Q by u, and the remainder K1·x + K0.
pub record Second (C : Type 0) : Type 0 where
  pub g : C
  pub K1 : C
  pub K0 : C

module _ {C : Type 0} (op : Ops C) where
  infixl 75 ◌+◌ ◌-◌
  infixl 80 ◌·◌
  open op use {add as ◌+◌, mul as ◌·◌, neg, unit}

  abbrev ◌-◌ : C → C → C
  ◌-◌ = sub op

  abbrev pub two : C → C
  two z = z + z

  abbrev pub line : Quadratic C → (s1 s0 : C) → Line C
  line E s1 s0 = record { s1 = s1; s0 = s0; L2 = s0 + s1 · E.a; L1 = s0 · E.a + s1 · E.b }

  -- s1 = p/r and s0 = o/r, where the inverse of r is given
  abbrev pub line_by : Quadratic C → Fractions C → (r⁻¹ : C) → Line C
  line_by E n r⁻¹ = line E (n.p · r⁻¹) (n.o · r⁻¹)

  -- M = 1 − s1², the leading coefficient of f − w² for w = v2 + s·u2
  abbrev pub lead : C → C
  lead s1 = unit - s1 · s1

  -- Both: from u' = x² + a'·x + b', the remainder of −w by it.
  abbrev pub remaining : Quadratic C → Line C → (a' b' : C) → Quadratic C
  remaining E s a' b' =
      let t : C = s.s1 · a' - s.L2 in
      record {
        a = a';
        b = b';
        c = neg E.c - s.L1 + s.s1 · b' - t · a';
        e = neg E.e - s.s0 · E.b - t · b';
      }

  -- The sum of D and E.

  abbrev pub sum_fractions : Quadratic C → Quadratic C → Fractions C
  sum_fractions D E =
      let z0 : C = D.b - E.b in
      let z1 : C = D.a - E.a in
      let z2 : C = D.a · z1 - z0 in
      record {
        r = D.b · (z1 · z1) - z0 · z2;
        p = (D.e - E.e) · z1 - (D.c - E.c) · z0;
        o = (D.e - E.e) · z2 - (D.c - E.c) · z1 · D.b;
      }

  -- (1 − s1²)·(a' + a)
  abbrev pub sum_a : Quadratic C → Line C → C
  sum_a E s = neg E.a - s.s1 · (s.s0 + s.L2)

  -- (1 − s1²)·(b' + b + a·a')
  abbrev pub sum_b : Sextic C → Quadratic C → Line C → C
  sum_b f E s = f.f4 - E.b + E.a · E.a - s.s1 · (s.L1 + two E.c) - s.s0 · s.L2

  -- i is the inverse of 1 − s1²
  abbrev pub sum_by : Sextic C → Quadratic C → Quadratic C → Line C → (i : C) → Quadratic C
  sum_by f D E s i =
      let a' : C = sum_a E s · i - D.a in
      remaining E s a' (sum_b f E s · i - D.b - D.a · a')

  -- The double of D.

  abbrev pub quotient : Sextic C → Quadratic C → Quotient C
  quotient f D =
      let k : C = f.f4 + D.a · D.a - D.b in
      let h : C = f.f3 - k · D.a + D.a · D.b in
      let j : C = f.f2 - D.c · D.c - h · D.a - k · D.b in
      record {
        k = k;
        h = h;
        j = j;
        m = f.f1 - two (D.c · D.e) - j · D.a - h · D.b;
        l = f.f0 - D.e · D.e - j · D.b;
      }

  abbrev pub second : Quadratic C → Quotient C → Second C
  second D Q =
      let g : C = Q.k + two (D.a · D.a) - D.b in
      record { g = g; K1 = Q.h - g · D.a + two (D.a · D.b); K0 = Q.j - g · D.b }

  -- f − v² divided by u twice
  abbrev pub twice_divided : Sextic C → Quadratic C → Second C
  twice_divided f D = second D (quotient f D)

  abbrev pub double_fractions : Quadratic C → Second C → Fractions C
  double_fractions D T =
      record {
        r = two (two (D.a · D.c · D.e - D.e · D.e - D.b · (D.c · D.c)));
        p = two (D.c · T.K0 - D.e · T.K1);
        o = two ((D.a · D.c - D.e) · T.K0 - D.b · D.c · T.K1);
      }

  -- (1 − s1²)·a'
  abbrev pub double_a : Quadratic C → Line C → C
  double_a D s = neg (two (D.a + s.s0 · s.s1))

  -- (1 − s1²)·b'
  abbrev pub double_b : Quadratic C → Second C → Line C → C
  double_b D T s = T.g - two D.c · s.s1 - s.s0 · s.s0

  abbrev pub double_by : Quadratic C → Second C → Line C → (i : C) → Quadratic C
  double_by D T s i = remaining D s (double_a D s · i) (double_b D T s · i)
