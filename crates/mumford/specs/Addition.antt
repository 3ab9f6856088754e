-- The sum of two divisors: composition, and one step of reduction where the composite is not in range.
use Rattle.std.specs.Prelude.{◌≡◌, ◌<◌, ◌≤◌, pos, ◌+ℤ◌, ◌-ℤ◌, ◌≤ℤ◌, ◌<ℤ◌}
use Rattle.algebra.specs.Ring.{Ops, sub}
use Rattle.algebra.specs.Divisibility.{Congruent}
use Rattle.algebra.specs.Polynomials.{Polynomials, constant, Monic}
use Rattle.mumford.specs.Divisors.{Divisor, degree, InRange}
use Rattle.mumford.specs.Composition.{Shared, numerator}

-- r is the remainder of a by u
pub record Remainder {K : Type 0} {o : Ops K} {P : Type 0} {p : Ops P} (H : Polynomials o p) (a u r : P) : Type 0 where
  pub congruent : Congruent p u r a
  pub smaller : H.size r < H.size u

module _ {K : Type 0} {o : Ops K} {P : Type 0} {p : Ops P} (H : Polynomials o p) where
  infixl 75 ◌+◌
  infixl 80 ◌·◌
  open p use {add as ◌+◌, mul as ◌·◌, neg}

  -- S is the composite of D and E: with the monic greatest common divisor d = e1·u1 + e2·u2 + e3·(v1 + v2), u is u1·u2/d², v
  -- the remainder by u of (e1·u1·v2 + e2·u2·v1 + e3·(v1·v2 + f))/d, and n is n1 + n2 + deg d − 1.
  pub record Composed (f : P) (D E S : Divisor P) : Type 0 where
    pub d : P
    pub monic : Monic H d
    pub shared : Shared p f D.u D.v E.u E.v d
    pub u_is : D.u · E.u ≡ d · d · S.u
    pub s : P
    pub s_is : numerator p f D.u D.v E.u E.v shared ≡ d · s
    pub v_is : Remainder H s S.u S.v
    pub n_is : S.n ≡ D.n +ℤ E.n +ℤ pos (degree H.size d) -ℤ pos 1

  -- The w of a step from D: v, where deg u = 4; else −V and the remainder of v + V by u, where n < 0; else V and the remainder
  -- of v − V by u.
  pub data Chosen (V : P) (D : Divisor P) : P → Type 0 where
    plain : H.size D.u ≡ 5 → Chosen V D D.v
    below : {r : P} → H.size D.u ≤ 4 → D.n <ℤ pos 0 → Remainder H (D.v + V) D.u r → Chosen V D (neg V + r)
    above : {r : P} → H.size D.u ≤ 4 → pos 0 ≤ℤ D.n → Remainder H (sub p D.v V) D.u r → Chosen V D (V + r)

  -- the x³ coefficient of w is −1
  abbrev pub Opposite : P → Type 0
  Opposite w = H.coefficient w 3 ≡ o.neg o.unit

  -- S comes from D by the step with w: u' is (f − w²)/u made monic, v' the remainder of −w by u', and n' is 2 − deg u' if the
  -- x³ coefficient of w is −1, otherwise 0.
  pub record Reduced (f : P) (D S : Divisor P) (w : P) : Type 0 where
    pub monic : Monic H S.u
    pub κ : K
    pub u_is : sub p f (w · w) ≡ D.u · (constant H κ · S.u)
    pub v_is : Remainder H (neg w) S.u S.v
    pub n_opposite : Opposite w → S.n ≡ pos 2 -ℤ pos (degree H.size S.u)
    pub n_other : ¬ Opposite w → S.n ≡ pos 0

  -- S is the sum of D and E: their composite where that is in range, and otherwise what one step makes of it.
  pub data Sum (f V : P) (D E : Divisor P) : Divisor P → Type 0 where
    composed : {S : Divisor P} → Composed f D E S → InRange H.size S → Sum f V D E S
    reduced : {T S : Divisor P} {w : P} → Composed f D E T → ¬ InRange H.size T → Chosen V T w → Reduced f T S w → Sum f V D E S
