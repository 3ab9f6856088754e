-- The sum of two divisors on a curve: Cantor's composition, and one balanced step where the composite is not in range.
use Rattle.std.specs.Prelude.{◌≡◌, ℕ, zero, suc, ◌+◌, ◌-◌, ◌<◌, ◌≤◌, Bool, true, false, cond, ◌&&◌, length, ◌==◌, nat_le, slice_index}
use Rattle.fields.specs.Arithmetic.{Arithmetic}
use Rattle.polynomials.specs.Polynomial.{Polynomial, leading, sum, negative, difference, multiple, product, quotient, remainder, Common, gcd}
use Rattle.polynomials.specs.Proper.{Proper}
use Rattle.methods.specs.declared.curve.Curve.{Curve}
use Rattle.methods.specs.declared.divisor.Divisor.{Divisor}
use Rattle.methods.specs.Curves.{sextic, root}
use Rattle.methods.specs.Divisors.{u_of, v_of, divisor_of}

-- A divisor by its polynomials. The n of a composite may be −1, so it is kept with one added.
pub record Composite : Type 0 where
  pub u : Polynomial
  pub v : Polynomial
  pub n+1 : ℕ

-- d = e1·u1 + e2·u2 + e3·(v1 + v2)
pub record Bezout : Type 0 where
  pub d : Polynomial
  pub e1 : Polynomial
  pub e2 : Polynomial
  pub e3 : Polynomial

-- the degree of a polynomial that is not 0
abbrev pub deg : Polynomial → ℕ
deg p = length p - 1

module _ (K : Arithmetic) where
  -- the monic greatest common divisor of three polynomials, with its cofactors
  unfoldable pub bezout : Polynomial → Polynomial → Polynomial → Bezout
  bezout a b c =
      let g : Common = gcd K a b in
      let h : Common = gcd K g.divisor c in
      record {
        d = h.divisor;
        e1 = product K h.first g.first;
        e2 = product K h.first g.second;
        e3 = h.second;
      }

  -- d is the monic greatest common divisor of u1, u2 and v1 + v2, and the polynomials e1, e2 and e3 combine them to it.
  pub record Combining (D E : Divisor) (b : Bezout) : Type 0 where
    pub greatest : b.d ≡ (bezout (u_of K D) (u_of K E) (sum K (v_of K D) (v_of K E))).d
    pub combined : b.d
        ≡ sum K
        (sum K (product K b.e1 (u_of K D)) (product K b.e2 (u_of K E)))
        (product K b.e3 (sum K (v_of K D) (v_of K E)))
    pub e1_proper : Proper K b.e1
    pub e2_proper : Proper K b.e2
    pub e3_proper : Proper K b.e3

  -- e1·u1·v2 + e2·u2·v1 + e3·(v1·v2 + f)
  unfoldable pub numerator : Polynomial → Bezout → (u1 v1 u2 v2 : Polynomial) → Polynomial
  numerator f b u1 v1 u2 v2 =
      sum K
      (sum K (product K (product K b.e1 u1) v2) (product K (product K b.e2 u2) v1))
      (product K b.e3 (sum K (product K v1 v2) f))

  -- With d = gcd(u1, u2, v1 + v2) = e1·u1 + e2·u2 + e3·(v1 + v2): u = u1·u2/d², v is the remainder by u of
  -- (e1·u1·v2 + e2·u2·v1 + e3·(v1·v2 + f))/d, and n = n1 + n2 + deg d − 1.
  unfoldable pub composed_by : Bezout → Polynomial → Divisor → Divisor → Composite
  composed_by b f D E =
      let u : Polynomial = quotient K (product K (u_of K D) (u_of K E)) (product K b.d b.d) in
      record {
        u = u;
        v = remainder K (quotient K (numerator f b (u_of K D) (v_of K D) (u_of K E) (v_of K E)) b.d) u;
        n+1 = D.n + E.n + deg b.d;
      }

  unfoldable pub composed : Polynomial → Divisor → Divisor → Composite
  composed f D E = composed_by (bezout (u_of K D) (u_of K E) (sum K (v_of K D) (v_of K E))) f D E

  -- w is v, if deg u = 4; else, if n < 0, −V and the remainder of v + V by u; else V and the remainder of v − V by u.
  unfoldable pub lifted : Polynomial → Composite → Polynomial
  lifted V c =
      elim (length c.u == 5) [
        | true ↦ c.v
        | false ↦
            elim c.n+1 [
              | zero ↦ sum K (negative K V) (remainder K (sum K c.v V) c.u)
              | suc n ↦ sum K V (remainder K (difference K c.v V) c.u)
            ]
      ]

  abbrev pub monic : Polynomial → Polynomial
  monic p = multiple K (K.inverse (leading p)) p

  -- u' is (f − w²)/u made monic, v' the remainder of −w by u', and n' is 2 − deg u' if the x³ coefficient of w is −1,
  -- otherwise 0.
  unfoldable pub stepped_by : Polynomial → Polynomial → Polynomial → Divisor
  stepped_by f w u =
      let u' : Polynomial = monic (quotient K (difference K f (product K w w)) u) in
      divisor_of u' (remainder K (negative K w) u') (cond (slice_index w 3 == K.minus 1) (2 - deg u') 0)

  unfoldable pub stepped : Polynomial → Polynomial → Composite → Divisor
  stepped f V c = stepped_by f (lifted V c) c.u

-- u of degree 0 to 4, and v of a smaller degree
pub record Fair (c : Composite) : Type 0 where
  pub some : 0 < length c.u
  pub u_most : length c.u ≤ 5
  pub v_smaller : length c.v < length c.u

-- deg u ≤ 2 and 0 ≤ n ≤ 2 − deg u
abbrev pub in_range : Composite → Bool
in_range c = nat_le (deg c.u) 2 && nat_le 1 c.n+1 && nat_le (c.n+1 + deg c.u) 3

module _ (K : Arithmetic) (C : Curve) where
  unfoldable pub reduced : Composite → Divisor
  reduced c = elim (in_range c) [ true ↦ divisor_of c.u c.v (c.n+1 - 1) | false ↦ stepped K (sextic K C) (root K C) c ]

  unfoldable pub plus : Divisor → Divisor → Divisor
  plus D E = reduced (composed K (sextic K C) D E)

  unfoldable pub twice : Divisor → Divisor
  twice D = plus D D
