-- The quotients that the fractions of the closed formulas stand for, as identities in any commutative ring with an element x:
-- polynomials are read as c0 + x·(c1 + ..), and their coefficients are any elements.
use Rattle.std.proofs.Common.{◌≡◌, List, [], ◌∷◌, refl}
use Rattle.algebra.specs.Ring.{Ops, Laws, sub}
use Rattle.algebra.specs.Divisibility.{Congruent, Coprime}
use Rattle.algebra.specs.Rows.{horner}
use Rattle.algebra.proofs.Reify.{by_ring, by_facts, ◌⋆◌, terms}
use Rattle.mumford.specs.ClosedForms.{Sextic, Quadratic, Quotient, Second, two, sum_fractions, quotient, second, double_fractions}

-- the polynomials of coefficients in a ring, at x
module _ {P : Type 0} (p : Ops P) (x : P) where
  abbrev pub u_at : Quadratic P → P
  u_at D = horner p x (D.b ∷ D.a ∷ p.unit ∷ [])

  abbrev pub v_at : Quadratic P → P
  v_at D = horner p x (D.e ∷ D.c ∷ [])

  abbrev pub f_at : Sextic P → P
  f_at f = horner p x (f.f0 ∷ f.f1 ∷ f.f2 ∷ f.f3 ∷ f.f4 ∷ p.nil ∷ p.unit ∷ [])

  -- x⁴ − a·x³ + k·x² + h·x + j
  abbrev pub Q_at : P → Quotient P → P
  Q_at a Q = horner p x (Q.j ∷ Q.h ∷ Q.k ∷ p.neg a ∷ p.unit ∷ [])

abbrev pub letters : {C : Type 0} → Quadratic C → List C → List C
letters D l = D.a ∷ D.b ∷ D.c ∷ D.e ∷ l

module _ {P : Type 0} {p : Ops P} (L : Laws p) where
  infixl 75 ◌+◌ ◌-◌
  infixl 80 ◌·◌
  open p use {add as ◌+◌, mul as ◌·◌, neg, unit}

  abbrev ◌-◌ : P → P → P
  ◌-◌ = sub p

  -- A quotient modulo u: where r is z·g up to a multiple of u, r has the inverse i, and n is z·d up to a multiple of u,
  -- the s with s·r = n is d/g modulo u.
  module _ {u g z z' r i : P} (resultant : z · g ≡ r + z' · u) (inverse : r · i ≡ unit) where
    pub coprime_by : Coprime p u g
    coprime_by = (
      neg (i · z'),
      i · z,
      by_facts L (u ∷ g ∷ z ∷ z' ∷ r ∷ i ∷ []) (i ⋆ resultant ∷ unit ⋆ inverse ∷ []) (search terms depth 60 fits 100000) refl,
    )

    pub quotient_modulo : {d n m s : P} → n ≡ z · d - m · u → s · r ≡ n → Congruent p u (s · g) d
    quotient_modulo {d} {n} {m} {s} numerator fraction = (
      i · (z' · d - m · g),
      by_facts L (u ∷ g ∷ z ∷ z' ∷ r ∷ i ∷ d ∷ n ∷ m ∷ s ∷ [])
          (d - s · g ⋆ inverse ∷ g · i ⋆ fraction ∷ g · i ⋆ numerator ∷ d · i ⋆ resultant ∷ [])
          (search terms depth 60 fits 100000) refl,
    )

  -- n/r, times r
  pub fraction : (n r r⁻¹ : P) → r · r⁻¹ ≡ unit → n · r⁻¹ · r ≡ n
  fraction n r r⁻¹ h = by_facts L (n ∷ r ∷ r⁻¹ ∷ []) (n ⋆ h ∷ []) (search terms depth 60 fits 100000) refl

  module _ (x : P) where
    -- fractions with one denominator
    pub fractions-line : {s1 s0 r n1 n0 : P} → s1 · r ≡ n1 → s0 · r ≡ n0 → horner p x (s0 ∷ s1 ∷ []) · r ≡ horner p x (n0 ∷ n1 ∷ [])
    fractions-line {s1} {s0} {r} {n1} {n0} h1 h0 =
        by_facts L (x ∷ s1 ∷ s0 ∷ r ∷ n1 ∷ n0 ∷ []) (x ⋆ h1 ∷ unit ⋆ h0 ∷ []) (search terms depth 60 fits 100000) refl

    -- The sum: (z1·x + z2)·u2 is r modulo u1, and (z1·x + z2)·(v1 − v2) is p·x + o.
    module _ (D E : Quadratic P) where
      abbrev z1 : P
      z1 = D.a - E.a

      abbrev z2 : P
      z2 = D.a · z1 - (D.b - E.b)

      abbrev z : P
      z = z1 · x + z2

      pub sum-resultant : z · u_at p x E ≡ (sum_fractions p D E).r + (z - z1 · z1) · u_at p x D
      sum-resultant = by_ring L (x ∷ letters D (letters E [])) (search terms depth 60 fits 100000) refl

      pub sum-numerator : horner p x ((sum_fractions p D E).o ∷ (sum_fractions p D E).p ∷ [])
          ≡ z · (v_at p x D - v_at p x E) - z1 · (D.c - E.c) · u_at p x D
      sum-numerator = by_ring L (x ∷ letters D (letters E [])) (search terms depth 60 fits 100000) refl

    -- The double: Q = (f − v²)/u is K1·x + K0 modulo u, (2·c·x + 2·a·c − 2·e)·2·v is r, and
    -- (2·c·x + 2·a·c − 2·e)·(K1·x + K0) is p·x + o.
    module _ (D : Quadratic P) where
      pub quotient_is : (f : Sextic P) → f_at p x f - v_at p x D · v_at p x D
          ≡ u_at p x D · Q_at p x D.a (quotient p f D) + horner p x ((quotient p f D).l ∷ (quotient p f D).m ∷ [])
      quotient_is f =
          by_ring L (x ∷ f.f4 ∷ f.f3 ∷ f.f2 ∷ f.f1 ∷ f.f0 ∷ letters D []) (search terms depth 60 fits 100000) refl

      pub second_is : (Q : Quotient P) → Q_at p x D.a Q
          ≡ u_at p x D · horner p x ((second p D Q).g ∷ neg (two p D.a) ∷ unit ∷ [])
          + horner p x ((second p D Q).K0 ∷ (second p D Q).K1 ∷ [])
      second_is Q = by_ring L (x ∷ Q.k ∷ Q.h ∷ Q.j ∷ letters D []) (search terms depth 60 fits 100000) refl

      abbrev y : P
      y = two p D.c · x + (two p (D.a · D.c) - two p D.e)

      pub double-resultant : (T : Second P) → y · (v_at p x D + v_at p x D) ≡ (double_fractions p D T).r + two p (two p (D.c · D.c)) · u_at p x D
      double-resultant T = by_ring L (x ∷ letters D []) (search terms depth 60 fits 100000) refl

      pub double-numerator : (T : Second P) → horner p x ((double_fractions p D T).o ∷ (double_fractions p D T).p ∷ [])
          ≡ y · horner p x (T.K0 ∷ T.K1 ∷ []) - two p (D.c · T.K1) · u_at p x D
      double-numerator T = by_ring L (x ∷ T.K1 ∷ T.K0 ∷ letters D []) (search terms depth 60 fits 100000) refl
