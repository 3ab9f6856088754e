-- The reduction step of the closed formulas, as identities in any commutative ring with an element x.
use Rattle.std.proofs.Common.{◌≡◌, List, [], ◌∷◌, refl}
use Rattle.algebra.specs.Ring.{Ops, Laws, sub}
use Rattle.algebra.specs.Rows.{horner}
use Rattle.algebra.proofs.Reify.{by_facts, ◌⋆◌, terms}
use Rattle.mumford.specs.ClosedForms.{Sextic, Quadratic, Line, two, lead, line, remaining, sum_a, sum_b}
use Rattle.mumford.proofs.ClosedQuotients.{u_at, v_at, f_at, letters}

module _ {P : Type 0} (p : Ops P) where
  infixl 75 ◌+◌ ◌-◌
  infixl 80 ◌·◌
  open p use {add as ◌+◌, mul as ◌·◌, neg, unit}

  abbrev ◌-◌ : P → P → P
  ◌-◌ = sub p

  -- What u' and v' of a closed formula meet, for w = v2 + s·u2: the coefficients of x⁵ and x⁴ in
  -- f − w² = u1·u2·(1 − s1²)·u', and v' is the remainder of −w by u'.
  pub record Reducing (f : Sextic P) (D E S : Quadratic P) (s : Line P) : Type 0 where
    pub at_5 : lead p s.s1 · (S.a + D.a) ≡ sum_a p E s
    pub at_4 : lead p s.s1 · (S.b + D.b + D.a · S.a) ≡ sum_b p f E s
    pub c_is : S.c ≡ (remaining p E s S.a S.b).c
    pub e_is : S.e ≡ (remaining p E s S.a S.b).e

  -- The coefficients of f − w² − u1·u2·(1 − s1²)·u' below x⁴, the lowest first.
  abbrev pub below_4 : Sextic P → (D E S : Quadratic P) → Line P → List P
  below_4 f D E S s =
      let w1 : P = s.L1 + E.c in
      let w0 : P = s.s0 · E.b + E.e in
      let y3 : P = D.a + E.a in
      let y2 : P = D.b + E.b + D.a · E.a in
      let y1 : P = D.a · E.b + D.b · E.a in
      let y0 : P = D.b · E.b in
      let M : P = lead p s.s1 in
      f.f0 - w0 · w0 - M · (y0 · S.b)
      ∷ f.f1 - two p (w1 · w0) - M · (y1 · S.b + y0 · S.a)
      ∷ f.f2 - two p (s.L2 · w0) - w1 · w1 - M · (y2 · S.b + y1 · S.a + y0)
      ∷ f.f3 - two p (s.s1 · w0 + s.L2 · w1) - M · (y3 · S.b + y2 · S.a + y1)
      ∷ []

  module _ (L : Laws p) (x : P) {f : Sextic P} {D E S : Quadratic P} {s1 s0 : P} (h : Reducing f D E S (line p E s1 s0)) where
    abbrev w : P
    w = v_at p x E + horner p x (s0 ∷ s1 ∷ []) · u_at p x E

    abbrev constants : List P
    constants = x ∷ s1 ∷ s0 ∷ letters D (letters E (letters S (f.f4 ∷ f.f3 ∷ f.f2 ∷ f.f1 ∷ f.f0 ∷ [])))

    pub above_4 : f_at p x f - w · w - u_at p x D · u_at p x E · (lead p s1 · u_at p x S)
        ≡ horner p x (below_4 f D E S (line p E s1 s0))
    above_4 =
        by_facts L constants (neg (x · x · x · x · (x + E.a)) ⋆ h.at_5 ∷ neg (x · x · x · x) ⋆ h.at_4 ∷ [])
        (search terms depth 60 fits 100000) refl

    pub remainder_is : v_at p x S - neg w ≡ u_at p x S · (s1 · x - (s1 · S.a - (line p E s1 s0).L2))
    remainder_is =
        by_facts L constants (x ⋆ h.c_is ∷ unit ⋆ h.e_is ∷ []) (search terms depth 60 fits 100000) refl
