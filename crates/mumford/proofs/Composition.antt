-- Composition of divisors: the sums of products of a member of [u1; v1] and a member of [u2; v2] are the multiples
-- d·m, m a member of the composite [u; v]. That all of them are reached needs d, v1 − v2 and
-- k1 = (f − v1²)/u1 to have no common factor; on a curve without repeated factors they have none.
use Rattle.std.proofs.Common.{◌≡◌, List, [], ◌∷◌, sym, refl, subst}
use Rattle.algebra.specs.Ring.{Ops, Laws, sub}
use Rattle.algebra.specs.Divisibility.{Congruent}
use Rattle.algebra.specs.CommonDivisor.{Greatest}
use Rattle.algebra.proofs.Reify.{◌⋆◌, by_facts, terms}
use Rattle.mumford.specs.Functions.{Function, functions, constant, Member}
use Rattle.mumford.specs.Divisors.{Divisor, Members}
use Rattle.mumford.specs.Composition.{Shared, Quotients, Composite}
use Rattle.mumford.specs.Accounts.{Sums, none, more, Multiple, Product, SameSets}
use Rattle.mumford.proofs.Functions.{both, function_laws}
use Rattle.mumford.proofs.Sums.{sums_in, multiple-closed}
use Rattle.mumford.proofs.Members.{member_u, member_y, members_closed, members_ideal}
use Rattle.mumford.proofs.Congruences as C

module _ {P : Type 0} {o : Ops P} (L : Laws o) {f : P} (D E : Divisor P) {d : P}
    (c : Quotients o f D.u D.v E.u E.v d) where
  infixl 75 ◌+◌ ◌-◌
  infixl 80 ◌·◌
  open o use {add as ◌+◌, mul as ◌·◌, neg, nil, unit}
  open D use {u as u1, v as v1}
  open E use {u as u2, v as v2}
  open c use {U1, U2, β, α, k1, k2, first, second, middle, cross, valid2}

  abbrev ◌-◌ : P → P → P
  ◌-◌ = sub o

  abbrev u : P
  u = U1 · U2

  abbrev F : Ops (Function P)
  F = functions o f

  abbrev LF : Laws F
  LF = function_laws L f

  abbrev constants : List P
  constants =
      d ∷ U1 ∷ U2 ∷ β ∷ α ∷ k1 ∷ k2 ∷ f ∷ u1 ∷ v1 ∷ u2 ∷ v2 ∷ []

  -- A product of members is d times a member. With a1 + b1·v1 = u1·t1 and a2 + b2·v2 = u2·t2 the factors are
  -- t1·u1 + b1·(y − v1) and t2·u2 + b2·(y − v2), and (y − v1)·(y − v2) = d·(α − β·y).
  product_within : (v : P) → Composite o f u1 v1 u2 v2 c v → (g h : Function P) → Member o u1 v1 g → Member o u2 v2 h
      → Multiple F (constant o d) (Member o u v) (F.mul g h)
  product_within v k = go k.at1 k.at2 k.at3
    where
      go : Congruent o u (U1 · v) (U1 · v2) → Congruent o u (U2 · v) (U2 · v1) → Congruent o u (β · v) α
          → (g h : Function P) → Member o u1 v1 g → Member o u2 v2 h → Multiple F (constant o d) (Member o u v) (F.mul g h)
      go (s1, q1) (s2, q2) (s3, q3) (a1, b1) (a2, b2) (t1, p1) (t2, p2) = (
        (t1 · t2 · d · u - t1 · b2 · U1 · v2 - t2 · b1 · U2 · v1 + b1 · b2 · α, t1 · b2 · U1 + t2 · b1 · U2 - b1 · b2 · β),
        (
          t1 · t2 · d + t1 · b2 · s1 + t2 · b1 · s2 - b1 · b2 · s3,
          by_facts L (v ∷ s1 ∷ s2 ∷ s3 ∷ a1 ∷ b1 ∷ t1 ∷ a2 ∷ b2 ∷ t2 ∷ constants)
              (t1 · b2 ⋆ q1 ∷ t2 · b1 ⋆ q2 ∷ neg (b1 · b2) ⋆ q3 ∷ [])
              (search terms depth 60 fits 100000) refl,
        ),
        both
            (by_facts L (a1 ∷ b1 ∷ t1 ∷ a2 ∷ b2 ∷ t2 ∷ constants)
            (a2 ⋆ p1 ∷ u1 · t1 - b1 · v1 ⋆ p2 ∷ u2 · t1 · t2 - t1 · b2 · v2 ⋆ first ∷ d · U1 · t1 · t2 - b1 · v1 · t2 ⋆ second ∷ b1 · b2 ⋆ cross ∷ [])
            (search terms depth 60 fits 100000) refl)
            (by_facts L (a1 ∷ b1 ∷ t1 ∷ a2 ∷ b2 ∷ t2 ∷ constants)
            (b2 ⋆ p1 ∷ b1 ⋆ p2 ∷ t1 · b2 ⋆ first ∷ b1 · t2 ⋆ second ∷ neg (b1 · b2) ⋆ middle ∷ [])
            (search terms depth 60 fits 100000) refl),
      )

  -- The four products of the generators u1, y − v1 of D and u2, y − v2 of E, each times a polynomial.

  abbrev account : List (Divisor P)
  account = D ∷ E ∷ []

  abbrev Term : Function P → Type 0
  Term = Multiple F F.unit (Product F (Members o) account)

  abbrev Span : Function P → Type 0
  Span = Sums F Term

  -- g·h·κ
  abbrev scaled : Function P → Function P → P → Function P
  scaled g h κ = F.mul F.unit (F.mul g (F.mul h (constant o κ)))

  term_of : (g h : Function P) (κ : P) → Member o u1 v1 g → Member o u2 v2 h → Term (scaled g h κ)
  term_of g h κ m n = (F.mul g (F.mul h (constant o κ)), (g, F.mul h (constant o κ), m, (h, constant o κ, n, tt, refl), refl), refl)

  abbrev y- : P → Function P
  y- v = (neg v, unit)

  abbrev combination : P → P → P → P → Function P
  combination κ1 κ2 κ3 κ4 =
      F.add (scaled (constant o u1) (constant o u2) κ1)
      (F.add (scaled (constant o u1) (y- v2) κ2)
      (F.add (scaled (y- v1) (constant o u2) κ3) (F.add (scaled (y- v1) (y- v2) κ4) F.nil)))

  combination_in : (κ1 κ2 κ3 κ4 : P) → Span (combination κ1 κ2 κ3 κ4)
  combination_in κ1 κ2 κ3 κ4 =
      more (term_of (constant o u1) (constant o u2) κ1 (member_u L u1 v1) (member_u L u2 v2))
      (more (term_of (constant o u1) (y- v2) κ2 (member_u L u1 v1) (member_y L u2 v2))
      (more (term_of (y- v1) (constant o u2) κ3 (member_y L u1 v1) (member_u L u2 v2))
      (more (term_of (y- v1) (y- v2) κ4 (member_y L u1 v1) (member_y L u2 v2)) none)))

  module _ (g : Shared o f u1 v1 u2 v2 d) where
    abbrev e1 : P
    e1 = g.factor 0

    abbrev e2 : P
    e2 = g.factor 1

    abbrev e3 : P
    e3 = g.factor 2

    -- Each d·m is such a combination. With a + b·v = u·t, v = ruled + u·q and τ = t − b·q,
    -- d·m = τ·d·u + b·(e1·u1·(y − v2) + e2·u2·(y − v1) − e3·(y − v1)·(y − v2)), and d·u is a combination since
    -- d·u·d = u1·u2, d·u·(v1 − v2) = U2·u1·(y − v2) − U1·u2·(y − v1) and d·u·k1 = β·u2·(y − v1) + U2·(y − v1)·(y − v2).
    spread : (c1 c2 c3 v a b t q τ : P)
        → unit ≡ c1 · d + (c2 · (v1 - v2) + (c3 · k1 + nil))
        → a + b · v ≡ u · t → v ≡ e1 · U1 · v2 + e2 · U2 · v1 + e3 · α + u · q → τ ≡ t - b · q
        → F.mul (constant o d) (a, b)
        ≡ combination (τ · c1) (τ · c2 · U2 + b · e1) (τ · (c3 · β - c2 · U1) + b · e2) (τ · c3 · U2 - b · e3)
    spread c1 c2 c3 v a b t q τ z p r h =
        both
        (by_facts L (v ∷ a ∷ b ∷ t ∷ q ∷ τ ∷ c1 ∷ c2 ∷ c3 ∷ e1 ∷ e2 ∷ e3 ∷ constants)
        (d ⋆ p
        ∷ neg (d · b) ⋆ r
        ∷ neg (d · u) ⋆ h
        ∷ d · u · τ ⋆ z
        ∷ b · e1 · v2 - τ · c1 · u2 + τ · c2 · U2 · v2 ⋆ first
        ∷ b · e2 · v1 - τ · c1 · d · U1 - τ · c2 · U1 · v1 + τ · c3 · β · v1 ⋆ second
        ∷ b · e3 - τ · c3 · U2 ⋆ cross
        ∷ neg (τ · c3 · d · U2) ⋆ C.α_first L c
        ∷ [])
        (search terms depth 60 fits 100000) refl)
        (by_facts L (v ∷ a ∷ b ∷ t ∷ q ∷ τ ∷ c1 ∷ c2 ∷ c3 ∷ e1 ∷ e2 ∷ e3 ∷ constants)
        (b ⋆ g.combines
        ∷ neg (τ · c2 · U2) ⋆ first
        ∷ neg (τ · (c3 · β - c2 · U1)) ⋆ second
        ∷ τ · c3 · U2 ⋆ middle
        ∷ [])
        (search terms depth 60 fits 100000) refl)

    same : (x p q r : Function P) → x ≡ F.mul F.unit p → p ≡ q → q ≡ r → x ≡ r
    same x p q r e k l =
        by_facts LF (x ∷ p ∷ q ∷ r ∷ []) (F.unit ⋆ e ∷ F.unit ⋆ k ∷ F.unit ⋆ l ∷ []) (search terms depth 60 fits 100000) refl

    pub composition_sets : (S : Divisor P) → S.u ≡ u → Composite o f u1 v1 u2 v2 c S.v → Greatest o (d ∷ v1 - v2 ∷ k1 ∷ []) unit
        → SameSets F (Members o) F.unit (constant o d) S account
    composition_sets S e k n = subst (λ S. SameSets F (Members o) F.unit (constant o d) S account) path sets
      where
        c1 : P
        c1 = n.factor 0

        c2 : P
        c2 = n.factor 1

        c3 : P
        c3 = n.factor 2

        v : P
        v = S.v

        made : Divisor P
        made = record { u = u; v = S.v; n = S.n }

        path : made ≡ S
        path = λ i. record { u = sym e i; v = S.v; n = S.n }

        term : (x : Function P) → Term x → Multiple F (constant o d) (Member o u v) x
        term x (p, (g, h, m, (h', a, n, _, e2), e1), e0) =
            let (r, M, l) = product_within v k g h m (subst (Member o u2 v2) (sym e2) ((members_ideal L (k2, valid2)).times h' a n)) in
            (r, M, same x p (F.mul g h) (F.mul (constant o d) r) e0 e1 l)

        reach : (m : Function P) → Member o u v m → (q : P) × (v ≡ e1 · U1 · v2 + e2 · U2 · v1 + e3 · α + u · q)
            → Span (F.mul (constant o d) m)
        reach (a, b) (t, p) (q, r) =
            let τ = t - b · q in
            subst Span (sym (spread c1 c2 c3 v a b t q τ n.combines p r refl))
            (combination_in (τ · c1) (τ · c2 · U2 + b · e1) (τ · (c3 · β - c2 · U1) + b · e2) (τ · c3 · U2 - b · e3))

        sets : SameSets F (Members o) F.unit (constant o d) made account
        sets =
            record {
              within = sums_in LF (multiple-closed LF (constant o d) (members_closed L f u v)) term;
              reached = λ x (m, M, e). subst Span (sym e) (reach m M (C.composite-value L c g v k));
            }
