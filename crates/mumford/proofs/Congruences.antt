-- The sum is well defined: the three congruences of a composite hold for the v of the rules, determine
-- v modulo u, and make u divide f − v².
use Rattle.std.proofs.Common.{◌≡◌, List, [], ◌∷◌, sym, refl, ◌∙◌}
use Rattle.algebra.specs.Ring.{Ops, Laws, sub}
use Rattle.algebra.specs.Divisibility.{Regular, Divides, Congruent}
use Rattle.algebra.specs.CommonDivisor.{Each}
use Rattle.algebra.proofs.Reify.{◌⋆◌, by_facts, terms}
use Rattle.mumford.specs.Functions.{Represents}
use Rattle.mumford.specs.Composition.{Shared, numerator, Quotients, Composite}

-- The quotients by a common divisor. α comes for nothing: f + v1·v2 = v1·(v1 + v2) + u1·k1.
pub quotients : {P : Type 0} {o : Ops P} (L : Laws o) {f u1 v1 u2 v2 d : P}
    → Regular o d → Shared o f u1 v1 u2 v2 d → Represents o f u1 v1 → Represents o f u2 v2
    → Quotients o f u1 v1 u2 v2 d
quotients {o = o} L {f} {u1} {v1} {u2} {v2} {d} cancel g (k1, valid1) (k2, valid2) = by g.divides
  where
    by : Each (Divides o d) (u1 ∷ u2 ∷ o.add v1 v2 ∷ []) → Quotients o f u1 v1 u2 v2 d
    by ((U1, first), ((U2, second), ((β, middle), _))) =
        record {
          U1 = U1;
          U2 = U2;
          β = β;
          α = o.add (o.mul v1 β) (o.mul U1 k1);
          k1 = k1;
          k2 = k2;
          first = first;
          second = second;
          middle = middle;
          cross =
              by_facts L (d ∷ U1 ∷ β ∷ k1 ∷ f ∷ u1 ∷ v1 ∷ v2 ∷ [])
              (v1 ⋆ middle ∷ o.unit ⋆ valid1 ∷ k1 ⋆ first ∷ []) (search terms depth 60 fits 100000) refl;
          valid1 = valid1;
          valid2 = valid2;
          cancel = cancel;
        }

module _ {P : Type 0} {o : Ops P} (L : Laws o) {f u1 v1 u2 v2 d : P} (c : Quotients o f u1 v1 u2 v2 d) where
  infixl 75 ◌+◌ ◌-◌
  infixl 80 ◌·◌
  open o use {add as ◌+◌, mul as ◌·◌, neg, unit}
  open c use {U1, U2, β, α, k1, k2, first, second, middle, cross, valid1, valid2, cancel}

  abbrev ◌-◌ : P → P → P
  ◌-◌ = sub o

  abbrev u : P
  u = U1 · U2

  abbrev constants : List P
  constants =
      d ∷ U1 ∷ U2 ∷ β ∷ α ∷ k1 ∷ k2 ∷ f ∷ u1 ∷ v1 ∷ u2 ∷ v2 ∷ []

  pub common_square : u1 · u2 ≡ d · d · u
  common_square =
      by_facts L constants (u2 ⋆ first ∷ d · U1 ⋆ second ∷ []) (search terms depth 60 fits 100000) refl

  -- Two equations with d cancelled.
  pub α_first : α ≡ v1 · β + U1 · k1
  α_first =
      cancel α (v1 · β + U1 · k1)
      (by_facts L constants
      (neg unit ⋆ cross ∷ v1 ⋆ middle ∷ unit ⋆ valid1 ∷ k1 ⋆ first ∷ [])
      (search terms depth 60 fits 100000) refl)

  pub α_second : α ≡ v2 · β + U2 · k2
  α_second =
      cancel α (v2 · β + U2 · k2)
      (by_facts L constants
      (neg unit ⋆ cross ∷ v2 ⋆ middle ∷ unit ⋆ valid2 ∷ k2 ⋆ second ∷ [])
      (search terms depth 60 fits 100000) refl)

  -- What α and β are to f, with the factor U1·U2 in sight.

  α_v2 : α · v2 ≡ β · f - U2 · k2 · v1
  α_v2 =
      by_facts L constants
      (v2 ⋆ α_second ∷ neg β ⋆ valid2 ∷ neg (β · k2) ⋆ second ∷ U2 · k2 ⋆ middle ∷ [])
      (search terms depth 60 fits 100000) refl

  α_v1 : α · v1 ≡ β · f - U1 · k1 · v2
  α_v1 =
      by_facts L constants
      (v1 ⋆ α_first ∷ neg β ⋆ valid1 ∷ neg (β · k1) ⋆ first ∷ U1 · k1 ⋆ middle ∷ [])
      (search terms depth 60 fits 100000) refl

  α_α : α · α ≡ β · β · f + u · (k1 · k2)
  α_α =
      by_facts L constants
      (β ⋆ α_v1 ∷ α ⋆ α_first ∷ U1 · k1 ⋆ α_second ∷ [])
      (search terms depth 60 fits 100000) refl

  module _ (g : Shared o f u1 v1 u2 v2 d) where
    abbrev e1 : P
    e1 = g.factor 0

    abbrev e2 : P
    e2 = g.factor 1

    abbrev e3 : P
    e3 = g.factor 2

    abbrev cofactors : List P
    cofactors = e1 ∷ e2 ∷ e3 ∷ constants

    pub whole : e1 · U1 + e2 · U2 + e3 · β ≡ unit
    whole =
        cancel (e1 · U1 + e2 · U2 + e3 · β) unit
        (by_facts L cofactors
        (neg unit ⋆ g.combines ∷ neg e1 ⋆ first ∷ neg e2 ⋆ second ∷ neg e3 ⋆ middle ∷ [])
        (search terms depth 60 fits 100000) refl)

    -- the v of the rules, up to multiples of u
    abbrev pub ruled : P
    ruled = e1 · U1 · v2 + e2 · U2 · v1 + e3 · α

    pub numerator-divided : numerator o f u1 v1 u2 v2 g ≡ d · ruled
    numerator-divided =
        by_facts L cofactors (e1 · v2 ⋆ first ∷ e2 · v1 ⋆ second ∷ e3 ⋆ cross ∷ []) (search terms depth 60 fits 100000) refl

    ruled-value : (v s : P) → numerator o f u1 v1 u2 v2 g ≡ d · s → (r : Congruent o u v s) → v ≡ ruled + u · r.0
    ruled-value v s e (q, r) = split (cancel ruled s (sym numerator-divided ∙ e)) r
      where
        split : {x : P} → x ≡ s → v - s ≡ u · q → v ≡ x + u · q
        split {x} h k =
            by_facts L (v ∷ s ∷ q ∷ x ∷ U1 ∷ U2 ∷ []) (neg unit ⋆ h ∷ unit ⋆ k ∷ []) (search terms depth 60 fits 100000) refl

    -- The v of the rules meets the three congruences.
    pub ruled-composite : (v s : P) → numerator o f u1 v1 u2 v2 g ≡ d · s → Congruent o u v s → Composite o f u1 v1 u2 v2 c v
    ruled-composite v s e r = meets v r.0 (ruled-value v s e r)
      where
        meets : (v q : P) → v ≡ ruled + u · q → Composite o f u1 v1 u2 v2 c v
        meets v q value =
            record {
              at1 = (
                e2 · (v1 - v2) + e3 · k2 + U1 · q,
                by_facts L (v ∷ q ∷ cofactors) (U1 ⋆ value ∷ U1 · v2 ⋆ whole ∷ U1 · e3 ⋆ α_second ∷ [])
                    (search terms depth 60 fits 100000) refl,
              );
              at2 = (
                e1 · (v2 - v1) + e3 · k1 + U2 · q,
                by_facts L (v ∷ q ∷ cofactors) (U2 ⋆ value ∷ U2 · v1 ⋆ whole ∷ U2 · e3 ⋆ α_first ∷ [])
                    (search terms depth 60 fits 100000) refl,
              );
              at3 = (
                β · q - e1 · k2 - e2 · k1,
                by_facts L (v ∷ q ∷ cofactors)
                    (β ⋆ value ∷ α ⋆ whole ∷ neg (e1 · U1) ⋆ α_second ∷ neg (e2 · U2) ⋆ α_first ∷ [])
                    (search terms depth 60 fits 100000) refl,
              );
            }

    -- To show that u divides x, show it for U1·x, U2·x and β·x.
    pub by_parts : (x : P) → Divides o u (U1 · x) → Divides o u (U2 · x) → Divides o u (β · x) → Divides o u x
    by_parts x p q r = (
      e1 · p.0 + e2 · q.0 + e3 · r.0,
      by_facts L (x ∷ p.0 ∷ q.0 ∷ r.0 ∷ cofactors)
          (neg x ⋆ whole ∷ e1 ⋆ p.1 ∷ e2 ⋆ q.1 ∷ e3 ⋆ r.1 ∷ [])
          (search terms depth 60 fits 100000) refl,
    )

    -- So the three congruences determine v modulo u.
    pub composites_agree : (v w : P) → Composite o f u1 v1 u2 v2 c v → Composite o f u1 v1 u2 v2 c w → Congruent o u v w
    composites_agree v w h k =
        by_parts (v - w) (agree U1 (U1 · v2) h.at1 k.at1) (agree U2 (U2 · v1) h.at2 k.at2)
        (agree β α h.at3 k.at3)
      where
        agree : (x z : P) → Congruent o u (x · v) z → Congruent o u (x · w) z → Divides o u (x · (v - w))
        agree x z (s, p) (t, q) = (
          s - t,
          by_facts L (v ∷ w ∷ x ∷ z ∷ s ∷ t ∷ U1 ∷ U2 ∷ []) (unit ⋆ p ∷ neg unit ⋆ q ∷ [])
              (search terms depth 60 fits 100000) refl,
        )

    -- And each v that meets them is the v of the rules.
    pub composite-value : (v : P) → Composite o f u1 v1 u2 v2 c v → (q : P) × (v ≡ ruled + u · q)
    composite-value v h = go h.at1 h.at2 h.at3
      where
        go : Congruent o u (U1 · v) (U1 · v2) → Congruent o u (U2 · v) (U2 · v1) → Congruent o u (β · v) α → (q : P) × (v ≡ ruled + u · q)
        go (t1, p1) (t2, p2) (t3, p3) = (
          e1 · t1 + e2 · t2 + e3 · t3,
          by_facts L (v ∷ t1 ∷ t2 ∷ t3 ∷ cofactors) (neg v ⋆ whole ∷ e1 ⋆ p1 ∷ e2 ⋆ p2 ∷ e3 ⋆ p3 ∷ [])
              (search terms depth 60 fits 100000) refl,
        )

    -- The trick again, first for α·v ≡ β·f.
    α_v : (v : P) → Composite o f u1 v1 u2 v2 c v → Congruent o u (α · v) (β · f)
    α_v v h = by_parts (α · v - β · f) (at_U1 h.at1) (at_U2 h.at2) (at_β h.at3)
      where
        at_U1 : Congruent o u (U1 · v) (U1 · v2) → Divides o u (U1 · (α · v - β · f))
        at_U1 (t, p) =
            (α · t - k2 · v1, by_facts L (v ∷ t ∷ cofactors) (α ⋆ p ∷ U1 ⋆ α_v2 ∷ []) (search terms depth 60 fits 100000) refl)

        at_U2 : Congruent o u (U2 · v) (U2 · v1) → Divides o u (U2 · (α · v - β · f))
        at_U2 (t, p) =
            (α · t - k1 · v2, by_facts L (v ∷ t ∷ cofactors) (α ⋆ p ∷ U2 ⋆ α_v1 ∷ []) (search terms depth 60 fits 100000) refl)

        at_β : Congruent o u (β · v) α → Divides o u (β · (α · v - β · f))
        at_β (t, p) =
            (α · t + k1 · k2, by_facts L (v ∷ t ∷ cofactors) (α ⋆ p ∷ unit ⋆ α_α ∷ []) (search terms depth 60 fits 100000) refl)

    pub composite_valid : (v : P) → Composite o f u1 v1 u2 v2 c v → Represents o f u v
    composite_valid v h = by_parts (f - v · v) (at_U1 h.at1) (at_U2 h.at2) (at_β h.at3 (α_v v h))
      where
        at_U1 : Congruent o u (U1 · v) (U1 · v2) → Divides o u (U1 · (f - v · v))
        at_U1 (t, p) = (
          d · k2 - t · (v + v2),
          by_facts L (v ∷ t ∷ cofactors) (neg (v + v2) ⋆ p ∷ U1 ⋆ valid2 ∷ U1 · k2 ⋆ second ∷ [])
              (search terms depth 60 fits 100000) refl,
        )

        at_U2 : Congruent o u (U2 · v) (U2 · v1) → Divides o u (U2 · (f - v · v))
        at_U2 (t, p) = (
          d · k1 - t · (v + v1),
          by_facts L (v ∷ t ∷ cofactors) (neg (v + v1) ⋆ p ∷ U2 ⋆ valid1 ∷ U2 · k1 ⋆ first ∷ [])
              (search terms depth 60 fits 100000) refl,
        )

        at_β : Congruent o u (β · v) α → Congruent o u (α · v) (β · f) → Divides o u (β · (f - v · v))
        at_β (t, p) (t', p') = (
          neg (t' + t · v),
          by_facts L (v ∷ t ∷ t' ∷ cofactors) (neg v ⋆ p ∷ neg unit ⋆ p' ∷ []) (search terms depth 60 fits 100000) refl,
        )
