-- Composites where d = 1, as closed formulas reach them: of divisors with coprime u1 and u2, and of a divisor with itself
-- where u and 2·v are coprime.
use Rattle.std.proofs.Common.{◌≡◌, List, [], ◌∷◌, refl}
use Rattle.algebra.specs.Ring.{Ops, Laws, sub}
use Rattle.algebra.specs.Divisibility.{Congruent}
use Rattle.algebra.proofs.Reify.{◌⋆◌, by_facts, terms}
use Rattle.mumford.specs.Composition.{Quotients, Composite}
use Rattle.mumford.proofs.Congruences as C

module _ {P : Type 0} {o : Ops P} (L : Laws o) where
  infixl 75 ◌+◌ ◌-◌
  infixl 80 ◌·◌
  open o use {add as ◌+◌, mul as ◌·◌, neg, unit}

  abbrev ◌-◌ : P → P → P
  ◌-◌ = sub o

  -- Where u1 and u2 are coprime, v ≡ v1 modulo u1 and v ≡ v2 modulo u2 are enough.
  pub sum-composite : {f u1 v1 u2 v2 d : P} (c : Quotients o f u1 v1 u2 v2 d) → d ≡ unit → (e1 e2 : P) → e1 · u1 + e2 · u2 ≡ unit
      → (v : P) → Congruent o u1 v v1 → Congruent o u2 v v2
      → Composite o f u1 v1 u2 v2 c v
  sum-composite {f} {u1} {v1} {u2} {v2} {d} c one e1 e2 coprime v (s, p) (t, q) =
      record {
        at1 = (t, at_U1);
        at2 = (s, at_U2);
        at3 = (
          e1 · (β · t - k2) + e2 · (β · s - k1),
          by_facts L (v ∷ s ∷ t ∷ constants)
              (neg (β · v - α) ⋆ coprime
              ∷ e1 · (β · v - α) ⋆ first
              ∷ e2 · (β · v - α) ⋆ second
              ∷ (e1 · U1 + e2 · U2) · (β · v - α) ⋆ one
              ∷ e1 · β ⋆ at_U1
              ∷ e2 · β ⋆ at_U2
              ∷ neg (e1 · U1) ⋆ C.α_second L c
              ∷ neg (e2 · U2) ⋆ C.α_first L c
              ∷ [])
              (search terms depth 60 fits 100000) refl,
        );
      }
    where
      open c use {U1, U2, β, α, k1, k2, first, second}

      constants : List P
      constants =
          d ∷ e1 ∷ e2 ∷ U1 ∷ U2 ∷ β ∷ α ∷ k1 ∷ k2 ∷ f ∷ u1 ∷ v1 ∷ u2 ∷ v2 ∷ []

      at_U1 : U1 · v - U1 · v2 ≡ U1 · U2 · t
      at_U1 =
          by_facts L (v ∷ s ∷ t ∷ constants) (U1 ⋆ q ∷ U1 · t ⋆ second ∷ U1 · U2 · t ⋆ one ∷ []) (search terms depth 60 fits 100000) refl

      at_U2 : U2 · v - U2 · v1 ≡ U1 · U2 · s
      at_U2 =
          by_facts L (v ∷ s ∷ t ∷ constants) (U2 ⋆ p ∷ U2 · s ⋆ first ∷ U1 · U2 · s ⋆ one ∷ []) (search terms depth 60 fits 100000) refl

  -- Where u and 2·v are coprime, the double has v + s·u with 2·v·s ≡ (f − v²)/u modulo u.
  pub double-composite : {f u v d : P} (c : Quotients o f u v u v d) → d ≡ unit
      → (s : P) → Congruent o u ((v + v) · s) c.k1
      → Composite o f u v u v c (v + s · u)
  double-composite {f} {u} {v} {d} c one s (t, p) =
      record {
        at1 =
            (s, by_facts L (s ∷ t ∷ constants) (U1 · s ⋆ second ∷ U1 · U2 · s ⋆ one ∷ []) (search terms depth 60 fits 100000) refl);
        at2 =
            (s, by_facts L (s ∷ t ∷ constants) (U2 · s ⋆ first ∷ U1 · U2 · s ⋆ one ∷ []) (search terms depth 60 fits 100000) refl);
        at3 = (
          t,
          by_facts L (s ∷ t ∷ constants)
              (neg (v + s · u) ⋆ middle
              ∷ unit ⋆ cross
              ∷ neg unit ⋆ valid1
              ∷ u ⋆ p
              ∷ u · t ⋆ first
              ∷ d · U1 · t ⋆ second
              ∷ α - β · (v + s · u) + (d + unit) · (U1 · U2 · t) ⋆ one
              ∷ [])
              (search terms depth 60 fits 100000) refl,
        );
      }
    where
      open c use {U1, U2, β, α, k1, first, second, middle, cross, valid1}

      constants : List P
      constants = d ∷ U1 ∷ U2 ∷ β ∷ α ∷ k1 ∷ f ∷ u ∷ v ∷ []
