-- Composites where d = 1: of divisors with coprime u1 and u2, and of a divisor with itself where u and 2·v are coprime.
use Rattle.std.proofs.Common.{◌≡◌, ◌<◌, [], ◌∷◌, get_or, pos, ◌+ℤ◌, ◌-ℤ◌, sym, refl, ap, ◌∙◌}
use Rattle.algebra.specs.Ring.{Ops, Laws, sub}
use Rattle.algebra.specs.Field.{Field}
use Rattle.algebra.specs.Divisibility.{Congruent, Coprime}
use Rattle.algebra.specs.Polynomials.{Polynomials}
use Rattle.algebra.proofs.Elementary as Y
use Rattle.algebra.proofs.Reify.{by_ring, by_facts, ◌⋆◌, terms}
use Rattle.algebra.proofs.PolynomialRing as A
use Rattle.algebra.proofs.Size as Z
use Rattle.algebra.proofs.Monic as M
use Rattle.mumford.specs.Divisors.{Divisor, Valid}
use Rattle.mumford.specs.Composition.{Shared, Quotients, Composite}
use Rattle.mumford.specs.Addition.{Composed}
use Rattle.mumford.proofs.Coprime as C
use Rattle.mumford.proofs.Composed as G
use Rattle.mumford.proofs.Degrees.{degree_unit}

-- [u1·u2; v2 + s·u2; n1 + n2 − 1]
abbrev pub combined : {P : Type 0} → Ops P → Divisor P → Divisor P → P → Divisor P
combined p D E s =
    record { u = p.mul D.u E.u; v = p.add E.v (p.mul s E.u); n = D.n +ℤ E.n +ℤ pos 0 -ℤ pos 1 }

module _ {K : Type 0} {o : Ops K} (F : Field o) {P : Type 0} {p : Ops P} (H : Polynomials o p) where
  infixl 75 ◌+◌ ◌-◌
  infixl 80 ◌·◌
  open p use {add as ◌+◌, mul as ◌·◌, neg, nil, unit}
  open H use {size}

  abbrev ◌-◌ : P → P → P
  ◌-◌ = sub p

  abbrev L : Laws p
  L = A.polynomial_laws F H

  -- polynomials of which 1 is a combination have the greatest common divisor 1
  shared_unit : (f : P) {u1 v1 u2 v2 : P} (e1 e2 e3 : P) → e1 · u1 + e2 · u2 + e3 · (v1 + v2) ≡ unit → Shared p f u1 v1 u2 v2 unit
  shared_unit f {u1} {v1} {u2} {v2} e1 e2 e3 h =
      record {
        divides = ((u1, one-times u1), ((u2, one-times u2), ((v1 + v2, one-times (v1 + v2)), tt)));
        factor = λ k. get_or (e1 ∷ e2 ∷ e3 ∷ []) k nil;
        combines =
            by_facts L (u1 ∷ v1 ∷ u2 ∷ v2 ∷ e1 ∷ e2 ∷ e3 ∷ []) (neg unit ⋆ h ∷ []) (search terms depth 60 fits 100000) refl;
      }
    where
      one-times : (a : P) → a ≡ unit · a
      one-times a = sym (Y.unit_mul p L a)

  module _ {f : P} {D E : Divisor P} (hD : Valid H f D) (hE : Valid H f E) (s : P)
      (smaller : size (combined p D E s).v < size (combined p D E s).u) where
    open D use {u as u1, v as v1}
    open E use {u as u2, v as v2}

    by_congruences : (g : Shared p f u1 v1 u2 v2 unit)
        → Composite p f u1 v1 u2 v2 (G.quotients F H hD hE (M.monic_unit F H) g) (v2 + s · u2)
        → Composed H f D E (combined p D E s)
    by_congruences g c =
        G.composite-composed F H hD hE (M.monic_unit F H) g (once (u1 · u2)) c smaller
        (ap (λ n. D.n +ℤ E.n +ℤ pos n -ℤ pos 1) (sym (degree_unit F H)))
      where
        once : (a : P) → a ≡ unit · unit · a
        once a = by_ring L (a ∷ []) (search terms depth 60 fits 100000) refl

    pub sum-composed : Coprime p u1 u2 → Congruent p u1 (s · u2) (v1 - v2) → Composed H f D E (combined p D E s)
    sum-composed (e1, e2, bezout) (t, e) =
        by_congruences g
        (C.sum-composite L (G.quotients F H hD hE (M.monic_unit F H) g) refl e1 e2 bezout (v2 + s · u2)
        (t, by_facts L (u1 ∷ v1 ∷ u2 ∷ v2 ∷ s ∷ t ∷ []) (unit ⋆ e ∷ []) (search terms depth 60 fits 100000) refl)
        (s, by_ring L (u2 ∷ v2 ∷ s ∷ []) (search terms depth 60 fits 100000) refl))
      where
        g : Shared p f u1 v1 u2 v2 unit
        g =
            shared_unit f e1 e2 nil
            (by_facts L (u1 ∷ v1 ∷ u2 ∷ v2 ∷ e1 ∷ e2 ∷ []) (unit ⋆ bezout ∷ []) (search terms depth 60 fits 100000) refl)

  pub double-composed : {f : P} {D : Divisor P} (h : Valid H f D) (s : P)
      → size (combined p D D s).v < size (combined p D D s).u
      → Coprime p D.u (D.v + D.v)
      → (k : P) → f - D.v · D.v ≡ D.u · k → Congruent p D.u (s · (D.v + D.v)) k
      → Composed H f D D (combined p D D s)
  double-composed {f} {D} h s smaller (e1, e3, bezout) k valid (t, e) =
      by_congruences h h s smaller g
      (C.double-composite L q refl s
      (t, by_facts L (u ∷ v ∷ k ∷ q.k1 ∷ s ∷ t ∷ []) (unit ⋆ e ∷ neg unit ⋆ same ∷ []) (search terms depth 60 fits 100000) refl))
    where
      open D use {u, v}

      g : Shared p f u v u v unit
      g =
          shared_unit f e1 nil e3
          (by_facts L (u ∷ v ∷ e1 ∷ e3 ∷ []) (unit ⋆ bezout ∷ []) (search terms depth 60 fits 100000) refl)

      q : Quotients p f u v u v unit
      q = G.quotients F H h h (M.monic_unit F H) g

      same : q.k1 ≡ k
      same = Z.regular F H u (M.monic_some F H u h.monic) q.k1 k (sym q.valid1 ∙ valid)
