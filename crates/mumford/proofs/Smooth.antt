-- On a curve without repeated factors, and with 2 invertible, d, v1 − v2 and k1 = (f − v1²)/u1 have no common factor.
use Rattle.std.proofs.Common.{◌≡◌, [], ◌∷◌, refl}
use Rattle.algebra.specs.Ring.{Ops, Laws, sub}
use Rattle.algebra.specs.Field.{Field}
use Rattle.algebra.specs.Divisibility.{Divides, Coprime}
use Rattle.algebra.specs.CommonDivisor.{Greatest}
use Rattle.algebra.specs.Polynomials.{Polynomials, derivative}
use Rattle.algebra.proofs.Reify.{◌⋆◌, by_facts, terms}
use Rattle.algebra.proofs.PolynomialRing as A
use Rattle.algebra.proofs.Squarefree as Q
use Rattle.algebra.proofs.CommonDivisor as M
use Rattle.mumford.specs.Composition.{Quotients}

module _ {K : Type 0} {o : Ops K} (F : Field o) {P : Type 0} {p : Ops P} (H : Polynomials o p) {f u1 v1 u2 v2 d : P}
    (separable : Coprime p f (derivative H f)) (c : Quotients p f u1 v1 u2 v2 d) where
  infixl 75 ◌+◌ ◌-◌
  infixl 80 ◌·◌
  open p use {add as ◌+◌, mul as ◌·◌, neg, unit}
  open c use {U1, β, k1, first, middle, valid1}

  abbrev ◌-◌ : P → P → P
  ◌-◌ = sub p

  abbrev L : Laws p
  L = A.polynomial_laws F H

  -- A common factor divides 2·v1, and with d·k1 also f − v1², twice.
  divides_unit : (half : P) → half + half ≡ unit → (q : P) → Divides p q d → Divides p q (v1 - v2) → Divides p q k1 → Divides p q unit
  divides_unit half halves q (d', hd) (w', hw) (k', hk) =
      Q.square_divides_unit F H separable {a = q} (x · x + d' · U1 · k', square x root)
    where
      x : P
      x = half · (d' · β + w')

      root : v1 ≡ q · (half · (d' · β + w'))
      root =
          by_facts L (q ∷ d' ∷ w' ∷ half ∷ d ∷ β ∷ v1 ∷ v2 ∷ [])
          (neg v1 ⋆ halves ∷ half ⋆ middle ∷ half · β ⋆ hd ∷ half ⋆ hw ∷ []) (search terms depth 60 fits 100000) refl

      square : (x : P) → v1 ≡ q · x → f ≡ q · q · (x · x + d' · U1 · k')
      square x e =
          by_facts L (q ∷ x ∷ d' ∷ k' ∷ f ∷ d ∷ U1 ∷ k1 ∷ u1 ∷ v1 ∷ [])
          (unit ⋆ valid1 ∷ v1 + q · x ⋆ e ∷ k1 ⋆ first ∷ U1 · k1 ⋆ hd ∷ q · d' · U1 ⋆ hk ∷ []) (search terms depth 60 fits 100000) refl

  pub no_common_factor : Greatest p (d ∷ v1 - v2 ∷ k1 ∷ []) unit
  no_common_factor =
      let (half, halves) = A.half F H in
      M.coprime_row F H (d ∷ v1 - v2 ∷ k1 ∷ []) (λ q h. divides_unit half halves q h.0 h.1.0 h.1.1.0)
