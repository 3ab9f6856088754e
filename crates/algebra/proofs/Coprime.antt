-- Divisibility by coprime elements of a commutative ring.
use mathlib.Core.Path.{refl}
use mathlib.Core.List.{[], ◌∷◌}
use Rattle.algebra.specs.Ring.{Ops, Laws}
use Rattle.algebra.specs.Divisibility.{Divides, Coprime}
use Rattle.algebra.proofs.Reify.{by_facts, ◌⋆◌, terms}

module _ {P : Type 0} {p : Ops P} (L : Laws p) where
  open p use {add as ◌+◌, mul as ◌·◌, neg, unit}

  infixl 75 ◌+◌
  infixl 80 ◌·◌
  -- what is coprime to one factor divides the other
  pub coprime_divides : {a b c : P} → Coprime p a b → Divides p a (b · c) → Divides p a c
  coprime_divides {a = a} {b = b} {c = c} (s, t, e) (z, h) = (
    s · c + t · z,
    by_facts L (a ∷ b ∷ c ∷ s ∷ t ∷ z ∷ []) (neg c ⋆ e ∷ t ⋆ h ∷ []) (search terms depth 60 fits 100000) refl,
  )

  -- the product of two that are coprime divides what both divide
  pub coprime_product_divides : {a b c : P} → Coprime p a b → Divides p a c → Divides p b c → Divides p (a · b) c
  coprime_product_divides {a = a} {b = b} {c = c} (s, t, e) (z, h) (w, k) = (
    s · w + t · z,
    by_facts L (a ∷ b ∷ c ∷ s ∷ t ∷ z ∷ w ∷ []) (neg c ⋆ e ∷ s · a ⋆ k ∷ t · b ⋆ h ∷ []) (search terms depth 60 fits 100000) refl,
  )

  pub coprime_sym : {a b : P} → Coprime p a b → Coprime p b a
  coprime_sym {a = a} {b = b} (s, t, e) =
      (t, s, by_facts L (a ∷ b ∷ s ∷ t ∷ []) (unit ⋆ e ∷ []) (search terms depth 60 fits 100000) refl)
