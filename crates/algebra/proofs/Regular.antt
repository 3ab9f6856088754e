-- What can be cancelled in a commutative ring.
use mathlib.Core.Path.{◌≡◌, refl, sym, ◌∙◌, ap}
use mathlib.Core.List.{[], ◌∷◌}
use Rattle.algebra.specs.Ring.{Ops, Laws, sub}
use Rattle.algebra.specs.Divisibility.{Regular}
use Rattle.algebra.proofs.Reify.{by_facts, ◌⋆◌, terms}

module _ {P : Type 0} {p : Ops P} (L : Laws p) where
  infixl 75 ◌-◌
  infixl 80 ◌·◌
  open p use {mul as ◌·◌, neg, unit}

  abbrev ◌-◌ : P → P → P
  ◌-◌ = sub p

  pub regular_mul : (x z : P) → Regular p x → Regular p z → Regular p (x · z)
  regular_mul x z rx rz s t e = rz s t (rx (z · s) (z · t) (sym (L.mul_assoc x z s) ∙ e ∙ L.mul_assoc x z t))

  pub regular_unit : (κ κ' : P) → κ · κ' ≡ unit → Regular p κ
  regular_unit κ κ' h s t e =
      by_facts L (κ ∷ κ' ∷ s ∷ t ∷ []) (neg (s - t) ⋆ h ∷ κ' ⋆ e ∷ []) (search terms depth 60 fits 100000) refl

  pub regular_is : {x z : P} → x ≡ z → Regular p z → Regular p x
  regular_is e r s t k = r s t (ap (λ w. w · s) (sym e) ∙ k ∙ ap (λ w. w · t) e)

  pub unit_regular : Regular p unit
  unit_regular = regular_unit unit unit (L.mul_unit unit)

  -- a factor of what can be cancelled
  pub regular_factor : (x d U : P) → x ≡ d · U → Regular p x → Regular p U
  regular_factor x d U h r s t e =
      r s t
      (by_facts L (x ∷ d ∷ U ∷ s ∷ t ∷ []) (s - t ⋆ h ∷ d ⋆ e ∷ []) (search terms depth 60 fits 100000) refl)

  -- a product of units is a unit
  pub units : (a b x z : P) → a · b ≡ unit → x · z ≡ unit → a · x · (b · z) ≡ unit
  units a b x z h k =
      by_facts L (a ∷ b ∷ x ∷ z ∷ []) (x · z ⋆ h ∷ unit ⋆ k ∷ []) (search terms depth 60 fits 100000) refl
