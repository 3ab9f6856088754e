-- The reduction step from (u, v) to (u', v') by a polynomial w, in any commutative ring.
use Rattle.std.specs.Prelude.{◌≡◌}
use Rattle.algebra.specs.Ring.{Ops, sub}
use Rattle.algebra.specs.Divisibility.{Congruent}

module _ {P : Type 0} (o : Ops P) (f : P) where
  infixl 80 ◌·◌
  open o use {mul as ◌·◌, neg, unit}

  -- w ≡ v modulo u, f − w² = u·κ·u' with a unit κ, and v' ≡ −w modulo u'
  pub record Step (u v u' v' w : P) : Type 0 where
    pub κ : P
    pub κ⁻¹ : P
    pub is_unit : κ · κ⁻¹ ≡ unit
    pub near : Congruent o u w v
    pub quotient : sub o f (w · w) ≡ u · (κ · u')
    pub opposite : Congruent o u' v' (neg w)
