-- The functions on a curve are a commutative ring, so that the solver proves their equations too; and their norms.
use Rattle.std.proofs.Common.{◌≡◌, [], ◌∷◌, refl}
use mathlib.Core.HLevel.{Σ_set}
use Rattle.algebra.specs.Ring.{Ops, Laws}
use Rattle.algebra.proofs.Reify.{by_ring, terms}
use Rattle.mumford.specs.Functions.{Function, functions, constant, conjugate, norm}

-- Functions are equal where both their polynomials are.
pub both : {P : Type 0} {g h : Function P} → g.0 ≡ h.0 → g.1 ≡ h.1 → g ≡ h
both p q = λ i. (p i, q i)

module _ {P : Type 0} {o : Ops P} (L : Laws o) (f : P) where
  infixl 80 ◌·◌
  open o use {mul as ◌·◌}

  pub function_laws : Laws (functions o f)
  function_laws =
      record {
        is_set = Σ_set L.is_set (λ _. L.is_set);
        add_comm = λ g h. both (L.add_comm g.0 h.0) (L.add_comm g.1 h.1);
        add_assoc = λ g h k. both (L.add_assoc g.0 h.0 k.0) (L.add_assoc g.1 h.1 k.1);
        add_nil = λ g. both (L.add_nil g.0) (L.add_nil g.1);
        add_neg = λ g. both (L.add_neg g.0) (L.add_neg g.1);
        mul_comm =
            λ g h.
            both (by_ring L (g.0 ∷ g.1 ∷ h.0 ∷ h.1 ∷ f ∷ []) (search terms depth 60 fits 100000) refl)
            (by_ring L (g.0 ∷ g.1 ∷ h.0 ∷ h.1 ∷ f ∷ []) (search terms depth 60 fits 100000) refl);
        mul_assoc =
            λ g h k.
            both
            (by_ring L (g.0 ∷ g.1 ∷ h.0 ∷ h.1 ∷ k.0 ∷ k.1 ∷ f ∷ []) (search terms depth 60 fits 100000) refl)
            (by_ring L (g.0 ∷ g.1 ∷ h.0 ∷ h.1 ∷ k.0 ∷ k.1 ∷ f ∷ []) (search terms depth 60 fits 100000) refl);
        mul_unit =
            λ g.
            both (by_ring L (g.0 ∷ g.1 ∷ f ∷ []) (search terms depth 60 fits 100000) refl)
            (by_ring L (g.0 ∷ g.1 ∷ f ∷ []) (search terms depth 60 fits 100000) refl);
        mul-add =
            λ g h k.
            both
            (by_ring L (g.0 ∷ g.1 ∷ h.0 ∷ h.1 ∷ k.0 ∷ k.1 ∷ f ∷ []) (search terms depth 60 fits 100000) refl)
            (by_ring L (g.0 ∷ g.1 ∷ h.0 ∷ h.1 ∷ k.0 ∷ k.1 ∷ f ∷ []) (search terms depth 60 fits 100000) refl);
      }

  -- A function times its conjugate is its norm.
  pub norm_is : (g : Function P) → (functions o f).mul g (conjugate o g) ≡ constant o (norm o f g)
  norm_is g =
      both (by_ring L (g.0 ∷ g.1 ∷ f ∷ []) (search terms depth 60 fits 100000) refl)
      (by_ring L (g.0 ∷ g.1 ∷ f ∷ []) (search terms depth 60 fits 100000) refl)

  pub norm-mul : (g h : Function P) → norm o f ((functions o f).mul g h) ≡ norm o f g · norm o f h
  norm-mul g h =
      by_ring L (g.0 ∷ g.1 ∷ h.0 ∷ h.1 ∷ f ∷ []) (search terms depth 60 fits 100000) refl

  pub norm-constant : (a : P) → norm o f (constant o a) ≡ a · a
  norm-constant a = by_ring L (f ∷ a ∷ []) (search terms depth 60 fits 100000) refl

  pub norm-conjugate : (g : Function P) → norm o f (conjugate o g) ≡ norm o f g
  norm-conjugate g = by_ring L (f ∷ g.0 ∷ g.1 ∷ []) (search terms depth 60 fits 100000) refl

  -- Conjugation keeps sums and products, and undoes itself.
  pub conjugate_nil : conjugate o (functions o f).nil ≡ (functions o f).nil
  conjugate_nil = both refl (by_ring L [] (search terms depth 60 fits 100000) refl)

  pub conjugate-add : (g h : Function P) → conjugate o ((functions o f).add g h) ≡ (functions o f).add (conjugate o g) (conjugate o h)
  conjugate-add g h = both refl (by_ring L (g.1 ∷ h.1 ∷ []) (search terms depth 60 fits 100000) refl)

  pub conjugate-mul : (g h : Function P) → conjugate o ((functions o f).mul g h) ≡ (functions o f).mul (conjugate o g) (conjugate o h)
  conjugate-mul g h =
      both (by_ring L (g.0 ∷ g.1 ∷ h.0 ∷ h.1 ∷ f ∷ []) (search terms depth 60 fits 100000) refl)
      (by_ring L (g.0 ∷ g.1 ∷ h.0 ∷ h.1 ∷ f ∷ []) (search terms depth 60 fits 100000) refl)

  pub conjugate-conjugate : (g : Function P) → conjugate o (conjugate o g) ≡ g
  conjugate-conjugate g = both refl (by_ring L (g.1 ∷ []) (search terms depth 60 fits 100000) refl)
