-- Finite sums of elements of a set, and ideals, in any commutative ring.
use Rattle.std.proofs.Common.{[], ◌∷◌, sym, refl, ap, ◌∙◌, subst}
use Rattle.algebra.specs.Ring.{Ops, Laws}
use Rattle.algebra.proofs.Reify.{by_ring, terms}
use Rattle.mumford.specs.Accounts.{Sums, none, more, Multiple}

-- a set that is closed under sums
pub record Closed {R : Type 0} (o : Ops R) (T : R → Type 0) : Type 0 where
  pub nil_in : T o.nil
  pub add_in : (x y : R) → T x → T y → T (o.add x y)

-- a set that is closed under sums and under multiplication by anything
pub record Ideal {R : Type 0} (o : Ops R) (T : R → Type 0) : Type 0 where
  pub closed : Closed o T
  pub times : (x c : R) → T x → T (o.mul x c)

module _ {R : Type 0} {o : Ops R} (L : Laws o) where
  infixl 75 ◌+◌
  infixl 80 ◌·◌
  open o use {add as ◌+◌, mul as ◌·◌, nil}

  pub single : {S : R → Type 0} (x : R) → S x → Sums o S x
  single {S} x s = subst (Sums o S) (L.add_nil x) (more s none)

  pub sums-closed : {S : R → Type 0} → Closed o (Sums o S)
  sums-closed {S} = record { nil_in = none; add_in = join }
    where
      join : (x y : R) → Sums o S x → Sums o S y → Sums o S (x + y)
      join _ y none t = subst (Sums o S) (by_ring L (y ∷ []) (search terms depth 60 fits 100000) refl) t
      join _ z (more {x = x} {y = y} s r) t = subst (Sums o S) (sym (L.add_assoc x y z)) (more s (join y z r t))

  -- To show something of k·x for all sums x, show it for k times the elements, in a set closed under sums.
  pub sums_into : {S T : R → Type 0} → Closed o T → (k : R) → ((x : R) → S x → T (k · x)) → (x : R) → Sums o S x → T (k · x)
  sums_into {T = T} c k h _ none = subst T (by_ring L (k ∷ []) (search terms depth 60 fits 100000) refl) c.nil_in
  sums_into {T = T} c k h _ (more {x = x} {y = y} s r) =
      subst T (sym (L.mul-add k x y)) (c.add_in (k · x) (k · y) (h x s) (sums_into c k h y r))

  -- the same for two factors
  pub sums_into2 : {S S' T : R → Type 0} → Closed o T → (k : R)
      → ((x y : R) → S x → S' y → T (k · (x · y)))
      → (x y : R) → Sums o S x → Sums o S' y → T (k · (x · y))
  sums_into2 {S} {S'} {T} c k h x y s t =
      subst T (by_ring L (k ∷ x ∷ y ∷ []) (search terms depth 60 fits 100000) refl)
      (sums_into c (k · y)
      (λ x₁ s₁.
      subst T (by_ring L (k ∷ x₁ ∷ y ∷ []) (search terms depth 60 fits 100000) refl)
      (sums_into c (k · x₁)
      (λ y₁ t₁. subst T (by_ring L (k ∷ x₁ ∷ y₁ ∷ []) (search terms depth 60 fits 100000) refl) (h x₁ y₁ s₁ t₁)) y t))
      x s)

  -- the same with no factor
  pub sums_in : {S T : R → Type 0} → Closed o T → ((x : R) → S x → T x) → (x : R) → Sums o S x → T x
  sums_in c h _ none = c.nil_in
  sums_in c h _ (more {x = x} {y = y} s r) = c.add_in x y (h x s) (sums_in c h y r)

  pub multiple-closed : {S : R → Type 0} (h : R) → Closed o S → Closed o (Multiple o h S)
  multiple-closed {S} h c =
      record {
        nil_in = (nil, c.nil_in, by_ring L (h ∷ []) (search terms depth 60 fits 100000) refl);
        add_in =
            λ x y p q.
            (p.0 + q.0, c.add_in p.0 q.0 p.1 q.1, ap (◌+◌ x) q.2 ∙ ap (λ z. z + h · q.0) p.2 ∙ sym (L.mul-add h p.0 q.0));
      }
