-- Accounts: lists of divisors, and what it is to settle one, as far as sets of functions go.
-- R is any commutative ring, and a divisor is whatever has members in R. Assumes nothing of either.
use Rattle.std.specs.Prelude.{◌≡◌, List, [], ◌∷◌}
use Rattle.algebra.specs.Ring.{Ops}

-- the finite sums of elements of S
pub data Sums {R : Type 0} (o : Ops R) (S : R → Type 0) : R → Type 0 where
  none : Sums o S o.nil
  more : {x y : R} → S x → Sums o S y → Sums o S (o.add x y)

-- x is h·m for some m of S
abbrev pub Multiple : {R : Type 0} → Ops R → R → (R → Type 0) → R → Type 0
Multiple {R} o h S x = (m : R) × S m × (x ≡ o.mul h m)

module _ {R : Type 0} (o : Ops R) {D : Type 0} (Members : D → R → Type 0) where
  -- x is a1·…·ak·c, where ai is a member of the i-th divisor and c is anything
  abbrev pub Product : List D → R → Type 0
  Product [] x = Unit {0}
  Product (E ∷ Es) x = (a : R) × (p : R) × Members E a × Product Es p × (x ≡ o.mul a p)

  -- The sums of products g·a1·…·ak·c are exactly the functions h·m, m a member of E.
  pub record SameSets (g h : R) (E : D) (account : List D) : Type 0 where
    pub within : (x : R) → Sums o (Multiple o g (Product account)) x → Multiple o h (Members E) x
    pub reached : (x : R) → Multiple o h (Members E) x → Sums o (Multiple o g (Product account)) x
