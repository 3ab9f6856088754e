-- The normal form of a formula, and the normaliser. Only its speed and `Sound` speak for it: that
-- equal polynomials have one normal form is used nowhere.
--
-- A polynomial is a tree of its monomials, each a rising row of variables, that shares their
-- beginnings. `con c` is the integer c. `px i p q` is xᵢ · p + q, where p has no variable below
-- xᵢ, q none up to xᵢ, and p is not zero.
use Prim.Native.Nat.{ℕ, zero, suc, compare, Ordering}
use lib.IntN.{ℤ, pos, negsuc, ◌+ℤ◌, ◌*ℤ◌}
use Rattle.algebra.proofs.Expression.{Expr, var, plus, times, minus, none, one}

pub data Poly : Type 0 where
  con : ℤ → Poly
  px : ℕ → Poly → Poly → Poly

-- xᵢ · p + q, where p may be zero
abbrev pub node : ℕ → Poly → Poly → Poly
node i (con (pos zero)) q = q
node i (con (pos (suc n))) q = px i (con (pos (suc n))) q
node i (con (negsuc n)) q = px i (con (negsuc n)) q
node i (px j r s) q = px i (px j r s) q

abbrev pub add_con : ℤ → Poly → Poly
add_con c (con d) = con (c +ℤ d)
add_con c (px j r s) = px j r (add_con c s)

-- The sum of px i p q and px j r s, given the order of i and j, the functions that add p and q to
-- a polynomial, and the sum of px i p q and s. That sum waits under a λ, since it is used in one
-- case alone and antt computes arguments first.
abbrev pub add_step : Ordering → ℕ → Poly → (Poly → Poly) → (Poly → Poly) → ℕ → Poly → Poly → (Unit {0} → Poly) → Poly
add_step Ordering.lt i p p+ q+ j r s rest = px i p (q+ (px j r s))
add_step Ordering.eq i p p+ q+ j r s rest = node i (p+ r) (q+ s)
add_step Ordering.gt i p p+ q+ j r s rest = px j r (rest tt)

-- The sum of px i p q and a polynomial.
abbrev pub add_px : ℕ → Poly → (Poly → Poly) → (Poly → Poly) → Poly → Poly
add_px i p p+ q+ (con d) = px i p (q+ (con d))
add_px i p p+ q+ (px j r s) = add_step (compare i j) i p p+ q+ j r s (λ _. add_px i p p+ q+ s)

abbrev pub add_p : Poly → Poly → Poly
add_p (con c) r = add_con c r
add_p (px i p q) r = add_px i p (λ t. add_p p t) (λ t. add_p q t) r

abbrev pub scale : ℤ → Poly → Poly
scale c (con d) = con (c *ℤ d)
scale c (px j r s) = node j (scale c r) (scale c s)

-- xᵢ · px j r s, given the order of j and i, and xᵢ · r and xᵢ · s
abbrev pub mul_step : Ordering → ℕ → ℕ → Poly → Poly → (Unit {0} → Poly) → (Unit {0} → Poly) → Poly
mul_step Ordering.lt i j r s ir is = px j (ir tt) (is tt)
mul_step Ordering.eq i j r s ir is = px i (px j r s) (con (pos 0))
mul_step Ordering.gt i j r s ir is = px i (px j r s) (con (pos 0))

abbrev pub mul_var : ℕ → Poly → Poly
mul_var i (con c) = node i (con c) (con (pos 0))
mul_var i (px j r s) = mul_step (compare j i) i j r s (λ _. mul_var i r) (λ _. mul_var i s)

abbrev pub mul_p : Poly → Poly → Poly
mul_p (con c) r = scale c r
mul_p (px i p q) r = add_p (mul_var i (mul_p p r)) (mul_p q r)

abbrev pub norm : Expr → Poly
norm (var i) = px i (con (pos 1)) (con (pos 0))
norm (plus e f) = add_p (norm e) (norm f)
norm (times e f) = mul_p (norm e) (norm f)
norm (minus e) = scale (negsuc 0) (norm e)
norm none = con (pos 0)
norm one = con (pos 1)
