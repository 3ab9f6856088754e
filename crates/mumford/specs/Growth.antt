-- How functions a + b·y grow at the point at infinity where y/x³ is 1: minus the order there. f is of degree 6, and V is the
-- polynomial part of its square root.
use Rattle.std.specs.Prelude.{ℕ, zero, suc, pred, ◌+◌, ℤ, pos, ◌-ℤ◌}
use Rattle.std.proofs.Math.Decide.{dec_le}
use Rattle.algebra.specs.Ring.{Ops}
use Rattle.mumford.specs.Functions.{Function, norm}
use Rattle.mumford.specs.Divisors.{degree}

-- From the sizes of b and of a + b·V, and the degrees of a and of the norm: deg a, where b is 0; else deg (a + b·V), where
-- that is at least deg b; else the degree of the norm, less deg b, less 3.
abbrev pub growth_by : (b s a n : ℕ) → ℤ
growth_by zero s a n = pos a
growth_by (suc d) s a n = elim (dec_le (suc d) s) [ yes l ↦ pos (pred s) | no l ↦ pos n -ℤ pos (d + 3) ]

-- The growth of a function that is not 0.
unfoldable pub growth : {P : Type 0} → Ops P → (P → ℕ) → P → P → Function P → ℤ
growth p size f V g =
    growth_by (size g.1) (size (p.add g.0 (p.mul g.1 V))) (degree size g.0) (degree size (norm p f g))
