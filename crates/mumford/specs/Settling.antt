-- What it is for a divisor to settle an account, a list of divisors: nonzero functions g and h exist such that the sums of
-- products g·c·a1·…·ak, c any function and ai a member of Di, are exactly the functions h·m, m a member of the divisor; and
-- (n1 − 1) + … + (nk − 1) + growth of h = n − 1 + growth of g.
use Rattle.std.specs.Prelude.{◌≡◌, ℕ, ◌≢◌, List, [], ◌∷◌, ℤ, pos, ◌+ℤ◌, ◌-ℤ◌}
use Rattle.algebra.specs.Ring.{Ops}
use Rattle.mumford.specs.Functions.{Function, functions}
use Rattle.mumford.specs.Divisors.{Divisor, Members}
use Rattle.mumford.specs.Accounts.{SameSets}
use Rattle.mumford.specs.Growth.{growth}

-- (n1 − 1) + … + (nk − 1)
abbrev pub excess : {P : Type 0} → List (Divisor P) → ℤ
excess [] = pos 0
excess (E ∷ A) = E.n -ℤ pos 1 +ℤ excess A

module _ {P : Type 0} (p : Ops P) (size : P → ℕ) (f V : P) where
  pub record Settles (D : Divisor P) (account : List (Divisor P)) : Type 0 where
    pub g : Function P
    pub h : Function P
    pub g_some : g ≢ (functions p f).nil
    pub h_some : h ≢ (functions p f).nil
    pub sets : SameSets (functions p f) (Members p) g h D account
    pub growths : excess account +ℤ growth p size f V h ≡ D.n -ℤ pos 1 +ℤ growth p size f V g
