-- Divisors [u; v; n] on y² = f over a ring P of polynomials: the Mumford representation (u, v) of the finite part, and n for
-- the point at infinity where y/x³ is 1. The size of a polynomial is its degree and one more, and 0 for 0.
use Rattle.std.specs.Prelude.{ℕ, pred, ◌<◌, ◌≤◌, ℤ, pos, ◌+ℤ◌, ◌-ℤ◌, ◌≤ℤ◌}
use Rattle.algebra.specs.Ring.{Ops}
use Rattle.algebra.specs.Polynomials.{Polynomials, Monic}
use Rattle.mumford.specs.Functions.{Function, Represents, Member}

pub record Divisor (P : Type 0) : Type 0 where
  pub u : P
  pub v : P
  pub n : ℤ

-- the functions a + b·y with a + b·v divisible by u
abbrev pub Members : {P : Type 0} → Ops P → Divisor P → Function P → Type 0
Members p D = Member p D.u D.v

abbrev pub neutral : {P : Type 0} → Ops P → Divisor P
neutral p = record { u = p.unit; v = p.nil; n = pos 1 }

-- the degree, of a polynomial that is not 0
abbrev pub degree : {P : Type 0} → (P → ℕ) → P → ℕ
degree size a = pred (size a)

-- [u; −v; 2 − deg u − n]
abbrev pub negative : {P : Type 0} → Ops P → (P → ℕ) → Divisor P → Divisor P
negative p size D = record { u = D.u; v = p.neg D.v; n = pos 2 -ℤ pos (degree size D.u) -ℤ D.n }

-- deg u ≤ 2 and 0 ≤ n ≤ 2 − deg u
pub record InRange {P : Type 0} (size : P → ℕ) (D : Divisor P) : Type 0 where
  pub u_most : size D.u ≤ 3
  pub n_least : pos 0 ≤ℤ D.n
  pub n_most : (D.n +ℤ pos (degree size D.u)) ≤ℤ pos 2

-- u is monic of degree at most 2, v of a smaller degree, n is from 0 to 2 − deg u, and u divides f − v².
pub record Valid {K : Type 0} {o : Ops K} {P : Type 0} {p : Ops P} (H : Polynomials o p) (f : P) (D : Divisor P) : Type 0 where
  pub monic : Monic H D.u
  pub smaller : H.size D.v < H.size D.u
  pub range : InRange H.size D
  pub represents : Represents p f D.u D.v
