-- The polynomial method on ten codes each: the composites and cofactors that these stand for, and how long they are.
use Rattle.std.specs.Prelude.{ℕ, suc, ◌≤◌, length, ℤ, pos, negsuc}
use Rattle.fields.specs.Arithmetic.{Arithmetic}
use Rattle.polynomials.specs.Ten.{value}
use Rattle.methods.specs.declared.composition.Cofactors.{Cofactors}
use Rattle.methods.specs.declared.composition.Composition.{Composition}
use Rattle.methods.specs.Sums.{Composite, Bezout}

abbrev pub bezout_of : Arithmetic → Cofactors → Bezout
bezout_of K z = record { d = value K z.d.codes; e1 = value K z.e1.codes; e2 = value K z.e2.codes; e3 = value K z.e3.codes }

-- n + 1, for an n from −1
abbrev pub one_more : ℤ → ℕ
one_more (pos n) = suc n
one_more (negsuc n) = 0

abbrev pub composite_of : Arithmetic → Composition → Composite
composite_of K c = record { u = value K c.u.codes; v = value K c.v.codes; n+1 = one_more c.n }

-- so short that no product of the composition has more than ten codes
pub record Short (z : Bezout) : Type 0 where
  pub d : length z.d ≤ 3
  pub e1 : length z.e1 ≤ 4
  pub e2 : length z.e2 ≤ 4
  pub e3 : length z.e3 ≤ 3
