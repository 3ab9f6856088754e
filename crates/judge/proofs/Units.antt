-- The units of a lawful field are counted.
use Rattle.std.proofs.Common.{◌≡◌, ℕ, zero, suc, ◌+◌, ◌-◌, ◌<◌, ◌≤◌, Bool, eqb, length, refl, ap, arith}
use Rattle.std.proofs.lemmas.Bool.{eq-eqb}
use Rattle.std.specs.List.{filter, range_with_len}
use Rattle.fields.specs.Arithmetic.{Arithmetic}
use Rattle.fields.specs.Lawful.{Lawful}

-- a comes to 1 with its inverse
abbrev pub is_unit : Arithmetic → ℕ → Bool
is_unit K a = eqb (K.times a (K.inverse a)) 1

module _ (K : Arithmetic) (L : Lawful K) where
  units_from : (a n : ℕ) → 0 < a → a + n ≤ K.size → length (filter (is_unit K) (range_with_len a n)) ≡ n
  units_from a zero some h = refl
  units_from a (suc n) some h =
      let unit = eq-eqb (K.times a (K.inverse a)) 1 (L.inverse_cancels a (omega arith) (λ e. omega arith)) in
      rw unit (ap suc (units_from (a + 1) n (omega arith) (omega arith)))

  -- every code but 0 is a unit
  pub units_all : (q : ℕ) → q ≡ K.size → length (filter (is_unit K) (range_with_len 1 (q - 1))) + 1 ≡ K.size
  units_all q e = omega (arith, units_from 1 (q - 1) (omega arith) (omega (arith, L.least_size)), L.least_size)
