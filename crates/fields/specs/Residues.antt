-- The residues modulo m, and the table of their inverses.
use Rattle.std.specs.Prelude.{◌≡◌, ℕ, zero, suc, ◌+◌, ◌-◌, ◌*◌, ◌%◌, ◌<◌, Bool, true, false, cond, ◌&&◌, List, map, length, replicate, Some, None, Ok, Err, Option, Result, ◌==◌, nat_le, nat_lt, slice_index}
use Rattle.std.specs.List.{range_with_len}
use Rattle.fields.specs.Arithmetic.{Arithmetic}
use Rattle.fields.specs.declared.refusal.FieldRefusal.{FieldRefusal}
use Rattle.fields.specs.declared.refusal.FieldRefusal.TheVariants.{Modulus, TooManyElements, TableLength, NotACode, NoInverse, Square}

-- x where a is a code below m, and otherwise 0; the same of two
abbrev pub only : ℕ → ℕ → ℕ → ℕ
only m a x = cond (nat_lt a m) x 0

abbrev pub among : ℕ → ℕ → ℕ → ℕ → ℕ
among m a b x = cond (nat_lt a m && nat_lt b m) x 0

-- b is an inverse of a modulo m
abbrev pub Inverse : ℕ → ℕ → ℕ → Type 0
Inverse m a b = (b < m) × ((a * b) % m ≡ 1)

-- the first of n numbers from k on whose product with a leaves 1 modulo m, and 0 where none does
abbrev pub first_inverse : ℕ → ℕ → ℕ → ℕ → ℕ
first_inverse m a zero k = 0
first_inverse m a (suc n) k = elim ((a * k) % m == 1) [ true ↦ k | false ↦ first_inverse m a n (suc k) ]

-- the inverse of a modulo m, and 0 where there is none
unfoldable pub inverse_modulo : ℕ → ℕ → ℕ
inverse_modulo m a = first_inverse m a m 0

-- The residues modulo m, where their inverses stand in a table.
abbrev pub residues_by : ℕ → List ℕ → Arithmetic
residues_by m inverses =
    record {
      size = m;
      plus = λ a b. among m a b ((a + b) % m);
      times = λ a b. among m a b ((a * b) % m);
      minus = λ a. only m a ((m - a) % m);
      inverse = λ a. only m a (slice_index inverses a);
    }

-- entry a is the inverse of a, and entry 0 is 0
unfoldable pub inverses : ℕ → List ℕ
inverses m = map (inverse_modulo m) (range_with_len 0 m)

abbrev pub residues : ℕ → Arithmetic
residues m = residues_by m (inverses m)

-- The moduli that are taken are odd, from 3 to 8,191.
abbrev pub taken : ℕ → Bool
taken m = m % 2 == 1 && nat_le 3 m && nat_le m 8191

-- the first of n codes from k on that has no inverse modulo m
abbrev pub first_without : ℕ → ℕ → ℕ → Option ℕ
first_without m zero k = None
first_without m (suc n) k =
    elim ((k * inverse_modulo m k) % m == 1) [ true ↦ first_without m n (suc k) | false ↦ Some k ]

-- the smallest code from 1 to m − 1 that has no inverse modulo m
unfoldable pub without_inverse : ℕ → Option ℕ
without_inverse m = first_without m (m - 1) 1

-- What filling a table of n entries answers, and what it leaves of the table: nothing is altered on 2 and 3, m zeros are
-- left on 6, and else entry a is the inverse of a.
abbrev pub filled_or : Option ℕ → Result (Unit {0}) FieldRefusal
filled_or None = Ok tt
filled_or (Some a) = Err (NoInverse a)

abbrev pub fill_answer : ℕ → ℕ → Result (Unit {0}) FieldRefusal
fill_answer m n = cond (taken m) (cond (n == m) (filled_or (without_inverse m)) (Err TableLength)) (Err Modulus)

abbrev pub inverses_or_zeros : ℕ → Option ℕ → List ℕ
inverses_or_zeros m None = inverses m
inverses_or_zeros m (Some a) = replicate m 0

abbrev pub fill_leaves : ℕ → List ℕ → List ℕ
fill_leaves m table =
    cond (taken m) (cond (length table == m) (inverses_or_zeros m (without_inverse m)) table) table

-- A table so filled: m is taken, every code from 1 to m − 1 has an inverse, and entry a is the inverse of a.
pub record Filled (m : ℕ) (table : List ℕ) : Type 0 where
  pub modulus : taken m ≡ true
  pub all_inverses : without_inverse m ≡ None
  pub entries : table ≡ inverses m

-- In the words of the subject: the call accepts only where every code from 1 to m − 1 has an inverse, and on 6 the code that
-- it names has none, while every smaller one from 1 on has.
abbrev pub InversesTold : ℕ → Result (Unit {0}) FieldRefusal → Type 0
InversesTold m (Ok _) = (a : ℕ) → 0 < a → a < m → (b : ℕ) × Inverse m a b
InversesTold m (Err (NoInverse a)) =
    (0 < a) × (a < m) × ((b : ℕ) → ¬ Inverse m a b) × ((k : ℕ) → 0 < k → k < a → (b : ℕ) × Inverse m k b)
InversesTold m (Err Modulus) = Unit {0}
InversesTold m (Err TooManyElements) = Unit {0}
InversesTold m (Err TableLength) = Unit {0}
InversesTold m (Err NotACode) = Unit {0}
InversesTold m (Err Square) = Unit {0}
