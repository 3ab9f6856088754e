-- The steps of filling a table with the inverses modulo m: entry by entry, from 2 on.
use Rattle.std.proofs.Common.{◌≡◌, ℕ, ◌+◌, ◌-◌, ◌*◌, ◌/◌, ◌%◌, ◌<◌, ◌≢◌, List, length, get_or, set, Some, None, sym, ap, ◌∙◌, subst, mod-lt, arith, length-set, get_or-set_same, below_more}
use Rattle.std.proofs.lemmas.List.Edits.{fill_by_more}
use Rattle.std.proofs.lemmas.List.FromFn.{fill_by_all}
use Rattle.fields.specs.Residues.{Inverse, inverse_modulo, inverses, without_inverse}
use Rattle.fields.proofs.Inverses.{inverse_is, inverse-none, inverse_of_one, zero_without, divisor_without, next-inverse, none_without, least_without}
use Rattle.fields.proofs.LawfulResidues.{Taken}

-- The inverses of the codes below a stand in the table, and all of them from 1 on are inverses.
pub record Inverted (m : ℕ) (table : List ℕ) (a : ℕ) : Type 0 where
  pub entries : (k : ℕ) → k < a → get_or table k 0 ≡ inverse_modulo m k
  pub good : (k : ℕ) → 0 < k → k < a → (k * inverse_modulo m k) % m ≡ 1

module _ (m : ℕ) (bounds : Taken m) where
  many : 1 < m
  many = omega (arith, bounds.least)

  -- what is known of the codes below a is known of those below a + 1, where b is an inverse of a
  pub inverted_more : (table : List ℕ) (a b : ℕ) → a < length table → Inverse m a b → Inverted m table a → Inverted m (set table a b) (a + 1)
  inverted_more table a b l h before =
      let is : inverse_modulo m a ≡ b = inverse_is m many a b h in
      record {
        entries = subst (λ v. (k : ℕ) → k < a + 1 → get_or (set table a v) k 0 ≡ inverse_modulo m k) is (fill_by_more (inverse_modulo m) table a 0 l before.entries);
        good = λ k some lt. below_more (λ k. 0 < k → (k * inverse_modulo m k) % m ≡ 1) a (λ k l s. before.good k s l) (λ s. ap (λ v. (a * v) % m) is ∙ h.1) k lt some;
      }

  inverted_one : (table : List ℕ) → length table ≡ m → Inverted m (set table 0 0) 1
  inverted_one table e =
      let some : 0 < length table = omega (arith, bounds.least) in
      record {
        entries = below_more (λ k. get_or (set table 0 0) k 0 ≡ inverse_modulo m k) 0 (λ k l. absurd (omega arith))
            (get_or-set_same table 0 0 0 some ∙ sym (inverse-none m many 0 (zero_without m many)));
        good = λ k some l. absurd (omega arith);
      }

  pub inverted_two : (table : List ℕ) → length table ≡ m → Inverted m (set (set table 0 0) 1 1) 2
  inverted_two table e =
      let long : 1 < length (set table 0 0) = simp length-set (omega (arith, bounds.least)) in
      inverted_more (set table 0 0) 1 1 long (inverse_of_one m many) (inverted_one table e)

  -- With m = q·a + r and r not 0, entry r passes the inverse on to a ..
  pub inverted_next : (table : List ℕ) (a : ℕ) → 1 < a → a < m → length table ≡ m → m % a ≢ 0 → Inverted m table a
      → Inverted m (set table a ((m - (m / a * get_or table (m % a) 0) % m) % m)) (a + 1)
  inverted_next table a h l e rest before =
      let less : m % a < a = mod-lt m (omega arith) in
      let good : (m % a * get_or table (m % a) 0) % m ≡ 1 =
      ap (λ b. (m % a * b) % m) (before.entries (m % a) less) ∙ before.good (m % a) (omega arith) less
      in
      inverted_more table a ((m - (m / a * get_or table (m % a) 0) % m) % m) (omega arith) (next-inverse m many a (get_or table (m % a) 0) good) before

  -- .. and where r is 0, a has no inverse, as the first.
  pub inverted_stuck : (table : List ℕ) (a : ℕ) → 1 < a → a < m → m % a ≡ 0 → Inverted m table a → without_inverse m ≡ Some a
  unfolding without_inverse
  inverted_stuck table a h l rest before =
      least_without m (m - 1) 1 a (omega arith) (omega arith) (λ i some lt. before.good i some lt)
      (divisor_without m many a h rest (inverse_modulo m a))

  pub inverted_all : (table : List ℕ) → Inverted m table m → without_inverse m ≡ None
  unfolding without_inverse
  inverted_all table before = none_without m (m - 1) 1 (λ i some lt. before.good i some (omega arith))

  pub inverted_table : (table : List ℕ) → length table ≡ m → Inverted m table m → table ≡ inverses m
  unfolding inverses
  inverted_table table e before = fill_by_all (inverse_modulo m) table m 0 e before.entries
