-- Where a table could be filled, the residues are a lawful field.
use Rattle.std.proofs.Common.{◌≡◌, ℕ, zero, suc, ◌+◌, ◌-◌, ◌*◌, ◌%◌, ◌<◌, ◌≤◌, true, ◌&&◌, eqb, leb, ◌≢◌, List, get_or, Some, None, Option, Result, sym, refl, ap, ◌∙◌, subst, mod-eq_of_lt, arith}
use Rattle.std.proofs.lemmas.Bool.{and_parts, leb-true, eqb-true}
use Rattle.std.proofs.lemmas.List.FromFn.{get_or-map-range_with_len}
use Rattle.fields.specs.Lawful.{Lawful}
use Rattle.fields.specs.Residues.{Inverse, inverse_modulo, inverses, residues, residues_by, taken, without_inverse, filled_or, Filled, InversesTold}
use Rattle.fields.specs.declared.refusal.FieldRefusal.{FieldRefusal}
use Rattle.fields.proofs.Codes.{Code, code_path}
use Rattle.fields.proofs.ResidueRing.{ring, ring_laws}
use Rattle.fields.proofs.Inverses.{answered_least, inverse_is, inverse-below, inverse-none, zero_without, all_good}
use Rattle.fields.proofs.Represented.{Represented, represented_lawful}
use Rattle.fields.proofs.Among.{only_code, only_outside, among-codes, among_outside_left, among_outside_right}

-- The bounds of a modulus that is taken.
pub record Taken (m : ℕ) : Type 0 where
  pub odd : m % 2 ≡ 1
  pub least : 3 ≤ m
  pub most : m ≤ 8191

pub taken_bounds : (m : ℕ) → taken m ≡ true → Taken m
taken_bounds m t =
    let (rest, most) = and_parts (eqb (m % 2) 1 && leb 3 m) (leb m 8191) t in
    let (odd, least) = and_parts (eqb (m % 2) 1) (leb 3 m) rest in
    record { odd = eqb-true (m % 2) 1 odd; least = leb-true 3 m least; most = leb-true m 8191 most }

pub entry_is : (m a : ℕ) → a < m → get_or (inverses m) a 0 ≡ inverse_modulo m a
unfolding inverses
entry_is m a h = get_or-map-range_with_len (inverse_modulo m) 0 m a a 0 h (omega arith)

module _ (m : ℕ) (bounds : Taken m) (all : without_inverse m ≡ None) where
  some : 0 < m
  some = omega (arith, bounds.least)

  many : 1 < m
  many = omega (arith, bounds.least)

  -- every code but 0 has an inverse
  good : (a : ℕ) → 0 < a → a < m → (a * inverse_modulo m a) % m ≡ 1
  unfolding without_inverse
  good a h l = all_good m (m - 1) 1 all a h (omega arith)

  inverse_entry : (a : ℕ) → a < m → (residues m).inverse a ≡ inverse_modulo m a
  inverse_entry a h = only_code m a (get_or (inverses m) a 0) h ∙ entry_is m a h

  represented : Represented (residues m) (ring m some)
  unfolding ring
  represented =
      record {
        element = λ a h. (a, h);
        code = λ x. x.0;
        code_below = λ x. x.1;
        code_element = λ a h. refl;
        element_code = λ x h. code_path refl;
        code_zero = refl;
        code_one = mod-eq_of_lt many;
        plus_is = λ a b. among-codes m a b ((a + b) % m);
        times_is = λ a b. among-codes m a b ((a * b) % m);
        minus_is = λ a. only_code m a ((m - a) % m);
        plus_outside_left = λ a b. among_outside_left m a b ((a + b) % m);
        plus_outside_right = λ a b. among_outside_right m a b ((a + b) % m);
        times_outside_left = λ a b. among_outside_left m a b ((a * b) % m);
        times_outside_right = λ a b. among_outside_right m a b ((a * b) % m);
        minus_outside = λ a. only_outside m a ((m - a) % m);
        inverse_outside = λ a. only_outside m a (get_or (inverses m) a 0);
        inverse_of_zero = inverse_entry 0 some ∙ inverse-none m many 0 (zero_without m many);
        inverse_code = λ a h. subst (λ c. c < m) (sym (inverse_entry a h)) (inverse-below m many a);
        inverse_is = λ a h k other.
            code_path (ap (λ b. (a * b) % m) (inverse_entry a h) ∙ good a (above_zero a h other) h ∙ sym (mod-eq_of_lt many));
      }
    where
      above_zero : (a : ℕ) (h : a < m) → ◌≢◌ {A = Code m} (a, h) (0, some) → 0 < a
      above_zero zero h other = absurd (other (code_path refl))
      above_zero (suc a) h other = omega arith

  pub residues_lawful : Lawful (residues m)
  residues_lawful =
      represented_lawful (residues m) (ring_laws m some) represented bounds.least (omega (arith, bounds.most))
      (λ e. let z : ◌≡◌ {A = ℕ} 2 0 = sym two ∙ e in omega arith)
    where
      two : (residues m).plus 1 1 ≡ 2
      two = among-codes m 1 1 (2 % m) many many ∙ mod-eq_of_lt (omega (arith, bounds.least))

-- The inverses that filling tells of.
pub all_told : (m : ℕ) → Taken m → without_inverse m ≡ None → (a : ℕ) → 0 < a → a < m → (b : ℕ) × Inverse m a b
all_told m bounds all a h l =
    (inverse_modulo m a, (inverse-below m (omega (arith, bounds.least)) a, good m bounds all a h l))

pub first_told : (m a : ℕ) → Taken m → without_inverse m ≡ Some a
    → (0 < a) × (a < m) × ((b : ℕ) → ¬ Inverse m a b) × ((k : ℕ) → 0 < k → k < a → (b : ℕ) × Inverse m k b)
unfolding without_inverse
first_told m a bounds e =
    let many : 1 < m = omega (arith, bounds.least) in
    let least = answered_least m (m - 1) 1 a e in (
      least.from,
      omega (arith, least.within),
      λ b i. least.bad (ap (λ v. (a * v) % m) (inverse_is m many a b i) ∙ i.1),
      λ k h l. (inverse_modulo m k, (inverse-below m many k, least.before k h l)),
    )

-- What filling answers tells of the inverses.
pub inverses_told : (m : ℕ) (r : Result (Unit {0}) FieldRefusal) → taken m ≡ true → r ≡ filled_or (without_inverse m) → InversesTold m r
inverses_told m r t is = subst (InversesTold m) (sym is) (told (without_inverse m) refl)
  where
    told : (o : Option ℕ) → without_inverse m ≡ o → InversesTold m (filled_or o)
    told None e = all_told m (taken_bounds m t) e
    told (Some a) e = first_told m a (taken_bounds m t) e

-- The field on a filled table is that of the residues.
pub filled_residues : (m : ℕ) (table : List ℕ) → Filled m table → residues_by m table ≡ residues m
filled_residues m table f = ap (residues_by m) f.entries

pub filled_lawful : (m : ℕ) (table : List ℕ) → Filled m table → Lawful (residues_by m table)
filled_lawful m table f =
    subst Lawful (sym (filled_residues m table f)) (residues_lawful m (taken_bounds m f.modulus) f.all_inverses)
