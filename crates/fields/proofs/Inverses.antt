-- Inverses modulo m: at most one, found by the search of the definition, and passed on from m % a to a.
use Rattle.std.proofs.Common.{◌≡◌, ℕ, zero, suc, ◌+◌, ◌-◌, ◌*◌, ◌/◌, ◌%◌, ◌<◌, ◌≤◌, Bool, true, false, eqb, ◌≢◌, [], ◌∷◌, Some, None, Option, sym, refl, ap, ◌∙◌, subst, mod-lt, mod-eq_of_lt, zero-mul, arith}
use Prim.Native.Nat.{◌∣◌}
use native.Mathlib.Nat.{zero-mod, mod-add-div, dvd_of_mod-eq-zero, dvd-mod_iff, dvd-mul_right, le_of_dvd}
use native.Mathlib.Decide.{dec_lt}
use Rattle.std.proofs.lemmas.Bool.{eq-eqb, ne_eqb, eqb-true, eqb-false}
use Rattle.algebra.specs.Ring.{Ops, Laws}
use Rattle.algebra.proofs.Reify.{by_facts, ◌⋆◌, terms}
use Rattle.fields.specs.Residues.{Inverse, first_inverse, inverse_modulo, first_without}
use Rattle.fields.proofs.ResidueRing.{residue, ring, ring_laws, residue_path, residue-same, residue-add, residue-mul, residue-modulus, residue-one, residue-neg, residue_mod}

module _ {K : Type 0} {o : Ops K} (L : Laws o) where
  open o use {add as ◌+ᴷ◌, mul as ◌·◌, neg, nil, unit}

  infixl 75 ◌+ᴷ◌
  infixl 80 ◌·◌
  same-inverse : (a b c : K) → a · b ≡ unit → a · c ≡ unit → b ≡ c
  same-inverse a b c p q =
      by_facts L (a ∷ b ∷ c ∷ []) (c ⋆ p ∷ neg b ⋆ q ∷ []) (search terms depth 60 fits 100000) refl

  -- with r + a·q = 0 and r·b = 1, a·(−q·b) = 1
  passed : (a q r b : K) → r +ᴷ a · q ≡ nil → r · b ≡ unit → a · neg (q · b) ≡ unit
  passed a q r b p h =
      by_facts L (a ∷ q ∷ r ∷ b ∷ []) (neg b ⋆ p ∷ unit ⋆ h ∷ []) (search terms depth 60 fits 100000) refl

module _ (m : ℕ) (many : 1 < m) where
  some : 0 < m
  some = omega arith

  ring-inverse : (a b : ℕ) → (a * b) % m ≡ 1 → (ring m some).mul (residue m some a) (residue m some b) ≡ (ring m some).unit
  ring-inverse a b e =
      sym (residue-mul m some a b)
      ∙ residue_path m some (a * b) 1 (e ∙ sym (mod-eq_of_lt many))
      ∙ residue-one m some

  pub inverse_unique : (a b c : ℕ) → Inverse m a b → Inverse m a c → b ≡ c
  inverse_unique a b c hb hc =
      let e = same-inverse (ring_laws m some) (residue m some a) (residue m some b) (residue m some c) (ring-inverse a b hb.1) (ring-inverse a c hc.1) in
      sym (mod-eq_of_lt hb.0) ∙ residue-same m some b c e ∙ mod-eq_of_lt hc.0

  -- The search meets an inverse where there is one ..
  search_finds : (a n k b : ℕ) → k ≤ b → b < k + n → (a * b) % m ≡ 1
      → (first_inverse m a n k < k + n) × ((a * first_inverse m a n k) % m ≡ 1)
  search_finds a zero k b l u e = absurd (omega arith)
  search_finds a (suc n) k b l u e =
      go (eqb ((a * k) % m) 1) refl (λ h. search_finds a n (suc k) b h (omega arith) e)
    where
      rest : ℕ
      rest = first_inverse m a n (suc k)

      go : (t : Bool) → eqb ((a * k) % m) 1 ≡ t → (k < b → (rest < suc k + n) × ((a * rest) % m ≡ 1))
          → ((elim t [ true ↦ k | false ↦ rest ]) < k + suc n) × ((a * (elim t [ true ↦ k | false ↦ rest ])) % m ≡ 1)
      go true h ih = (omega arith, eqb-true ((a * k) % m) 1 h)
      go false h ih =
          let other : k ≢ b = λ s. eqb-false ((a * k) % m) 1 h (ap (λ t. (a * t) % m) s ∙ e) in
          let (l', e') = ih (omega arith) in
          (omega arith, e')

  pub inverse_is : (a b : ℕ) → Inverse m a b → inverse_modulo m a ≡ b
  unfolding inverse_modulo
  inverse_is a b h =
      let (l, e) = search_finds a m 0 b (omega arith) (omega (arith, h.0)) h.1 in
      inverse_unique a (first_inverse m a m 0) b (omega arith, e) h

  -- .. and answers 0 where there is none.
  search_fails : (a n k : ℕ) → ((b : ℕ) → (a * b) % m ≢ 1) → first_inverse m a n k ≡ 0
  search_fails a zero k none = refl
  search_fails a (suc n) k none =
      ap (λ t. elim t [ true ↦ k | false ↦ first_inverse m a n (suc k) ]) (ne_eqb ((a * k) % m) 1 (none k)) ∙ search_fails a n (suc k) none

  pub inverse-none : (a : ℕ) → ((b : ℕ) → (a * b) % m ≢ 1) → inverse_modulo m a ≡ 0
  unfolding inverse_modulo
  inverse-none a none = search_fails a m 0 none

  -- whatever it answers is a code
  search_below : (a n k : ℕ) → k + n ≤ m → first_inverse m a n k < m
  search_below a zero k h = some
  search_below a (suc n) k h = go (eqb ((a * k) % m) 1) (search_below a n (suc k) (omega arith))
    where
      go : (t : Bool) → first_inverse m a n (suc k) < m → (elim t [ true ↦ k | false ↦ first_inverse m a n (suc k) ]) < m
      go true l = omega arith
      go false l = l

  pub inverse-below : (a : ℕ) → inverse_modulo m a < m
  unfolding inverse_modulo
  inverse-below a = search_below a m 0 (omega arith)

  pub inverse_of_one : Inverse m 1 1
  inverse_of_one = (many, mod-eq_of_lt many)

  pub zero_without : (b : ℕ) → (0 * b) % m ≢ 1
  zero_without b e = omega (arith, ap (λ t. t % m) (zero-mul b) ∙ zero-mod m)

  -- A divisor of m above 1 has no inverse.
  pub divisor_without : (a : ℕ) → 1 < a → m % a ≡ 0 → (b : ℕ) → (a * b) % m ≢ 1
  divisor_without a h e b i =
      let d : a ∣ (a * b) % m = (dvd-mod_iff a {m = a * b} {n = m} (dvd_of_mod-eq-zero a e)).1 (dvd-mul_right a b) in
      omega (arith, le_of_dvd (omega arith) (subst (λ t. a ∣ t) i d))

  -- With m = q·a + r, the inverse of a is −q times that of r.
  pub next-inverse : (a b : ℕ) → (m % a * b) % m ≡ 1 → Inverse m a ((m - (m / a * b) % m) % m)
  next-inverse a b e =
      let q = m / a in
      let r = m % a in
      let whole : (ring m some).add (residue m some r) ((ring m some).mul (residue m some a) (residue m some q)) ≡ (ring m some).nil =
      ap ((ring m some).add (residue m some r)) (sym (residue-mul m some a q))
      ∙ sym (residue-add m some r (a * q))
      ∙ ap (residue m some) (mod-add-div m a)
      ∙ residue-modulus m some
      in
      let opposite : residue m some ((m - (q * b) % m) % m) ≡ (ring m some).neg ((ring m some).mul (residue m some q) (residue m some b)) =
      residue_mod m some (m - (q * b) % m)
      ∙ residue-neg m some (q * b)
      ∙ ap (ring m some).neg (residue-mul m some q b)
      in
      let unit : (ring m some).mul (residue m some a) (residue m some ((m - (q * b) % m) % m)) ≡ (ring m some).unit =
      ap ((ring m some).mul (residue m some a)) opposite
      ∙ passed (ring_laws m some) (residue m some a) (residue m some q) (residue m some r) (residue m some b) whole (ring-inverse r b e)
      in
      (mod-lt (m - (q * b) % m) some, residue-same m some (a * ((m - (q * b) % m) % m)) 1 (residue-mul m some a ((m - (q * b) % m) % m) ∙ unit ∙ sym (residue-one m some)) ∙ mod-eq_of_lt many)

-- The smallest code without an inverse.
module _ (m : ℕ) where
  abbrev Good : ℕ → Type 0
  Good k = (k * inverse_modulo m k) % m ≡ 1

  -- the search goes on behind k, or ends there
  abbrev onward : ℕ → ℕ → Bool → Option ℕ
  onward n k t = elim t [ true ↦ first_without m n (suc k) | false ↦ Some k ]

  pub none_without : (n k : ℕ) → ((i : ℕ) → k ≤ i → i < k + n → Good i) → first_without m n k ≡ None
  none_without zero k all = refl
  none_without (suc n) k all =
      ap (onward n k) (eq-eqb ((k * inverse_modulo m k) % m) 1 (all k (omega arith) (omega arith)))
      ∙ none_without n (suc k) (λ i l u. all i (omega arith) (omega arith))

  pub least_without : (n k a : ℕ) → k ≤ a → a < k + n → ((i : ℕ) → k ≤ i → i < a → Good i) → ¬ Good a → first_without m n k ≡ Some a
  least_without zero k a l u all bad = absurd (omega arith)
  least_without (suc n) k a l u all bad =
      go (dec_lt k a) (λ h. least_without n (suc k) a h (omega arith) (λ i l' u'. all i (omega arith) u') bad)
    where
      go : Dec (k < a) → (k < a → first_without m n (suc k) ≡ Some a) → first_without m (suc n) k ≡ Some a
      go (yes h) ih =
          ap (onward n k) (eq-eqb ((k * inverse_modulo m k) % m) 1 (all k (omega arith) h))
          ∙ ih h
      go (no h) ih =
          let same : k ≡ a = omega arith in
          ap (onward n k) (ne_eqb ((k * inverse_modulo m k) % m) 1 (λ g. bad (subst Good same g)))
          ∙ ap Some same

  -- where none is answered, every code has an inverse
  pub all_good : (n k : ℕ) → first_without m n k ≡ None → (i : ℕ) → k ≤ i → i < k + n → Good i
  all_good zero k e i l u = absurd (omega arith)
  all_good (suc n) k e i l u =
      go (eqb ((k * inverse_modulo m k) % m) 1) refl (dec_lt k i) (λ r h. all_good n (suc k) r i h (omega arith))
    where
      found : (t : Bool) → eqb ((k * inverse_modulo m k) % m) 1 ≡ t → onward n k t ≡ None
      found t h = ap (onward n k) (sym h) ∙ e

      go : (t : Bool) → eqb ((k * inverse_modulo m k) % m) 1 ≡ t → Dec (k < i) → (first_without m n (suc k) ≡ None → k < i → Good i) → Good i
      go true h (yes lt) ih = ih (found true h) lt
      go true h (no ge) ih = subst Good (omega arith) (eqb-true ((k * inverse_modulo m k) % m) 1 h)
      go false h d ih =
          let clash : Some k ≡ None = found false h in
          let z : ◌≡◌ {A = ℕ} 0 1 = cc in
          absurd (omega arith)

  -- the code that is answered has none, and the smaller ones have theirs
  pub record Least (n k a : ℕ) : Type 0 where
    pub from : k ≤ a
    pub within : a < k + n
    pub bad : ¬ Good a
    pub before : (i : ℕ) → k ≤ i → i < a → Good i

  pub answered_least : (n k a : ℕ) → first_without m n k ≡ Some a → Least n k a
  answered_least zero k a e = let z : ◌≡◌ {A = ℕ} 0 1 = cc in absurd (omega arith)
  answered_least (suc n) k a e = go (eqb ((k * inverse_modulo m k) % m) 1) refl (answered_least n (suc k) a)
    where
      found : (t : Bool) → eqb ((k * inverse_modulo m k) % m) 1 ≡ t → onward n k t ≡ Some a
      found t h = ap (onward n k) (sym h) ∙ e

      go : (t : Bool) → eqb ((k * inverse_modulo m k) % m) 1 ≡ t → (first_without m n (suc k) ≡ Some a → Least n (suc k) a) → Least (suc n) k a
      go true h ih =
          let rest = ih (found true h) in
          record {
            from = omega arith;
            within = omega arith;
            bad = rest.bad;
            before = λ i l u. elim (dec_lt k i) [
              | yes lt ↦ rest.before i lt u
              | no ge ↦ subst Good (omega arith) (eqb-true ((k * inverse_modulo m k) % m) 1 h)
            ];
          }
      go false h ih =
          let stop : Some k ≡ Some a = found false h in
          let same : k ≡ a = cc in
          record {
            from = omega arith;
            within = omega arith;
            bad = λ g. eqb-false ((k * inverse_modulo m k) % m) 1 h (subst Good (sym same) g);
            before = λ i l u. absurd (omega arith);
          }
