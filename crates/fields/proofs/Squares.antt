-- The search for a square root.
use Rattle.std.proofs.Common.{◌≡◌, ℕ, zero, suc, ◌<◌, ◌≤◌, Bool, true, false, ◌||◌, eqb, length, take, sym, refl, ap, ap₂, ◌∙◌, inl, inr, add-one, zero-add, arith}
use Rattle.std.specs.List.{list_any, range_with_len}
use Rattle.std.proofs.Math.Bool.{or_comm}
use Rattle.std.proofs.lemmas.List.{take_all}
use Rattle.std.proofs.lemmas.List.Folds.{list_any_more}
use Rattle.std.proofs.lemmas.List.FromFn.{length-range_with_len, get_or-range_with_len}
use native.Mathlib.Decide.{dec_lt}
use Rattle.std.proofs.lemmas.Bool.{eq-eqb, eqb-true, or_left, or_right, or_cases}
use Rattle.fields.specs.Arithmetic.{Arithmetic}
use Rattle.fields.specs.Pairs.{square_below}

module _ (K : Arithmetic) (r : ℕ) where
  -- a root below n makes the test true ..
  pub root_found : (n x : ℕ) → x < n → K.times x x ≡ r → square_below K r n ≡ true
  root_found zero x h e = absurd (omega arith)
  root_found (suc n) x h e =
      elim (dec_lt x n) [
        | yes l ↦ or_right (eqb (K.times n n) r) (square_below K r n) (root_found n x l e)
        | no l ↦
            let same : x ≡ n = omega arith in
            or_left (eqb (K.times n n) r) (square_below K r n) (eq-eqb (K.times n n) r (ap (λ y. K.times y y) (sym same) ∙ e))
      ]

  -- .. and a true test has a root.
  pub found_root : (n : ℕ) → square_below K r n ≡ true → (x : ℕ) × (x < n) × (K.times x x ≡ r)
  found_root zero e = let z : ◌≡◌ {A = ℕ} 0 1 = cc in absurd (omega arith)
  found_root (suc n) e =
      elim (or_cases (eqb (K.times n n) r) (square_below K r n) e) [
        | inl h ↦ (n, omega arith, eqb-true (K.times n n) r h)
        | inr h ↦ let (x, l, is) = found_root n h in (x, omega arith, is)
      ]

  pub no_root : (n : ℕ) → square_below K r n ≡ false → (x : ℕ) → x < n → K.times x x ≡ r → ⊥
  no_root n e x h is =
      let t : square_below K r n ≡ true = root_found n x h is in
      let z : ◌≡◌ {A = Bool} true false = sym t ∙ e in
      let w : ◌≡◌ {A = ℕ} 0 1 = cc in
      omega arith

  -- The test is that of the codes one by one, from 0 on.
  squares_before : (n i : ℕ) → i ≤ n
      → list_any (λ x. eqb (K.times x x) r) (take i (range_with_len 0 n)) ≡ square_below K r i
  squares_before n zero h = refl
  squares_before n (suc i) h =
      let long : i < length (range_with_len 0 n) = simp length-range_with_len h in
      ap (λ k. list_any (λ x. eqb (K.times x x) r) (take k (range_with_len 0 n))) (sym (add-one i))
      ∙ list_any_more (λ x. eqb (K.times x x) r) (range_with_len 0 n) i 0 long
      ∙ ap₂ (λ t x. t || eqb (K.times x x) r) (squares_before n i (omega arith)) (get_or-range_with_len 0 n i 0 h ∙ zero-add i)
      ∙ or_comm (square_below K r i) (eqb (K.times i i) r)

  pub list_any-squares : (n : ℕ) → list_any (λ x. eqb (K.times x x) r) (range_with_len 0 n) ≡ square_below K r n
  list_any-squares n =
      ap (list_any (λ x. eqb (K.times x x) r)) (sym (take_all n (range_with_len 0 n) (simp length-range_with_len (omega arith))))
      ∙ squares_before n n (omega arith)
