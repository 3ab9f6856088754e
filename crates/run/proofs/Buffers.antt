-- Bytes written into a buffer, one row after another.
use Rattle.std.proofs.Common.{◌≡◌, ℕ, ◌+◌, ◌≤◌, List, [], ◌++◌, length, take, drop, sym, ap, ◌∙◌, ap₂, append_assoc, add-zero, zero-add, add_assoc, arith, length-append, length-drop, take-append-drop}
use Rattle.std.proofs.lemmas.List.{take_at, drop_at, drop-drop, length-take-le}
use Rattle.run.specs.Buffers.{overwritten}

pub overwritten-none : (xs : List ℕ) (n : ℕ) → xs ≡ overwritten xs n []
overwritten-none xs n = rw add-zero (sym (take-append-drop n xs))

pub overwritten_first : (xs bytes : List ℕ) → overwritten xs 0 bytes ≡ bytes ++ drop (length bytes) xs
overwritten_first xs bytes = ap (λ k. bytes ++ drop k xs) (zero-add (length bytes))

-- A buffer stays as long as it was.
pub length-overwritten : (xs bytes : List ℕ) (n : ℕ) → n + length bytes ≤ length xs → length (overwritten xs n bytes) ≡ length xs
length-overwritten xs bytes n fits =
    let h : n ≤ length xs = omega arith in
    simp (length-append, length-drop) (omega (arith, length-take-le n xs h))

module _ (xs a b : List ℕ) (n : ℕ) (fits : n + length a ≤ length xs) where
  split : overwritten xs n a ≡ (take n xs ++ a) ++ drop (n + length a) xs
  split = sym (append_assoc (take n xs) a (drop (n + length a) xs))

  front_long : length (take n xs ++ a) ≡ n + length a
  front_long =
      let h : n ≤ length xs = omega arith in
      simp length-append (ap (λ k. k + length a) (length-take-le n xs h))

  -- Bytes written behind others stand there together with them.
  pub overwritten-more : overwritten (overwritten xs n a) (n + length a) b ≡ overwritten xs n (a ++ b)
  overwritten-more =
      let rest : List ℕ = drop (n + length a) xs in
      let before : take (n + length a) (overwritten xs n a) ≡ take n xs ++ a =
      ap (take (n + length a)) split ∙ take_at (take n xs ++ a) rest (n + length a) front_long in
      let behind : drop (n + length a) (overwritten xs n a) ≡ rest =
      ap (drop (n + length a)) split ∙ drop_at (take n xs ++ a) rest (n + length a) front_long in
      let beyond : drop (n + length a + length b) (overwritten xs n a) ≡ drop (n + length a + length b) xs =
      sym (drop-drop (length b) (n + length a) (overwritten xs n a)) ∙ ap (drop (length b)) behind
      ∙ drop-drop (length b) (n + length a) xs in
      ap₂ (λ f r. f ++ (b ++ r)) before beyond
      ∙ simp (append_assoc, length-append, add_assoc)

-- The first n bytes of a buffer, and those written behind them.
pub take-overwritten : (xs bytes : List ℕ) (n : ℕ) → n + length bytes ≤ length xs
    → take (n + length bytes) (overwritten xs n bytes) ≡ take n xs ++ bytes
take-overwritten xs bytes n fits =
    ap (take (n + length bytes)) (split xs bytes [] n fits)
    ∙ take_at (take n xs ++ bytes) (drop (n + length bytes) xs) (n + length bytes) (front_long xs bytes [] n fits)

pub drop-overwritten : (xs bytes : List ℕ) (n : ℕ) → n + length bytes ≤ length xs
    → drop (n + length bytes) (overwritten xs n bytes) ≡ drop (n + length bytes) xs
drop-overwritten xs bytes n fits =
    ap (drop (n + length bytes)) (split xs bytes [] n fits)
    ∙ drop_at (take n xs ++ bytes) (drop (n + length bytes) xs) (n + length bytes) (front_long xs bytes [] n fits)
