-- What is read from the front of a sheet, by its kind byte and its length.
use Rattle.std.proofs.Common.{◌≡◌, ℕ, zero, suc, ◌+◌, ◌-◌, ◌<◌, ◌≤◌, ◌⊎◌, List, [], ◌∷◌, ◌++◌, map, length, get_or, take, drop, Some, sym, refl, ap, ◌∙◌, ap₂, append_assoc, add-zero, arith, length-append, take-append-drop}
use lib.ListN.{length-map}
use Rattle.std.proofs.lemmas.List.{drop_more, length-take-le, take_rest, take_at, drop_at}
use Rattle.std.proofs.lemmas.List.FromFn.{length-range_with_len}
use Rattle.std.proofs.lemmas.Option.{slice_get_past}
use Rattle.std.proofs.lemmas.Bool.{le-leb, lt-leb}
use Rattle.std.specs.List.{slice_get, range_with_len}
use Rattle.run.specs.Bytes.{byte_at}
use Rattle.run.specs.Records.{Kind, kinds, kind_at, end, whole, short, unknown, reading, reading_by}

module _ (kind : ℕ) (rest : List ℕ) (k : Kind) (known : kind_at kind ≡ Some k) where
  -- A record is whole where the sheet has as many bytes more as its kind asks for, and short where it has fewer.
  pub whole_by_size : k.size ≤ length rest → reading (kind ∷ rest) ≡ whole (k.says (take k.size rest)) (drop k.size rest)
  unfolding reading
  whole_by_size fits = ap (reading_by kind rest) known ∙ rw (reading_by, le-leb k.size (length rest) fits)

  pub short_by_size : length rest < k.size → reading (kind ∷ rest) ≡ short kind
  unfolding reading
  short_by_size less = ap (reading_by kind rest) known ∙ rw (reading_by, lt-leb k.size (length rest) less)

-- A whole record is read with what follows it.
pub read_whole : (kind : ℕ) (k : Kind) (b rest : List ℕ) → kind_at kind ≡ Some k → length b ≡ k.size
    → reading (kind ∷ (b ++ rest)) ≡ whole (k.says b) rest
read_whole kind k b rest known size =
    let fits : k.size ≤ length (b ++ rest) = simp length-append (omega arith) in
    whole_by_size kind (b ++ rest) k known fits
    ∙ ap₂ (λ x y. whole (k.says x) y) (take_at b rest k.size size) (drop_at b rest k.size size)

-- A sheet of n bytes is too short for a record of its kind, if the kinds from i on are these.
abbrev pub Cut : ℕ → List Kind → (kind n : ℕ) → Type 0
Cut i [] kind n = Unit {0}
Cut i (k ∷ ks) kind n = (kind ≡ i → n ≤ k.size) × Cut (i + 1) ks kind n

cut_at : (i : ℕ) (ks : List Kind) (j n : ℕ) → j < length ks → Cut i ks (i + j) n
    → (k : Kind) × (slice_get ks j ≡ Some k) × (n ≤ k.size)
cut_at i [] j n h cut = absurd (omega arith)
cut_at i (k ∷ ks) zero n h cut = (k, refl, cut.0 (omega arith))
cut_at i (k ∷ ks) (suc j) n h cut =
    let place : i + suc j ≡ i + 1 + j = omega arith in
    cut_at (i + 1) ks j n (omega arith) (rw place at cut).1

pub read_short : (xs : List ℕ) → 0 < length xs → 1 ≤ get_or xs 0 0 → get_or xs 0 0 ≤ 9 → Cut 1 kinds (get_or xs 0 0) (length xs)
    → short (get_or xs 0 0) ≡ reading xs
read_short [] some low high cut = absurd (omega arith)
read_short (zero ∷ xs) some low high cut = absurd (omega arith)
read_short (suc j ∷ xs) some low high cut =
    let place : suc j ≡ 1 + j = omega arith in
    let found = cut_at 1 kinds j (suc (length xs)) (omega arith) (rw place at cut) in
    sym (short_by_size (suc j) xs found.0 found.1 found.2)

-- No byte is left.
pub read_end : (xs : List ℕ) → length xs < 1 → end ≡ reading xs
unfolding reading
read_end [] none = refl
read_end (x ∷ xs) none = absurd (omega arith)

-- A first byte that is no kind.
pub read_unknown : (xs : List ℕ) → 0 < length xs → (get_or xs 0 0 ≡ 0) ⊎ (10 ≤ get_or xs 0 0) → unknown (get_or xs 0 0) ≡ reading xs
unfolding reading
read_unknown [] some out = absurd (omega arith)
read_unknown (zero ∷ xs) some out = refl
read_unknown (suc j ∷ xs) some out =
    let past : 9 ≤ j = omega arith in
    sym (ap (reading_by (suc j) xs) (slice_get_past kinds j past))

-- The bytes from place i on: n of them, and the rest.
split : (n i : ℕ) (xs : List ℕ) → i + n ≤ length xs → drop i xs ≡ map (byte_at xs) (range_with_len i n) ++ drop (i + n) xs
split zero i xs h = rw add-zero
split (suc n) i xs h =
    let first : i < length xs = omega arith in
    let more : i + 1 + n ≤ length xs = omega arith in
    let place : i + suc n ≡ i + 1 + n = omega arith in
    rw (place, drop_more xs i 0 first) (ap (λ ys. byte_at xs i ∷ ys) (split n (i + 1) xs more))

-- What follows the kind byte and the next n bytes of a sheet.
abbrev pub after_bytes : ℕ → List ℕ → List ℕ
after_bytes n xs = take (length xs - (1 + n)) (drop (1 + n) xs)

front : (n kind : ℕ) (xs : List ℕ) → n < length xs → get_or xs 0 0 ≡ kind
    → xs ≡ kind ∷ (map (byte_at xs) (range_with_len 1 n) ++ after_bytes n xs)
front n kind xs h e =
    let first : 0 < length xs = omega arith in
    let more : 1 + n ≤ length xs = omega arith in
    drop_more xs 0 0 first ∙ rw (e, take_rest) (ap (λ ys. kind ∷ ys) (split n 1 xs more))

module _ (n kind : ℕ) (k : Kind) (xs : List ℕ) (known : kind_at kind ≡ Some k) (some : n < length xs) (is : get_or xs 0 0 ≡ kind) where
  -- A record is read by the n bytes after its kind, and a part of the sheet after those.
  pub read_parts : (s : ℕ) (body rest : List ℕ) → k.size ≡ n + s → s ≤ length (after_bytes n xs)
      → body ≡ take s (after_bytes n xs) → rest ≡ drop s (after_bytes n xs)
      → whole (k.says (map (byte_at xs) (range_with_len 1 n) ++ body)) rest ≡ reading xs
  read_parts s body rest size long b r =
      let named : List ℕ = map (byte_at xs) (range_with_len 1 n) in
      let parts : after_bytes n xs ≡ body ++ rest = rw (b, r) (sym (take-append-drop s (after_bytes n xs))) in
      let taken : length body ≡ s = ap length b ∙ length-take-le s (after_bytes n xs) long in
      let sized : length (named ++ body) ≡ k.size = simp (length-append, length-map, length-range_with_len) (omega arith) in
      sym (ap reading (front n kind xs some is ∙ rw parts (ap (λ ys. kind ∷ ys) (sym (append_assoc named body rest))))
      ∙ read_whole kind k (named ++ body) rest known sized)

  -- It is cut where that part would be longer than what is left.
  pub read_cut : (s : ℕ) → k.size ≡ n + s → length (after_bytes n xs) < s → short kind ≡ reading xs
  read_cut s size less =
      let rest : List ℕ = map (byte_at xs) (range_with_len 1 n) ++ after_bytes n xs in
      let fewer : length rest < k.size = simp (length-append, length-map, length-range_with_len) (omega arith) in
      sym (ap reading (front n kind xs some is) ∙ short_by_size kind rest k known fewer)

  -- A record is read by the bytes after its kind.
  pub read_bytes : k.size ≡ n → whole (k.says (map (byte_at xs) (range_with_len 1 n))) (after_bytes n xs) ≡ reading xs
  read_bytes size =
      let named : List ℕ = map (byte_at xs) (range_with_len 1 n) in
      let sized : length named ≡ k.size = simp (length-map, length-range_with_len) (omega arith) in
      sym (ap reading (front n kind xs some is) ∙ read_whole kind k named (after_bytes n xs) known sized)
