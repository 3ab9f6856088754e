-- Loops over the numbers of a list from the last to the first.
use Rattle.std.proofs.Common.{◌≡◌, ℕ, ◌-◌, ◌<◌, List, [], ◌∷◌, ◌++◌, map, reverse, length, get_or, Bor, Option, None, sym, ap, ◌∙◌, subst, arith}
use Rattle.std.specs.Iterator.{Yields}
use Rattle.std.specs.Iterator.Adapters.{rev_source, rev_steps}
use Rattle.std.specs.Slice.Iter.{iter_rest, iter_steps_back}
use Rattle.std.proofs.lemmas.Iterator.Adapters.{YieldsList-from_rev_slice}
use Rattle.std.proofs.lemmas.Iterator.Consumers.{YieldsList-end}
use Rattle.std.proofs.lemmas.List.{map-append, reverse-append, reverse-reverse, get_or-reverse, get_or_default, length-reverse}

-- the numbers that the loop has come to, in the order of the list
abbrev pub behind : List (Bor ℕ) → List ℕ
behind seen = reverse (map (λ x. x.now) seen)

pub behind-more : (seen : List (Bor ℕ)) (x : Bor ℕ) → behind (seen ++ (x ∷ [])) ≡ x.now ∷ behind seen
behind-more seen x = ap reverse (map-append (λ y. y.now) seen (x ∷ [])) ∙ reverse-append (map (λ y. y.now) seen) (x.now ∷ [])

-- When the loop ends, it has come to the whole list.
pub behind-yielded : (seen : List (Bor ℕ)) (xs : List ℕ) (s : _) (t : _) (u : _) {r : Option (Bor ℕ)}
    → Yields (rev_steps iter_steps_back) s seen t → r ≡ None → rev_steps iter_steps_back t r u → iter_rest (rev_source s) ≡ xs → behind seen ≡ xs
behind-yielded seen xs s t u {r} yielded ends last rest =
    ap reverse (YieldsList-end (YieldsList-from_rev_slice xs rest) seen t yielded r u ends last).0 ∙ reverse-reverse xs

-- a number that the loop meets is one of a list of numbers below n
pub met_below : (xs : List ℕ) (i x n : ℕ) → ((k : ℕ) → get_or xs k 0 < n) → (i < length (reverse xs)) × (x ≡ get_or (reverse xs) i x) → x < n
met_below xs i x n h (l, e) =
    let m : i < length xs = omega (arith, length-reverse xs) in
    subst (λ v. v < n) (sym (e ∙ get_or_default (reverse xs) i x 0 l ∙ get_or-reverse xs i 0 m)) (h (length xs - 1 - i))
