-- When ten numbers are the same polynomial as ten others.
use Rattle.std.proofs.Common.{◌≡◌, ℕ, ◌<◌, Bool, true, false, ◌≢◌, List, get_or, Decides, sym, refl, ap, ◌∙◌, arith, ext_get_or, rules}
use mathlib.Core.Bool.{false≢true}
use Rattle.std.proofs.lemmas.Slice.Eq.{compares_Decides}
use Rattle.std.proofs.lemmas.Bool.Decides.{same_from_decides}
use Rattle.fields.specs.Arithmetic.{Arithmetic}
use Rattle.polynomials.specs.Polynomial.{Polynomial, trim, same}
use Rattle.polynomials.specs.Ten.{value, Read}
use Rattle.polynomials.proofs.Tens.{read_at, read_trim}

same_decides : (p q : Polynomial) → Decides (same p q) (p ≡ q)
same_decides = compares_Decides same (search rules)

-- a test that decides whether p and q are equal answers as the definition does
pub same_is : (r : Bool) (p q : Polynomial) → Decides r (p ≡ q) → r ≡ same p q
same_is r p q h = same_from_decides r (same p q) h (same_decides p q)

module _ (K : Arithmetic) {a b x y : List ℕ} (ha : Read K a x) (hb : Read K b y) where
  pub equal_yes : ((k : ℕ) → k < 10 → get_or x k 0 ≡ get_or y k 0) → Decides true (value K a ≡ value K b)
  equal_yes h =
      let e : value K a ≡ value K b =
      sym (read_trim K ha) ∙ ap trim (ext_get_or 0 x y (ha.long ∙ sym hb.long) (λ k l. h k (omega (arith, ha.long)))) ∙ read_trim K hb
      in
      (λ _. e, λ _. refl)

  pub equal_no : (k : ℕ) → get_or x k 0 ≢ get_or y k 0 → Decides false (value K a ≡ value K b)
  equal_no k apart =
      (λ t. absurd (false≢true t), λ e. absurd (apart (read_at K ha k ∙ ap (λ p. get_or p k 0) e ∙ sym (read_at K hb k))))
