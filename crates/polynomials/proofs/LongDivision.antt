-- The loop of long division on ten codes. It divides the codes x by those of y, from the highest of x down.
use Rattle.std.proofs.Common.{◌≡◌, ℕ, suc, pred, ◌<◌, List, ◌∷◌, length, get_or, sym, ap, ◌∙◌, ap₂}
use Rattle.fields.specs.Arithmetic.{Arithmetic}
use Rattle.fields.specs.Lawful.{Lawful}
use Rattle.polynomials.specs.Polynomial.{Polynomial, trim, leading, divide}
use Rattle.polynomials.specs.Ten.{Filled}
use Rattle.polynomials.proofs.Coefficients.{trim-at, Codes, cons_codes}
use Rattle.polynomials.proofs.Divisions.{times_in, left_over-at, remainder-codes}
use Rattle.polynomials.proofs.Filling.{shifted_at}

-- q and r are the ten lowest coefficients of quotient and remainder of p by d
pub record Divided (K : Arithmetic) (p d : Polynomial) (q r : List ℕ) : Type 0 where
  pub quotient_at : Filled 10 q (λ k. get_or (divide K p d).quotient k 0)
  pub remainder_at : Filled 10 r (λ k. get_or (divide K p d).remainder k 0)

module _ (K : Arithmetic) (L : Lawful K) (y : List ℕ) where
  open K use {size, plus, times, minus, inverse}

  -- the divisor
  abbrev d : Polynomial
  d = trim y

  -- One turn, for the coefficient a: s is a + x·r, into which the divisor goes c times.
  module _ {top i : ℕ} (et : top ≡ pred (length d)) (lt : top < 10) (ei : i ≡ inverse (get_or y top 0)) where
    leads : i ≡ inverse (leading d)
    leads = ei ∙ ap inverse (ap (λ t. get_or y t 0) et ∙ sym (trim-at y (pred (length d))))

    module _ {q r s q' t m r' : List ℕ} {c : ℕ} (ec : c ≡ times (get_or s top 0) i)
        (hq : Filled 10 q' (λ k. get_or (c ∷ q) k 0)) (ht : Filled 10 t (λ k. times c (get_or y k 0)))
        (hm : Filled 10 m (λ k. minus (get_or t k 0))) (hr : Filled 10 r' (λ k. plus (get_or s k 0) (get_or m k 0))) where
      pub divided-more : (a : ℕ) (p : Polynomial) → Codes K L (a ∷ p) → Divided K p d q r → Filled 10 s (λ k. get_or (a ∷ r) k 0)
          → Divided K (a ∷ p) d q' r'
      divided-more a p h before hs =
          let R : Polynomial = (divide K p d).remainder in
          let S : Polynomial = a ∷ R in
          let hS : Codes K L S = cons_codes K L a R (h 0) (remainder-codes K L d p (λ i. h (suc i))) in
          let same : (k : ℕ) → k < 10 → get_or s k 0 ≡ get_or S k 0 = λ k l. hs.each k l ∙ shifted_at a r R before.remainder_at k l in
          let goes : c ≡ times_in K L d S = ec ∙ ap₂ times (same top lt ∙ ap (λ t. get_or S t 0) et) leads in
          record {
            quotient_at = record {
              long = hq.long;
              each = λ k l.
                  hq.each k l ∙ ap (λ u. get_or (u ∷ q) k 0) goes ∙ shifted_at (times_in K L d S) q (divide K p d).quotient before.quotient_at k l;
            };
            remainder_at = record {
              long = hr.long;
              each = λ k l.
                  hr.each k l
                  ∙ ap₂ plus (same k l) (hm.each k l ∙ ap minus (ht.each k l ∙ ap₂ times goes (sym (trim-at y k))))
                  ∙ sym (left_over-at K L d S hS k);
            };
          }
