-- Long division of polynomials is division with remainder.
use Rattle.std.proofs.Common.{◌≡◌, ℕ, zero, suc, pred, ◌<◌, [], ◌∷◌, length, get_or, sym, refl, ap, ◌∙◌, ap₂, arith}
use Rattle.algebra.specs.Ring.{Ops, Laws}
use Rattle.algebra.proofs.Reify.{by_ring, by_facts, ◌⋆◌, terms}
use Rattle.fields.specs.Arithmetic.{Arithmetic}
use Rattle.fields.specs.Lawful.{Lawful}
use Rattle.fields.proofs.Codes.{Code, codes, codes_laws, zero-code}
use Rattle.polynomials.specs.Polynomial.{Polynomial, trim, add, multiply, divide, sum, product, quotient, remainder}
use Rattle.polynomials.specs.Proper.{Listed}
use Rattle.polynomials.proofs.Laws.{zero-plus, times_zero}
use Rattle.polynomials.proofs.Coefficients.{Codes, trim-at, trim-none, cons_codes, add_at, multiply-codes, multiply_cons, multiply-same}
use Rattle.polynomials.proofs.Divisions.{times_in, left_over-at, remainder-codes, remainder-below}
use Rattle.polynomials.proofs.Listed.{list_path, quotient_proper, remainder_proper, polynomials}
use Rattle.polynomials.proofs.Presentation.{same_lists, list_laws}

-- y·d is taken from the remainder s and added to the multiple m
carried : {C : Type 0} {o : Ops C} → Laws o → (y m s : C) → o.add m s ≡ o.add (o.add y m) (o.add s (o.neg y))
carried T y m s = by_ring T (y ∷ m ∷ s ∷ []) (search terms depth 60 fits 100000) refl

module _ (K : Arithmetic) (L : Lawful K) where
  open K use {size, plus, times, minus}

  carry : (y m s : ℕ) → y < size → m < size → s < size → plus m s ≡ plus (plus y m) (plus s (minus y))
  unfolding codes
  carry y m s hy hm hs = ap (λ (c : Code size). c.0) (carried (codes_laws K L) (y, hy) (m, hm) (s, hs))

  -- a + x·p from p = m + r
  shifted_sum : (a : ℕ) (p m r : Polynomial) → a < size → ((k : ℕ) → get_or p k 0 ≡ plus (get_or m k 0) (get_or r k 0))
      → (k : ℕ) → get_or (a ∷ p) k 0 ≡ plus (get_or (0 ∷ m) k 0) (get_or (a ∷ r) k 0)
  shifted_sum a p m r h e zero = sym (zero-plus K L a h)
  shifted_sum a p m r h e (suc k) = e k

  -- the equation of division, before the quotient is trimmed
  divided-at : (d p : Polynomial) → Codes K L p → (k : ℕ)
      → get_or p k 0 ≡ plus (get_or (multiply K (divide K p d).quotient d) k 0) (get_or (divide K p d).remainder k 0)
  divided-at d [] h k = sym (zero-plus K L 0 (zero-code K L))
  divided-at d (a ∷ p) h k =
      let r : Polynomial = (divide K p d).remainder in
      let m : Polynomial = multiply K (divide K p d).quotient d in
      let s : Polynomial = a ∷ r in
      let c : ℕ = times_in K L d s in
      let hs : Codes K L s = cons_codes K L a r (h 0) (remainder-codes K L d p (λ i. h (suc i))) in
      let hm : Codes K L (0 ∷ m) = cons_codes K L 0 m (zero-code K L) (multiply-codes K L (divide K p d).quotient d) in
      shifted_sum a p m r (h 0) (divided-at d p (λ i. h (suc i))) k
      ∙ carry (times c (get_or d k 0)) (get_or (0 ∷ m) k 0) (get_or s k 0) (L.products.answers_code c (get_or d k 0)) (hm k) (hs k)
      ∙ sym (ap₂ plus (multiply_cons K L c (divide K p d).quotient d k) (left_over-at K L d s hs k))

  abbrev pub quotient_of : Listed K → Listed K → Listed K
  quotient_of a d = (quotient K a.0 d.0, quotient_proper K L a.0 d.0)

  abbrev pub remainder_of : Listed K → Listed K → Listed K
  remainder_of a d = (remainder K a.0 d.0, remainder_proper K L a.1 d.0)

  abbrev P : Ops (Listed K)
  P = polynomials K L

  -- dividend = quotient·divisor + remainder
  pub division : (a d : Listed K) → a ≡ P.add (P.mul (quotient_of a d) d) (remainder_of a d)
  unfolding polynomials sum product quotient remainder
  division a d =
      let q : Polynomial = (divide K a.0 d.0).quotient in
      let r : Polynomial = (divide K a.0 d.0).remainder in
      let m : Polynomial = multiply K (trim q) d.0 in
      same_lists K a (P.add (P.mul (quotient_of a d) d) (remainder_of a d)) λ k.
      divided-at d.0 a.0 a.1.codes k
      ∙ ap (λ x. plus x (get_or r k 0)) (sym (trim-at m k ∙ multiply-same K L (trim q) q d.0 d.0 (trim-at q) (λ k. refl) k))
      ∙ sym (trim-at (add K (trim m) r) k
      ∙ add_at K L (trim m) r (P.mul (quotient_of a d) d).1.codes (remainder_of a d).1.codes k)

  pub division_list : (a d : Listed K)
      → a.0 ≡ sum K (product K (quotient K a.0 d.0) d.0) (remainder K a.0 d.0)
  unfolding polynomials
  division_list a d = list_path (division a d)

  -- the remainder is shorter than a divisor that is not 0
  pub remainder_less : (a d : Listed K) → 0 < length d.0 → length (remainder K a.0 d.0) < length d.0
  unfolding remainder
  remainder_less a d some =
      let n : ℕ = pred (length d.0) in
      omega (arith, remainder-below K L d.0 d.1.codes n (omega arith) d.1.trimmed a.0 a.1.codes)

  -- Division by 0.

  no_quotient : (p : Polynomial) (k : ℕ) → get_or (divide K p []).quotient k 0 ≡ 0
  no_quotient [] k = refl
  no_quotient (a ∷ p) zero =
      let s : Polynomial = a ∷ (divide K p []).remainder in
      ap (times (get_or s 0 0)) L.inverse_of_zero ∙ times_zero K L (get_or s 0 0)
  no_quotient (a ∷ p) (suc k) = no_quotient p k

  pub quotient_by_none : (p : Polynomial) → quotient K p [] ≡ []
  unfolding quotient
  quotient_by_none p = trim-none (divide K p []).quotient (no_quotient p)

  remainder_nil : (a : Listed K) → remainder_of a P.nil ≡ a
  remainder_nil a =
      let q : Listed K = quotient_of a P.nil in
      let r : Listed K = remainder_of a P.nil in
      by_facts (list_laws K L) (a ∷ q ∷ r ∷ []) (P.neg P.unit ⋆ division a P.nil ∷ []) (search terms depth 60 fits 100000) refl

  pub remainder_by_none : (a : Listed K) → remainder K a.0 [] ≡ a.0
  unfolding polynomials
  remainder_by_none a = list_path (remainder_nil a)
