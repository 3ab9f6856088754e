-- Quotient and remainder are the only ones; divisibility and congruence of polynomials are read off the remainder.
use Rattle.std.proofs.Common.{◌≡◌, ◌<◌, [], ◌∷◌, length, sym, refl, ap, ◌∙◌, arith}
use native.Mathlib.Decide.{dec_lt}
use Rattle.algebra.specs.Ring.{Ops, Laws, sub}
use Rattle.algebra.specs.Polynomials.{Polynomials}
use Rattle.algebra.specs.Division.{Divided}
use Rattle.algebra.specs.Divisibility.{Divides, Congruent}
use Rattle.algebra.proofs.Elementary as R
use Rattle.algebra.proofs.Reify.{by_ring, by_facts, ◌⋆◌, terms}
use Rattle.algebra.proofs.Size as S
use Rattle.algebra.proofs.Division.{division_unique}
use Rattle.fields.specs.Arithmetic.{Arithmetic}
use Rattle.fields.specs.Lawful.{Lawful}
use Rattle.fields.proofs.Codes.{codes, field}
use Rattle.polynomials.specs.Polynomial.{product, quotient, remainder}
use Rattle.polynomials.specs.Proper.{Listed}
use Rattle.polynomials.proofs.Listed.{list_path, listed_path, polynomials, nil_list}
use Rattle.polynomials.proofs.Presentation.{presentation, list_laws}
use Rattle.polynomials.proofs.Remainders.{quotient_of, remainder_of, division, remainder_less}

module _ (K : Arithmetic) (L : Lawful K) where
  abbrev P : Ops (Listed K)
  P = polynomials K L

  abbrev T : Laws P
  T = list_laws K L

  abbrev H : Polynomials (codes K L) P
  H = presentation K L

  -- Long division divides in the sense of algebra, where the divisor is not 0.
  abbrev pub divided : (a d : Listed K) → 0 < length d.0 → Divided H a d
  divided a d some =
      record {
        quotient = quotient_of K L a d;
        remainder = remainder_of K L a d;
        is = division K L a d;
        smaller = remainder_less K L a d some;
      }

  -- So quotient and remainder are known by what they satisfy.
  pub division_known : (a d : Listed K) (t : Divided H a d) → (quotient_of K L a d ≡ t.quotient) × (remainder_of K L a d ≡ t.remainder)
  division_known a d t = division_unique (field K L) H (divided a d (omega (arith, t.smaller))) t

  -- d goes t times into d·t
  pub quotient_is : (a d t : Listed K) → 0 < length d.0 → a ≡ P.mul d t → quotient_of K L a d ≡ t
  quotient_is a d t some e =
      (division_known a d (record { quotient = t; remainder = P.nil; is = whole; smaller = omega (arith, ap length (nil_list K L)) })).0
    where
      whole : a ≡ P.add (P.mul t d) P.nil
      whole = by_facts T (a ∷ d ∷ t ∷ []) (P.unit ⋆ e ∷ []) (search terms depth 60 fits 100000) refl

  pub quotient-product : (d t : Listed K) → 0 < length d.0 → quotient K (product K d.0 t.0) d.0 ≡ t.0
  unfolding polynomials
  quotient-product d t some = list_path (quotient_is (P.mul d t) d t some refl)

  -- Congruence is equality of the remainders.

  pub remainder_congruent : (a d : Listed K) → Congruent P d a (remainder_of K L a d)
  remainder_congruent a d =
      let q : Listed K = quotient_of K L a d in
      let r : Listed K = remainder_of K L a d in
      (q, by_facts T (a ∷ d ∷ q ∷ r ∷ []) (P.unit ⋆ division K L a d ∷ []) (search terms depth 60 fits 100000) refl)

  pub congruent_remainder : (a b d : Listed K) → Congruent P d a b → remainder K a.0 d.0 ≡ remainder K b.0 d.0
  congruent_remainder a b d (t, e) =
      elim (dec_lt 0 (length d.0)) [
        | yes some ↦ list_path (modulo some)
        | no none ↦ ap (λ (p : Listed K). remainder K p.0 d.0) (equal (omega arith))
      ]
    where
      q : Listed K
      q = quotient_of K L b d

      r : Listed K
      r = remainder_of K L b d

      whole : a ≡ P.add (P.mul (P.add t q) d) r
      whole =
          by_facts T (a ∷ b ∷ d ∷ t ∷ q ∷ r ∷ []) (P.unit ⋆ e ∷ P.unit ⋆ division K L b d ∷ [])
          (search terms depth 60 fits 100000) refl

      modulo : 0 < length d.0 → remainder_of K L a d ≡ r
      modulo some =
          (division_known a d (record { quotient = P.add t q; remainder = r; is = whole; smaller = remainder_less K L b d some })).1

      equal : length d.0 ≡ 0 → a ≡ b
      equal z =
          R.eq_of_sub P T a b
          (e ∙ ap (λ u. P.mul u t) (S.size_none (field K L) H d z) ∙ R.nil_mul P T t)

  -- Divisibility is a remainder 0.

  less_nothing : (a : Listed K) → sub P a P.nil ≡ a
  less_nothing a = by_ring T (a ∷ []) (search terms depth 60 fits 100000) refl

  pub divides_remainder : (a d : Listed K) → Divides P d a → remainder K a.0 d.0 ≡ []
  unfolding polynomials remainder
  divides_remainder a d (t, e) = congruent_remainder a P.nil d (t, less_nothing a ∙ e)

  remainder-none : (a d : Listed K) → remainder K a.0 d.0 ≡ [] → a ≡ P.mul d (quotient_of K L a d)
  remainder-none a d z =
      let q : Listed K = quotient_of K L a d in
      let r : Listed K = remainder_of K L a d in
      let none : r ≡ P.nil = listed_path (z ∙ sym (nil_list K L)) in
      by_facts T (a ∷ d ∷ q ∷ r ∷ []) (P.unit ⋆ division K L a d ∷ P.unit ⋆ none ∷ []) (search terms depth 60 fits 100000) refl

  pub remainder_divides : (a d : Listed K) → remainder K a.0 d.0 ≡ [] → Divides P d a
  remainder_divides a d z = (quotient_of K L a d, remainder-none a d z)

  -- where d divides a, the quotient is exact

  pub divides_quotient : (a d : Listed K) → Divides P d a → a ≡ P.mul d (quotient_of K L a d)
  divides_quotient a d h = remainder-none a d (divides_remainder a d h)

  pub divides_product : (a d : Listed K) → Divides P d a → a.0 ≡ product K (quotient K a.0 d.0) d.0
  unfolding polynomials
  divides_product a d h = list_path (divides_quotient a d h ∙ T.mul_comm d (quotient_of K L a d))
