-- Quotients and remainders as the rules of the sum name them.
use Rattle.std.proofs.Common.{◌≡◌, [], ◌∷◌, refl}
use Rattle.algebra.specs.Ring.{Ops, sub}
use Rattle.algebra.specs.Field.{Field}
use Rattle.algebra.specs.Divisibility.{Divides, Congruent}
use Rattle.algebra.specs.Polynomials.{Polynomials}
use Rattle.algebra.specs.Division.{Divided}
use Rattle.algebra.proofs.Reify.{by_facts, ◌⋆◌, terms}
use Rattle.algebra.proofs.PolynomialRing as A
use Rattle.algebra.proofs.Division as D
use Rattle.mumford.specs.Addition.{Remainder}
use Rattle.mumford.proofs.Members.{congruent_sym}

module _ {K : Type 0} {o : Ops K} (F : Field o) {P : Type 0} {p : Ops P} (H : Polynomials o p) where
  infixl 80 ◌·◌
  open p use {mul as ◌·◌, unit}

  -- a quotient where nothing remains
  pub exact-quotient : {a d : P} (s : Divided H a d) → Divides p d a → a ≡ d · s.quotient
  exact-quotient {a} {d} s h =
      by_facts (A.polynomial_laws F H) (a ∷ d ∷ s.quotient ∷ s.remainder ∷ [])
      (unit ⋆ s.is ∷ unit ⋆ D.divides_remainder F H s h ∷ []) (search terms depth 60 fits 100000) refl

  -- what a division leaves is the remainder ..
  pub remainder_of : {a d : P} (s : Divided H a d) → Remainder H a d s.remainder
  remainder_of {a} {d} s = record { congruent = congruent_sym (A.polynomial_laws F H) (D.remainder_congruent F H s); smaller = s.smaller }

  -- .. and the only one
  pub remainder_unique : {a u r s : P} → Remainder H a u r → Remainder H a u s → r ≡ s
  remainder_unique {a} {u} {r} {s} h k =
      D.congruent_small F H (apart h.congruent k.congruent) h.smaller k.smaller
    where
      apart : Congruent p u r a → Congruent p u s a → Congruent p u r s
      apart (t, e) (t', e') = (
        sub p t t',
        by_facts (A.polynomial_laws F H) (a ∷ u ∷ r ∷ s ∷ t ∷ t' ∷ []) (unit ⋆ e ∷ p.neg unit ⋆ e' ∷ [])
            (search terms depth 60 fits 100000) refl,
      )
