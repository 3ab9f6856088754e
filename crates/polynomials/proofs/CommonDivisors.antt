-- The monic greatest common divisor of two polynomials: it divides both, is a combination of them, and is the only monic one.
use Rattle.std.proofs.Common.{◌≡◌, suc, ◌+◌ as ◌+ᴺ◌, ◌<◌, ◌≢◌, [], ◌∷◌, length, sym, refl, ap, ◌∙◌, subst, ap₂, arith}
use native.Mathlib.Decide.{dec_lt}
use Rattle.algebra.specs.Ring.{Ops, Laws}
use Rattle.algebra.specs.Field.{Field}
use Rattle.algebra.specs.CommonDivisor.{combination, Greatest}
use Rattle.algebra.specs.Polynomials as theory
use Rattle.algebra.specs.Polynomials.{Polynomials, constant, Monic}
use Rattle.algebra.proofs.Elementary as R
use Rattle.algebra.proofs.Reify.{by_facts, ◌⋆◌, terms}
use Rattle.algebra.proofs.Size as S
use Rattle.algebra.proofs.Monic as M
use Rattle.algebra.proofs.Greatest as G
use Rattle.algebra.proofs.CommonDivisor.{monic_common_divisor_unique}
use Rattle.fields.specs.Arithmetic.{Arithmetic}
use Rattle.fields.specs.Lawful.{Lawful}
use Rattle.fields.proofs.Codes.{Code, code_path, codes, field, inverse-number}
use Rattle.polynomials.specs.Polynomial.{leading, sum, product, Common, euclid, gcd}
use Rattle.polynomials.specs.Proper.{Listed}
use Rattle.polynomials.proofs.Listed.{listed_path, polynomials}
use Rattle.polynomials.proofs.Presentation.{presentation, list_laws}
use Rattle.polynomials.proofs.Operations.{multiple_is, leading_is}
use Rattle.polynomials.proofs.Euclid.{Bezout, euclid-bezout, multiple-bezout, euclid_greatest}

no_combination : {C : Type 0} {o : Ops C} → Laws o → (g f s : C)
    → g ≡ o.add (o.mul f o.nil) (o.add (o.mul s o.nil) o.nil)
    → g ≡ o.nil
no_combination {o = o} T g f s e =
    by_facts T (g ∷ f ∷ s ∷ []) (o.unit ⋆ e ∷ []) (search terms depth 60 fits 100000) refl

module _ (K : Arithmetic) (L : Lawful K) where
  abbrev P : Ops (Listed K)
  P = polynomials K L

  abbrev T : Laws P
  T = list_laws K L

  abbrev F : Field (codes K L)
  F = field K L

  abbrev H : Polynomials (codes K L) P
  H = presentation K L

  module _ (a b : Listed K) where
    -- What Euclid's steps answer; the divisor g, and the inverse ι of its leading coefficient.

    abbrev answer : Common
    answer = euclid K (suc (length b.0)) a.0 b.0

    bezout : Bezout K L answer a.0 b.0
    bezout = euclid-bezout K L (suc (length b.0)) a.0 b.0 a.1 b.1

    abbrev g : Listed K
    g = (answer.divisor, bezout.divisor)

    common : Greatest P (a ∷ b ∷ []) g
    common = euclid_greatest K L (suc (length b.0)) a.0 b.0 a.1 b.1 bezout.divisor (omega arith)

    abbrev ι : Code K.size
    ι = (K.inverse (leading g.0), L.inverse_code (leading g.0))

    pub gcd-bezout : Bezout K L (gcd K a.0 b.0) a.0 b.0
    unfolding gcd
    gcd-bezout = multiple-bezout K L ι answer a b bezout

    abbrev pub gcd_of : Listed K
    gcd_of = ((gcd K a.0 b.0).divisor, gcd-bezout.divisor)

    abbrev pub first_of : Listed K
    first_of = ((gcd K a.0 b.0).first, gcd-bezout.first)

    abbrev pub second_of : Listed K
    second_of = ((gcd K a.0 b.0).second, gcd-bezout.second)

    pub gcd-combination : gcd_of ≡ P.add (P.mul first_of a) (P.mul second_of b)
    unfolding polynomials
    gcd-combination = listed_path gcd-bezout.combination

    pub gcd-combination_list : (gcd K a.0 b.0).divisor
        ≡ sum K (product K (gcd K a.0 b.0).first a.0) (product K (gcd K a.0 b.0).second b.0)
    gcd-combination_list = gcd-bezout.combination

    inverse_is : ι ≡ F.inverse (theory.leading H g)
    inverse_is = code_path (ap K.inverse (leading_is K L g) ∙ sym (inverse-number K L (theory.leading H g)))

    gcd-monic_of : gcd_of ≡ M.monic_of F H g
    unfolding gcd M.monic_of
    gcd-monic_of = listed_path refl ∙ multiple_is K L ι g ∙ ap (λ c. P.mul (constant H c) g) inverse_is

    -- It divides both and is a combination of them, so that every common divisor divides it.
    pub gcd_greatest : Greatest P (a ∷ b ∷ []) gcd_of
    unfolding M.monic_of
    gcd_greatest =
        subst (Greatest P (a ∷ b ∷ [])) (sym gcd-monic_of)
        (elim (S.same? F H g P.nil) [
          | yes e ↦ subst (Greatest P (a ∷ b ∷ [])) (nothing e) common
          | no some ↦ G.greatest_mul T κ' κ (T.mul_comm κ' κ ∙ M.leading_unit F H g some) common
        ])
      where
        κ : Listed K
        κ = constant H (theory.leading H g)

        κ' : Listed K
        κ' = constant H (F.inverse (theory.leading H g))

        nothing : g ≡ P.nil → g ≡ P.mul κ' g
        nothing e = e ∙ sym (ap (P.mul κ') e ∙ R.mul_nil P T κ')

    -- Where a and b are not both 0 it is monic,
    pub gcd-monic : 0 < length a.0 +ᴺ length b.0 → Monic H gcd_of
    gcd-monic l = subst (Monic H) (sym gcd-monic_of) (M.monic_of-monic F H g some)
      where
        some : g ≢ P.nil
        some =
            elim (dec_lt 0 (length a.0)) [
              | yes la ↦ S.divisor_some F H common.divides.0 (S.some_size F H a la)
              | no none ↦ S.divisor_some F H common.divides.1.0 (S.some_size F H b (omega arith))
            ]

    pub gcd-leading : 0 < length a.0 +ᴺ length b.0 → leading (gcd K a.0 b.0).divisor ≡ 1
    unfolding codes
    gcd-leading l = leading_is K L gcd_of ∙ ap (λ (c : Code K.size). c.0) (gcd-monic l)

    -- and it is the only one.
    pub gcd_unique : (d : Listed K) → Monic H d → Greatest P (a ∷ b ∷ []) d → gcd_of ≡ d
    gcd_unique d m h =
        elim (dec_lt 0 (length a.0 +ᴺ length b.0)) [
          | yes l ↦ monic_common_divisor_unique F H (gcd-monic l) m gcd_greatest h
          | no none ↦ absurd (M.monic_some F H d m (nothing (omega arith) (omega arith)))
        ]
      where
        nothing : length a.0 ≡ 0 → length b.0 ≡ 0 → d ≡ P.nil
        nothing za zb =
            no_combination T d (h.factor 0) (h.factor 1)
            (h.combines ∙ ap₂ (λ u v. combination P h.factor (u ∷ v ∷ [])) (S.size_none F H a za) (S.size_none F H b zb))
