-- The reduction step, as it is computed, is that of the theory.
use Rattle.std.proofs.Common.{◌≡◌, ℕ, zero, suc, pred, ◌-◌, ◌<◌, ◌≤◌, Bool, true, false, cond, eqb, ◌≢◌, length, get_or, pos, ◌-ℤ◌, sym, refl, ap, ◌∙◌, subst, arith}
use Rattle.std.proofs.lemmas.Int.{ints}
use Rattle.std.proofs.lemmas.Bool.{eqb-true, eqb-false, eq-eqb, ne_eqb, cond-true, cond-false}
use Rattle.algebra.specs.Ring.{Ops, sub}
use Rattle.algebra.specs.Field.{Field}
use Rattle.algebra.specs.Polynomials as polynomial-theory
use Rattle.algebra.specs.Polynomials.{Polynomials, constant}
use Rattle.algebra.proofs.Monic as M
use Rattle.algebra.proofs.Size as Z
use Rattle.fields.specs.Arithmetic.{Arithmetic}
use Rattle.fields.specs.Lawful.{Lawful}
use Rattle.fields.proofs.Codes.{Code, code_path, codes, field, inverse-number}
use Rattle.polynomials.specs.Polynomial.{Polynomial, leading, sum, negative, difference, remainder}
use Rattle.polynomials.specs.Proper.{Proper, Listed}
use Rattle.polynomials.proofs.Listed.{polynomials}
use Rattle.polynomials.proofs.Presentation.{coefficient, presentation}
use Rattle.polynomials.proofs.Operations.{difference_of, difference_is, multiple_of, multiple_is, leading_is}
use Rattle.polynomials.proofs.Remainders.{quotient_of, remainder_of}
use Rattle.polynomials.proofs.Divisibility.{divided, quotient_is}
use Rattle.mumford.specs.Functions.{Represents}
use Rattle.mumford.specs.Divisors as mumford
use Rattle.mumford.specs.Addition.{Remainder, Chosen, plain, below, above, Reduced}
use Rattle.mumford.proofs.Choice.{chosen-quotient}
use Rattle.mumford.proofs.Reduced as T
use Rattle.mumford.proofs.Remainders as R
use Rattle.methods.specs.declared.curve.Curve.{Curve}
use Rattle.methods.specs.Curves.{sextic, root, Accepted}
use Rattle.methods.specs.Divisors.{Valid}
use Rattle.methods.specs.Sums.{Composite, Fair, deg, lifted, stepped_by, stepped}
use Rattle.methods.proofs.Curves.{f_of, V_of, curve}
use Rattle.methods.proofs.Representations.{mumford_of, made_mumford, made_valid}
use Rattle.methods.proofs.Compositions.{mumford_composite}

-- 2 less a degree, as a natural number and as an integer
two_less : (m : ℕ) → m ≤ 3 → pos (2 - (m - 1)) ≡ pos 2 -ℤ pos (pred m)
two_less m l = let e : pred m ≡ m - 1 = omega arith in rw e (omega (arith, ints))

module _ (K : Arithmetic) (L : Lawful K) where
  abbrev P : Ops (Listed K)
  P = polynomials K L

  abbrev F : Field (codes K L)
  F = field K L

  abbrev H : Polynomials (codes K L) P
  H = presentation K L

  -- a polynomial made monic
  abbrev monic_listed : Listed K → Listed K
  monic_listed a = multiple_of K L (K.inverse (leading a.0)) a

  monic_is : (a : Listed K) → monic_listed a ≡ M.monic_of F H a
  unfolding M.monic_of
  monic_is a =
      multiple_is K L ι a ∙ ap (λ k. P.mul (constant H k) a) (code_path (ap K.inverse (leading_is K L a) ∙ sym (inverse-number K L lead)))
    where
      lead : Code K.size
      lead = polynomial-theory.leading H a

      ι : Code K.size
      ι = (K.inverse (leading a.0), L.inverse_code (leading a.0))

  remainder-right : (a d : Listed K) → 0 < length d.0 → Remainder H a d (remainder_of K L a d)
  remainder-right a d some = R.remainder_of F H (divided K L a d some)

  module _ (C : Curve) (c : Composite) (hu : Proper K c.u) (hv : Proper K c.v) (fair : Fair c) where
    abbrev f : Listed K
    f = f_of K L C

    abbrev V : Listed K
    V = V_of K L C

    abbrev S : mumford.Divisor (Listed K)
    S = mumford_composite K L c hu hv

    -- The polynomial w of the step is the one that the theory chooses.

    abbrev lifted_by : Bool → ℕ → Polynomial
    lifted_by t n =
        elim t [
          | true ↦ c.v
          | false ↦
              elim n [
                | zero ↦ sum K (negative K (root K C)) (remainder K (sum K c.v (root K C)) c.u)
                | suc n ↦ sum K (root K C) (remainder K (difference K c.v (root K C)) c.u)
              ]
        ]

    chosen_by : (t : Bool) (n : ℕ) → eqb (length c.u) 5 ≡ t → c.n+1 ≡ n
        → (w : Listed K) × (w.0 ≡ lifted_by t n) × Chosen H V S w
    unfolding polynomials
    chosen_by true n e k = (S.v, refl, plain (eqb-true (length c.u) 5 e))
    chosen_by false zero e k =
        let r = remainder_of K L (P.add S.v V) S.u in (
          P.add (P.neg V) r,
          refl,
          below (omega (arith, eqb-false (length c.u) 5 e, fair.u_most)) (omega (arith, ints)) (remainder-right (P.add S.v V) S.u fair.some),
        )
    chosen_by false (suc n) e k =
        let r = remainder_of K L (difference_of K L S.v V) S.u in (
          P.add V r,
          refl,
          above (omega (arith, eqb-false (length c.u) 5 e, fair.u_most)) (omega (arith, ints))
              (subst (λ a. Remainder H a S.u r) (difference_is K L S.v V) (remainder-right (difference_of K L S.v V) S.u fair.some)),
        )

    pub lifted-chosen : (w : Listed K) × (w.0 ≡ lifted K (root K C) c) × Chosen H V S w
    unfolding lifted
    lifted-chosen = chosen_by (eqb (length c.u) 5) c.n+1 refl refl

    -- The step with w.
    module _ (A : Accepted K C) (represents : Represents P f S.u S.v) (w : Listed K) (chosen : Chosen H V S w) where
      abbrev q : Listed K
      q = quotient_of K L (difference_of K L f (P.mul w w)) S.u

      abbrev u' : Listed K
      u' = monic_listed q

      abbrev v' : Listed K
      v' = remainder_of K L (P.neg w) u'

      abbrev n' : ℕ
      n' = cond (eqb (get_or w.0 3 0) (K.minus 1)) (2 - deg u'.0) 0

      q_is : q ≡ quotient_of K L (sub P f (P.mul w w)) S.u
      q_is = ap (λ a. quotient_of K L a S.u) (difference_is K L f (P.mul w w))

      q-short : (q ≢ P.nil) × (length q.0 ≤ 3)
      q-short =
          let (t, is, some, most) = chosen-quotient F H (curve K L C A) represents fair.v_smaller chosen in
          let same : q ≡ t = q_is ∙ quotient_is K L (sub P f (P.mul w w)) S.u t fair.some is in
          (λ z. some (sym same ∙ z), omega (arith, ap H.size same))

      u'_is : u' ≡ M.monic_of F H (quotient_of K L (sub P f (P.mul w w)) S.u)
      u'_is = monic_is q ∙ ap (M.monic_of F H) q_is

      u'_size : length u'.0 ≡ length q.0
      u'_size = ap H.size (monic_is q) ∙ M.monic_of_size F H q q-short.0

      u'_some : 0 < length u'.0
      u'_some = omega (arith, u'_size, Z.size_some F H q q-short.0)

      opposite-number : ((codes K L).neg (codes K L).unit).0 ≡ K.minus 1
      unfolding codes
      opposite-number = refl

      n'-opposite : coefficient K w 3 ≡ (codes K L).neg (codes K L).unit → pos n' ≡ pos 2 -ℤ pos (pred (length u'.0))
      n'-opposite e =
          let test = eq-eqb (get_or w.0 3 0) (K.minus 1) (ap (λ (k : Code K.size). k.0) e ∙ opposite-number) in
          ap pos (cond-true (eqb (get_or w.0 3 0) (K.minus 1)) (2 - deg u'.0) 0 test)
          ∙ two_less (length u'.0) (omega (arith, u'_size, q-short.1))

      n'_other : ¬ (coefficient K w 3 ≡ (codes K L).neg (codes K L).unit) → pos n' ≡ pos 0
      n'_other h =
          let test = ne_eqb (get_or w.0 3 0) (K.minus 1) (λ e. h (code_path (e ∙ sym opposite-number))) in
          ap pos (cond-false (eqb (get_or w.0 3 0) (K.minus 1)) (2 - deg u'.0) 0 test)

      step-reduced : Reduced H f S (record { u = u'; v = v'; n = pos n' }) w
      step-reduced =
          T.divided-reduced F H (curve K L C A) represents fair.v_smaller chosen
          (divided K L (sub P f (P.mul w w)) S.u fair.some)
          (divided K L (P.neg w) u' u'_some) u'_is refl n'-opposite n'_other

      step_valid : mumford.Valid H f (record { u = u'; v = v'; n = pos n' })
      step_valid = T.reduced_valid F H (curve K L C A) represents fair.v_smaller chosen step-reduced

      step_made : Reduced H f S (mumford_of K L (stepped_by K (sextic K C) w.0 c.u)) w
          × Valid K C (stepped_by K (sextic K C) w.0 c.u)
      unfolding stepped_by polynomials
      step_made = (
        subst (λ T. Reduced H f S T w) (sym (made_mumford K L C u' v' n' step_valid)) step-reduced,
        made_valid K L C u' v' n' step_valid,
      )

    -- So the step from c is one of the theory, and leads to a valid divisor.
    pub stepped-reduced : Accepted K C → Represents P f S.u S.v
        → (w : Listed K)
        × Chosen H V S w
        × Reduced H f S (mumford_of K L (stepped K (sextic K C) (root K C) c)) w
        × Valid K C (stepped K (sextic K C) (root K C) c)
    unfolding stepped
    stepped-reduced A represents =
        let (w, same, chosen) = lifted-chosen in
        let (step, valid) = step_made A represents w chosen in (
          w,
          chosen,
          subst (λ p. Reduced H f S (mumford_of K L (stepped_by K (sextic K C) p c.u)) w) same step,
          subst (λ p. Valid K C (stepped_by K (sextic K C) p c.u)) same valid,
        )
