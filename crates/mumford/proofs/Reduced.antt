-- The reduction step: from u of degree at most 4 it leads to one valid divisor, and it has the growth that the rule for n
-- says.
use Rattle.std.proofs.Common.{◌≡◌, pred, ◌+◌ as ◌+ᴺ◌, ◌<◌, ◌≤◌, ◌≢◌, [], ◌∷◌, pos, negsuc, ◌+ℤ◌, ◌-ℤ◌, ◌≤ℤ◌, sym, refl, ap, ◌∙◌, subst, ap₂, arith}
use Rattle.std.proofs.lemmas.Int.{ints}
use Rattle.algebra.specs.Ring.{Ops, Laws, sub}
use Rattle.algebra.specs.Field.{Field}
use Rattle.algebra.specs.Polynomials.{Polynomials, constant, leading, Monic}
use Rattle.algebra.specs.Division.{Divided}
use Rattle.algebra.proofs.Reify.{by_ring, terms}
use Rattle.algebra.proofs.Elementary as R
use Rattle.algebra.proofs.PolynomialRing as A
use Rattle.algebra.proofs.Size as Z
use Rattle.algebra.proofs.Monic as M
use Rattle.mumford.specs.Functions.{Represents, norm}
use Rattle.mumford.specs.Divisors.{Divisor, degree, InRange, Valid}
use Rattle.mumford.specs.Curve.{Curve}
use Rattle.mumford.specs.Growth.{growth}
use Rattle.mumford.specs.Reduction.{Step}
use Rattle.mumford.specs.Addition.{Remainder, Chosen, Opposite, Reduced}
use Rattle.mumford.proofs.Reduction.{after_valid}
use Rattle.mumford.proofs.Degrees.{size_degree, degree-mul}
use Rattle.mumford.proofs.Remainders.{exact-quotient, remainder_of, remainder_unique}
use Rattle.mumford.proofs.Choice as W
use Rattle.mumford.proofs.Lines as Y

module _ {K : Type 0} {o : Ops K} (F : Field o) {P : Type 0} {p : Ops P} (H : Polynomials o p) {f V : P} (C : Curve H f V) where
  infixl 75 ◌-◌
  infixl 80 ◌·◌
  open p use {mul as ◌·◌, neg, nil, unit}
  open H use {coefficient, size}

  abbrev ◌-◌ : P → P → P
  ◌-◌ = sub p

  abbrev L : Laws p
  L = A.polynomial_laws F H

  -- The step as it is computed, by two divisions.
  pub divided-reduced : {D S : Divisor P} {w : P} → Represents p f D.u D.v → size D.v < size D.u → Chosen H V D w
      → (t : Divided H (f - w · w) D.u) (r : Divided H (neg w) S.u)
      → S.u ≡ M.monic_of F H t.quotient → S.v ≡ r.remainder
      → (Opposite H w → S.n ≡ pos 2 -ℤ pos (degree size S.u)) → (¬ Opposite H w → S.n ≡ pos 0)
      → Reduced H f D S w
  divided-reduced {D} {S} {w} represents smaller chosen t r u_is v_is n_opposite n_other =
      let (q, is, _, _) = W.chosen-quotient F H C represents smaller chosen in
      let exact = exact-quotient F H t (q, is) in
      let some : t.quotient ≢ nil = Z.cofactor_some F H exact (W.difference_some F H C w) in
      record {
        monic = ap (leading H) u_is ∙ M.monic_of-monic F H t.quotient some;
        κ = leading H t.quotient;
        u_is =
            exact
            ∙ ap (λ a. D.u · a)
            (M.monic_of_back F H t.quotient some ∙ ap (λ a. constant H (leading H t.quotient) · a) (sym u_is));
        v_is = subst (Remainder H (neg w) S.u) (sym v_is) (remainder_of F H r);
        n_opposite = n_opposite;
        n_other = n_other;
      }

  module _ {D S : Divisor P} {w : P} (represents : Represents p f D.u D.v) (smaller : size D.v < size D.u)
      (chosen : Chosen H V D w) (r : Reduced H f D S w) where
    open r use {monic, κ, u_is, v_is, n_opposite, n_other}

    u_some : D.u ≢ nil
    u_some = Z.divisor_some F H (constant H κ · S.u, u_is) (W.difference_some F H C w)

    u'_some : S.u ≢ nil
    u'_some = M.monic_some F H S.u monic

    κ_some : κ ≢ o.nil
    κ_some z =
        M.leading_some F H (constant H κ · S.u) (Z.cofactor_some F H {u = D.u} u_is (W.difference_some F H C w))
        (M.leading-mul F H (constant H κ) S.u
        ∙ ap (λ c. o.mul c (leading H S.u)) (M.leading-constant F H κ ∙ z)
        ∙ R.nil_mul o F.laws (leading H S.u))

    -- the quotient has the size of u'
    κ_size : size (constant H κ · S.u) ≡ size S.u
    κ_size = Z.size_constant-mul F H κ S.u κ_some

    pub reduced-step : Step p f D.u D.v S.u S.v w
    reduced-step =
        record {
          κ = constant H κ;
          κ⁻¹ = constant H (F.inverse κ);
          is_unit = Z.constant-inverse F H κ κ_some;
          near = W.chosen_congruent F H C chosen;
          quotient = u_is;
          opposite = v_is.congruent;
        }

    pub reduced_size : size S.u ≤ 3
    reduced_size =
        omega (
          arith,
          κ_size,
          ap size u_is,
          Z.size_mul_some F H D.u (constant H κ · S.u) u_some (Z.cofactor_some F H {u = D.u} u_is (W.difference_some F H C w)),
          W.chosen_most F H C smaller chosen,
        )

    pub reduced-degree : degree size (norm p f (w, unit)) ≡ degree size D.u +ᴺ degree size S.u
    reduced-degree =
        ap (degree size) (minus f w)
        ∙ ap pred (Z.size_neg F H (f - w · w))
        ∙ ap (degree size) u_is
        ∙ degree-mul F H D.u (constant H κ · S.u) u_some (Z.cofactor_some F H {u = D.u} u_is (W.difference_some F H C w))
        ∙ ap (λ n. degree size D.u +ᴺ pred n) κ_size
      where
        minus : (f w : P) → w · w - unit · unit · f ≡ neg (f - w · w)
        minus f w = by_ring L (f ∷ w ∷ []) (search terms depth 60 fits 100000) refl

    -- deg u' ≤ 2
    u'_most : degree size S.u ≤ 2
    u'_most = omega (arith, size_degree F H S.u u'_some, reduced_size)

    range : Dec (Opposite H w) → InRange size S
    range (yes e) =
        record {
          u_most = reduced_size;
          n_least = omega (arith, ints, n_opposite e, u'_most);
          n_most = omega (arith, ints, n_opposite e, u'_most);
        }
    range (no e) =
        record {
          u_most = reduced_size;
          n_least = omega (arith, ints, n_other e, u'_most);
          n_most = omega (arith, ints, n_other e, u'_most);
        }

    pub reduced_valid : Valid H f S
    reduced_valid =
        record {
          monic = monic;
          smaller = v_is.smaller;
          range = range (F.same? (coefficient w 3) (o.neg o.unit));
          represents = after_valid L D S reduced-step;
        }

    -- n' + growth (y + w) = n + deg u
    pub reduced-growth : negsuc 0 ≤ℤ D.n → (D.n +ℤ pos (degree size D.u)) ≤ℤ pos 3 → ¬ InRange size D
        → S.n +ℤ growth p size f V (w, unit) ≡ D.n +ℤ pos (degree size D.u)
    reduced-growth least most out =
        let due = W.chosen_due F H C u_some least most out chosen in
        elim (F.same? (coefficient w 3) (o.neg o.unit)) [
          | yes e ↦
              omega (arith, ints, n_opposite e, due.at_opposite e, reduced-degree, Y.line-behind F H C w (W.chosen_size F H C smaller chosen) e)
          | no e ↦ omega (arith, ints, n_other e, due.at_other e, Y.line_ahead F H C w (W.chosen_size F H C smaller chosen) e)
        ]

  -- The step leads to one divisor alone.

  -- a constant times a monic polynomial tells both
  scaled_unique : (κ c : K) (a b : P) → Monic H a → Monic H b → constant H κ · a ≢ nil → constant H κ · a ≡ constant H c · b → a ≡ b
  scaled_unique κ c a b ma mb some e =
      Z.regular F H (constant H κ) (Z.divisor_some F H (a, refl) some) a b
      (e ∙ ap (λ k. constant H k · b) (sym (lead c b mb) ∙ sym (ap (leading H) e) ∙ lead κ a ma))
    where
      lead : (k : K) (m : P) → Monic H m → leading H (constant H k · m) ≡ k
      lead k m h =
          M.leading-mul F H (constant H k) m ∙ ap₂ o.mul (M.leading-constant F H k) h ∙ F.laws.mul_unit k

  reduced-same : {D S T : Divisor P} {w : P} → Reduced H f D S w → Reduced H f D T w → S ≡ T
  reduced-same {D} {S} {T} {w} r t = λ i. record { u = same-u i; v = same-v i; n = same_n i }
    where
      same-u : S.u ≡ T.u
      same-u =
          scaled_unique r.κ t.κ S.u T.u r.monic t.monic (Z.cofactor_some F H {u = D.u} r.u_is (W.difference_some F H C w))
          (Z.regular F H D.u (Z.divisor_some F H (constant H r.κ · S.u, r.u_is) (W.difference_some F H C w)) (constant H r.κ · S.u)
          (constant H t.κ · T.u) (sym r.u_is ∙ t.u_is))

      same-v : S.v ≡ T.v
      same-v = remainder_unique F H (subst (λ u. Remainder H (neg w) u S.v) same-u r.v_is) t.v_is

      same_n : S.n ≡ T.n
      same_n =
          elim (F.same? (coefficient w 3) (o.neg o.unit)) [
            | yes e ↦ r.n_opposite e ∙ ap (λ u. pos 2 -ℤ pos (degree size u)) same-u ∙ sym (t.n_opposite e)
            | no e ↦ r.n_other e ∙ sym (t.n_other e)
          ]

  pub reduced_unique : {D S T : Divisor P} {w x : P} → Chosen H V D w → Chosen H V D x → Reduced H f D S w → Reduced H f D T x → S ≡ T
  reduced_unique {D} {S} {T} c d r t = reduced-same r (subst (Reduced H f D T) (W.chosen_unique F H C d c) t)
