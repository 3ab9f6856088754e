-- Sums, doubles and negatives, as they are computed, are those of the theory; so they are valid, and every sum in theory is
-- the computed one.
use Rattle.std.proofs.Common.{◌≡◌, ℕ, pred, ◌+◌, ◌-◌, ◌≤◌, Bool, true, false, length, pos, ◌+ℤ◌, ◌-ℤ◌, ◌≤ℤ◌, sym, refl, ap, ◌∙◌, subst, arith}
use Rattle.std.proofs.lemmas.Int.{ints}
use Rattle.std.proofs.lemmas.Bool.{both_ways}
use Rattle.std.proofs.lemmas.Bool.Decides.{nat_tests}
use Rattle.algebra.specs.Ring.{Ops}
use Rattle.algebra.specs.Field.{Field}
use Rattle.algebra.specs.Polynomials.{Polynomials}
use Rattle.fields.specs.Arithmetic.{Arithmetic}
use Rattle.fields.specs.Lawful.{Lawful}
use Rattle.fields.proofs.Codes.{codes, field}
use Rattle.polynomials.specs.Proper.{Proper, Listed}
use Rattle.polynomials.proofs.Listed.{polynomials}
use Rattle.polynomials.proofs.Presentation.{presentation}
use Rattle.mumford.specs.Divisors as mumford
use Rattle.mumford.specs.Divisors.{InRange}
use Rattle.mumford.specs.Addition.{Sum, Chosen, Reduced}
use Rattle.mumford.specs.Addition as theory
use Rattle.mumford.proofs.Addition as A
use Rattle.mumford.proofs.Composed as M
use Rattle.methods.specs.declared.curve.Curve.{Curve}
use Rattle.methods.specs.declared.divisor.Divisor.{Divisor}
use Rattle.methods.specs.Curves.{sextic, root, Accepted}
use Rattle.methods.specs.Divisors.{divisor_of, Valid}
use Rattle.methods.specs.Sums.{Composite, composed, stepped, in_range, reduced, plus, twice}
use Rattle.methods.proofs.Curves.{f_of, V_of, curve}
use Rattle.methods.proofs.Representations.{mumford_of, made_mumford, made_valid, valid_mumford, divisor_from, from_mumford}
use Rattle.methods.proofs.Compositions.{mumford_composite, Composes, composed_composes, composes_fair}
use Rattle.methods.proofs.Reductions.{stepped-reduced}

-- n ≤ 2 − deg u with natural numbers and with integers, for n + 1 and a u of m coefficients
range_most : (n m : ℕ) → 1 ≤ n → n + (m - 1) ≤ 3 → (pos n -ℤ pos 1 +ℤ pos (pred m)) ≤ℤ pos 2
range_most n m some most = let e : pred m ≡ m - 1 = omega arith in rw e (omega (arith, ints))

most_range : (n m : ℕ) → (pos n -ℤ pos 1 +ℤ pos (pred m)) ≤ℤ pos 2 → n + (m - 1) ≤ 3
most_range n m h = let e : pred m ≡ m - 1 = omega arith in omega (arith, ints, rw e at h)

module _ (K : Arithmetic) (L : Lawful K) where
  abbrev P : Ops (Listed K)
  P = polynomials K L

  abbrev F : Field (codes K L)
  F = field K L

  abbrev H : Polynomials (codes K L) P
  H = presentation K L

  -- The test of the range is that of the theory.
  module _ (c : Composite) (hu : Proper K c.u) (hv : Proper K c.v) where
    in_range_tells : in_range c ≡ true → InRange H.size (mumford_composite K L c hu hv)
    in_range_tells e =
        let small : length c.u - 1 ≤ 2 = grind (arith, nat_tests) in
        let least : 1 ≤ c.n+1 = grind (arith, nat_tests) in
        let most : c.n+1 + (length c.u - 1) ≤ 3 = grind (arith, nat_tests) in
        record {
          u_most = omega arith;
          n_least = omega (arith, ints);
          n_most = range_most c.n+1 (length c.u) least most;
        }

    tells_in_range : InRange H.size (mumford_composite K L c hu hv) → in_range c ≡ true
    tells_in_range r =
        let small : length c.u ≤ 3 = r.u_most in
        let least : 1 ≤ c.n+1 = omega (arith, ints, r.n_least) in
        let most : c.n+1 + (length c.u - 1) ≤ 3 = most_range c.n+1 (length c.u) r.n_most in
        grind (arith, nat_tests)

  module _ (C : Curve) (accepted : Accepted K C) where
    abbrev f : Listed K
    f = f_of K L C

    abbrev V : Listed K
    V = V_of K L C

    module _ (D E : Divisor) (hD : Valid K C D) (hE : Valid K C E) where
      m_d : mumford.Valid H f (mumford_of K L D)
      m_d = valid_mumford K L C D hD

      m_e : mumford.Valid H f (mumford_of K L E)
      m_e = valid_mumford K L C E hE

      abbrev SumIs : mumford.Divisor (Listed K) → Type 0
      SumIs S = Sum H f V (mumford_of K L D) (mumford_of K L E) S

      -- S is the sum in theory, and valid
      abbrev IsSum : Divisor → Type 0
      IsSum S = SumIs (mumford_of K L S) × Valid K C S

      -- What is made of the composite.
      module _ (c : Composite) (h : Composes K L D E C hD hE c) where
        abbrev T : mumford.Divisor (Listed K)
        T = mumford_composite K L c h.u_proper h.v_proper

        kept : in_range c ≡ true → IsSum (divisor_of c.u c.v (c.n+1 - 1))
        kept e =
            let range = in_range_tells c h.u_proper h.v_proper e in
            let count : T.n ≡ pos (c.n+1 - 1) = omega (arith, ints, range.n_least) in
            let same : T ≡ record { u = T.u; v = T.v; n = pos (c.n+1 - 1) } = λ i. record { u = T.u; v = T.v; n = count i } in
            let sum : SumIs T = theory.composed h.composed range in
            let valid = subst (mumford.Valid H f) same (A.sum_valid F H (curve K L C accepted) m_d m_e sum) in (
              subst SumIs (same ∙ sym (made_mumford K L C T.u T.v (c.n+1 - 1) valid)) sum,
              made_valid K L C T.u T.v (c.n+1 - 1) valid,
            )

        step : (w : Listed K)
            × Chosen H V T w
            × Reduced H f T (mumford_of K L (stepped K (sextic K C) (root K C) c)) w
            × Valid K C (stepped K (sextic K C) (root K C) c)
        step =
            stepped-reduced K L C c h.u_proper h.v_proper (composes_fair K L D E C hD hE h) accepted
            (M.composed_represents F H m_d m_e h.composed)

        moved : in_range c ≡ false → IsSum (stepped K (sextic K C) (root K C) c)
        moved e =
            let out : ¬ InRange H.size T = λ r. both_ways (in_range c) e (tells_in_range c h.u_proper h.v_proper r) in
            let (w, chosen, reduces, valid) = step in
            (theory.reduced h.composed out chosen reduces, valid)

        reduced-sum : IsSum (reduced K C c)
        unfolding reduced
        reduced-sum = by_range (in_range c) refl
          where
            by_range : (t : Bool) → in_range c ≡ t
                → IsSum (elim t [ true ↦ divisor_of c.u c.v (c.n+1 - 1) | false ↦ stepped K (sextic K C) (root K C) c ])
            by_range true e = kept e
            by_range false e = moved e

      pub stepped_valid : Valid K C (stepped K (sextic K C) (root K C) (composed K (sextic K C) D E))
      stepped_valid = (step (composed K (sextic K C) D E) (composed_composes K L D E C hD hE)).3

      plus_is_sum : IsSum (plus K C D E)
      unfolding plus
      plus_is_sum = reduced-sum (composed K (sextic K C) D E) (composed_composes K L D E C hD hE)

      -- The sum is that of the theory, and valid;
      pub plus-sum : Sum H f V (mumford_of K L D) (mumford_of K L E) (mumford_of K L (plus K C D E))
      plus-sum = plus_is_sum.0

      pub plus_valid : Valid K C (plus K C D E)
      plus_valid = plus_is_sum.1

      -- and every sum in theory is the computed one.
      pub sum_is_plus : (S : mumford.Divisor (Listed K)) → Sum H f V (mumford_of K L D) (mumford_of K L E) S
          → S ≡ mumford_of K L (plus K C D E)
      sum_is_plus S h = A.sum_unique F H (curve K L C accepted) m_d m_e h plus-sum

      pub divisor_is_plus : (S : mumford.Divisor (Listed K)) → Sum H f V (mumford_of K L D) (mumford_of K L E) S
          → divisor_from K L C S ≡ plus K C D E
      divisor_is_plus S h =
          ap (divisor_from K L C) (sum_is_plus S h) ∙ from_mumford K L C (plus K C D E) plus_valid

    pub twice_valid : (D : Divisor) → Valid K C D → Valid K C (twice K C D)
    unfolding twice
    twice_valid D h = plus_valid D D h h
