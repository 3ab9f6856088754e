-- The closed formulas of the sum: for valid divisors with u1 and u2 of degree 2, where r and 1 − s1² have inverses, they give
-- the sum.
use Rattle.std.proofs.Common.{◌≡◌, List, [], ◌∷◌, sym, refl, subst₂}
use mathlib.Core.Path.{subst₃}
use Rattle.algebra.specs.Ring.{Ops, Laws, sub}
use Rattle.algebra.specs.Field.{Field}
use Rattle.algebra.specs.Divisibility.{Congruent, Coprime}
use Rattle.algebra.specs.Polynomials.{Polynomials, constant, x}
use Rattle.algebra.specs.Rows.{row}
use Rattle.algebra.proofs.Expression.{Expr, var, times, one, syntax}
use Rattle.algebra.proofs.Reify.{by_facts, ◌⋆◌, terms}
use Rattle.algebra.proofs.PolynomialRing as A
use Rattle.algebra.proofs.Constants as N
use Rattle.mumford.specs.Divisors.{Valid}
use Rattle.mumford.specs.Addition.{Sum}
use Rattle.mumford.specs.ClosedForms.{Sextic, Quadratic, Fractions, sextic, divisor, line, line_by, lead, sum_a, sum_b, sum_fractions, sum_by}
use Rattle.mumford.proofs.ClosedQuotients as Q
use Rattle.mumford.proofs.ClosedQuotients.{letters}
use Rattle.mumford.proofs.ClosedReduction.{Reducing}
use Rattle.mumford.proofs.ClosedComposite as G
use Rattle.mumford.proofs.ClosedDivisors.{quadratic_from, lift, line_is, u_is, v_is}
use Rattle.mumford.proofs.ClosedStep as T

-- the equations of the reduction step
sum_reducing : {K : Type 0} {o : Ops K} → Laws o → (f : Sextic K) (D E : Quadratic K) (s1 s0 i : K) → o.mul (lead o s1) i ≡ o.unit
    → Reducing o f D E (sum_by o f D E (line o E s1 s0) i) (line o E s1 s0)
sum_reducing {K} {o} L f D E s1 s0 i inverse =
    let s = line o E s1 s0 in
    let n = sum_a o E s in
    record {
      at_5 = cancel (lead o s1) n D.a inverse;
      at_4 = cancel_both (lead o s1) (sum_b o f E s) D.b (o.mul D.a (sub o (o.mul n i) D.a)) inverse;
      c_is = refl;
      e_is = refl;
    }
  where
    cancel : (M n a : K) → o.mul M i ≡ o.unit → o.mul M (o.add (sub o (o.mul n i) a) a) ≡ n
    cancel M n a h = by_facts L (M ∷ n ∷ a ∷ i ∷ []) (n ⋆ h ∷ []) (search terms depth 60 fits 100000) refl

    cancel_both : (M n b c : K) → o.mul M i ≡ o.unit → o.mul M (o.add (o.add (sub o (sub o (o.mul n i) b) c) b) c) ≡ n
    cancel_both M n b c h = by_facts L (M ∷ n ∷ b ∷ c ∷ i ∷ []) (n ⋆ h ∷ []) (search terms depth 60 fits 100000) refl

module _ {K : Type 0} {o : Ops K} (F : Field o) {P : Type 0} {p : Ops P} (H : Polynomials o p) (D E : Quadratic K) (r⁻¹ : K)
    (inverse : o.mul (sum_fractions o D E).r r⁻¹ ≡ o.unit) where
  open sum_fractions o D E use {r, p as n1, o as n0}
  open line_by o E (sum_fractions o D E) r⁻¹ use {s1, s0}

  abbrev L : Laws p
  L = A.polynomial_laws F H

  -- r at the constants

  abbrev ρ : List K
  ρ = letters D (letters E (s1 ∷ s0 ∷ r⁻¹ ∷ []))

  abbrev fractions : Fractions Expr
  fractions = sum_fractions syntax (quadratic_from 0) (quadratic_from 4)

  inverse-constant : p.mul (sum_fractions p (lift H D) (lift H E)).r (constant H r⁻¹) ≡ p.unit
  inverse-constant = N.constant_equation F H ρ (times fractions.r (var 10)) one inverse

  coprime : Coprime p (divisor H D).u (divisor H E).u
  coprime =
      subst₂ (Coprime p) (sym (u_is F H D)) (sym (u_is F H E))
      (Q.coprime_by L (Q.sum-resultant L (x H) (lift H D) (lift H E)) inverse-constant)

  -- s is (v1 − v2)/u2 modulo u1
  multiplier : Congruent p (divisor H D).u (p.mul (row H (s0 ∷ s1 ∷ [])) (divisor H E).u) (sub p (divisor H D).v (divisor H E).v)
  multiplier =
      subst₃ (Congruent p) (sym (u_is F H D)) (sym (λ i. p.mul (line_is F H s1 s0 i) (u_is F H E i)))
      (sym (λ i. sub p (v_is F H D i) (v_is F H E i)))
      (Q.quotient_modulo L (Q.sum-resultant L (x H) (lift H D) (lift H E)) inverse-constant
      (Q.sum-numerator L (x H) (lift H D) (lift H E))
      (Q.fractions-line L (x H)
      (N.constant_equation F H ρ (times (var 8) fractions.r) fractions.p (Q.fraction F.laws n1 r r⁻¹ inverse))
      (N.constant_equation F H ρ (times (var 9) fractions.r) fractions.o (Q.fraction F.laws n0 r r⁻¹ inverse))))

  pub closed-sum : {V : P} (f : Sextic K) (i : K) → o.mul (lead o s1) i ≡ o.unit
      → Valid H (sextic H f) (divisor H D) → Valid H (sextic H f) (divisor H E)
      → Sum H (sextic H f) V (divisor H D) (divisor H E)
      (divisor H (sum_by o f D E (line_by o E (sum_fractions o D E) r⁻¹) i))
  closed-sum f i inverse' hD hE =
      T.closed-step F H D E s1 s0 f (sum_by o f D E (line o E s1 s0) i) (sum_reducing F.laws f D E s1 s0 i inverse') hD hE
      (G.sum-composed F H hD hE (row H (s0 ∷ s1 ∷ [])) (T.composite_smaller F H D E s1 s0) coprime multiplier)
