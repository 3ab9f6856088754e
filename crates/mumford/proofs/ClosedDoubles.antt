-- The closed formulas of the double: for a valid divisor with u of degree 2, where r and 1 − s1² have inverses, they give the
-- sum of the divisor with itself.
use Rattle.std.proofs.Common.{◌≡◌, List, [], ◌∷◌, sym, refl, subst₂}
use mathlib.Core.Path.{subst₃}
use Rattle.algebra.specs.Ring.{Ops, Laws, sub}
use Rattle.algebra.specs.Field.{Field}
use Rattle.algebra.specs.Divisibility.{Congruent, Coprime}
use Rattle.algebra.specs.Polynomials.{Polynomials, constant, x}
use Rattle.algebra.specs.Rows.{row}
use Rattle.algebra.proofs.Expression.{Expr, var, times, one, syntax}
use Rattle.algebra.proofs.Reify.{by_facts, ◌⋆◌, terms}
use Rattle.algebra.proofs.PolynomialRing as A
use Rattle.algebra.proofs.Constants as N
use Rattle.mumford.specs.Divisors.{Valid}
use Rattle.mumford.specs.Addition.{Sum}
use Rattle.mumford.specs.ClosedForms.{Sextic, Quadratic, Fractions, Second, sextic, divisor, line, line_by, lead, quotient, twice_divided, double_a, double_b, double_fractions, double_by}
use Rattle.mumford.proofs.ClosedQuotients as Q
use Rattle.mumford.proofs.ClosedQuotients.{letters}
use Rattle.mumford.proofs.ClosedReduction.{Reducing}
use Rattle.mumford.proofs.ClosedComposite as G
use Rattle.mumford.proofs.ClosedDivisors.{quadratic_from, sextic_from, coefficients, lift, lift_sextic, line_is, u_is, v_is}
use Rattle.mumford.proofs.ClosedStep as T
use Rattle.mumford.proofs.ClosedValidity as V

-- The equations of the reduction step: they are those of a sum of D with D.
double_reducing : {K : Type 0} {o : Ops K} → Laws o → (f : Sextic K) (D : Quadratic K) (s1 s0 i : K) → o.mul (lead o s1) i ≡ o.unit
    → Reducing o f D D (double_by o D (twice_divided o f D) (line o D s1 s0) i) (line o D s1 s0)
double_reducing {K} {o} L f D s1 s0 i inverse =
    let s = line o D s1 s0 in
    let m = double_a o D s in
    let n = double_b o D (twice_divided o f D) s in
    let ρ = letters D (s1 ∷ s0 ∷ i ∷ f.f4 ∷ []) in
    record {
      at_5 = by_facts L ρ (m ⋆ inverse ∷ []) (search terms depth 60 fits 100000) refl;
      at_4 = by_facts L ρ (o.add n (o.mul D.a m) ⋆ inverse ∷ []) (search terms depth 60 fits 100000) refl;
      c_is = refl;
      e_is = refl;
    }

module _ {K : Type 0} {o : Ops K} (F : Field o) {P : Type 0} {p : Ops P} (H : Polynomials o p) (f : Sextic K) (D : Quadratic K) (r⁻¹ : K)
    (inverse : o.mul (double_fractions o D (twice_divided o f D)).r r⁻¹ ≡ o.unit) where
  open p use {add as ◌+◌, mul as ◌·◌, neg, unit}

  infixl 75 ◌+◌
  infixl 80 ◌·◌
  open double_fractions o D (twice_divided o f D) use {r, p as n1, o as n0}
  open line_by o D (double_fractions o D (twice_divided o f D)) r⁻¹ use {s1, s0}

  abbrev L : Laws p
  L = A.polynomial_laws F H

  -- r at the constants

  abbrev ρ : List K
  ρ = letters D (s1 ∷ s0 ∷ r⁻¹ ∷ coefficients f)

  abbrev fractions : Fractions Expr
  fractions = double_fractions syntax (quadratic_from 0) (twice_divided syntax (sextic_from 7) (quadratic_from 0))

  abbrev divided : Second P
  divided = twice_divided p (lift_sextic H f) (lift H D)

  inverse-constant : (double_fractions p (lift H D) divided).r · constant H r⁻¹ ≡ unit
  inverse-constant = N.constant_equation F H ρ (times fractions.r (var 6)) one inverse

  coprime : Coprime p (divisor H D).u ((divisor H D).v + (divisor H D).v)
  coprime =
      subst₂ (Coprime p) (sym (u_is F H D)) (sym (λ i. v_is F H D i + v_is F H D i))
      (Q.coprime_by L (Q.double-resultant L (x H) (lift H D) divided) inverse-constant)

  -- s is ((f − v²)/u)/(2·v) modulo u
  multiplier : Congruent p (divisor H D).u (row H (s0 ∷ s1 ∷ []) · ((divisor H D).v + (divisor H D).v)) (V.quotient_row F H f D)
  multiplier =
      subst₃ (Congruent p) (sym (u_is F H D)) (sym (λ i. line_is F H s1 s0 i · (v_is F H D i + v_is F H D i)))
      (sym (V.quotient_row_is F H f D))
      (further (Q.second_is L (x H) (lift H D) (quotient p (lift_sextic H f) (lift H D)))
      (Q.quotient_modulo L (Q.double-resultant L (x H) (lift H D) divided) inverse-constant
      (Q.double-numerator L (x H) (lift H D) divided)
      (Q.fractions-line L (x H)
      (N.constant_equation F H ρ (times (var 4) fractions.r) fractions.p (Q.fraction F.laws n1 r r⁻¹ inverse))
      (N.constant_equation F H ρ (times (var 5) fractions.r) fractions.o (Q.fraction F.laws n0 r r⁻¹ inverse)))))
    where
      further : {u q a b c : P} → c ≡ u · q + b → Congruent p u a b → Congruent p u a c
      further {u} {q} {a} {b} {c} h (t, e) = (
        sub p t q,
        by_facts L (u ∷ q ∷ a ∷ b ∷ c ∷ t ∷ []) (neg unit ⋆ h ∷ unit ⋆ e ∷ []) (search terms depth 60 fits 100000) refl,
      )

  pub closed-double : {V : P} (i : K) → o.mul (lead o s1) i ≡ o.unit → Valid H (sextic H f) (divisor H D)
      → Sum H (sextic H f) V (divisor H D) (divisor H D)
      (divisor H
      (double_by o D (twice_divided o f D) (line_by o D (double_fractions o D (twice_divided o f D)) r⁻¹) i))
  closed-double i inverse' h =
      T.closed-step F H D D s1 s0 f (double_by o D (twice_divided o f D) (line o D s1 s0) i)
      (double_reducing F.laws f D s1 s0 i inverse') h h
      (G.double-composed F H h (row H (s0 ∷ s1 ∷ [])) (T.composite_smaller F H D D s1 s0) coprime (V.quotient_row F H f D)
      (V.quotient-exact F H f D h.represents) multiplier)
