-- The reduction step of the closed formulas: where the composite of two divisors is [u1·u2; v2 + s·u2; −1], the u' and v' that
-- meet the equations of the formulas are those of the sum, and n' is 0.
use Rattle.std.proofs.Common.{◌≡◌, pred, ◌<◌, ◌≤◌, List, [], ◌∷◌, pos, ◌-ℤ◌, sym, refl, ap, ◌∙◌, arith}
use Rattle.algebra.specs.Ring.{Ops, Laws, sub}
use Rattle.algebra.specs.Field.{Field}
use Rattle.algebra.specs.Divisibility.{Divides, Congruent}
use Rattle.algebra.specs.Polynomials.{Polynomials, constant, x}
use Rattle.algebra.specs.Rows.{horner, row}
use Rattle.algebra.proofs.Elementary as Y
use Rattle.algebra.proofs.Expression.{Expr, var, plus, times, syntax}
use Rattle.algebra.proofs.Reify.{by_facts, ◌⋆◌, terms}
use Rattle.algebra.proofs.PolynomialRing as A
use Rattle.algebra.proofs.Size as Z
use Rattle.algebra.proofs.Constants as N
use Rattle.algebra.proofs.Rows as R
use Rattle.mumford.specs.Divisors.{Divisor, degree, Valid}
use Rattle.mumford.specs.Addition.{Composed, plain, Sum, reduced}
use Rattle.mumford.specs.ClosedForms.{Sextic, Quadratic, Line, sextic, divisor, lead, line, remaining, sum_a, sum_b}
use Rattle.mumford.proofs.Composed as C
use Rattle.mumford.proofs.ClosedQuotients.{u_at, v_at, letters}
use Rattle.mumford.proofs.ClosedReduction as T
use Rattle.mumford.proofs.ClosedReduction.{Reducing, below_4}
use Rattle.mumford.proofs.ClosedComposite.{combined}
use Rattle.mumford.proofs.ClosedDivisors.{quadratic_from, sextic_from, coefficients, lift, lift_sextic, line_is, u_is, v_is, f_is, size_u, monic-u, size_v}

-- [u1·u2; v2 + s·u2; −1]
abbrev pub composite : {K : Type 0} {o : Ops K} {P : Type 0} {p : Ops P} → Polynomials o p → (D E : Quadratic K) (s1 s0 : K) → Divisor P
composite {p = p} H D E s1 s0 = combined p (divisor H D) (divisor H E) (row H (s0 ∷ s1 ∷ []))

module _ {K : Type 0} {o : Ops K} (F : Field o) {P : Type 0} {p : Ops P} (H : Polynomials o p) (D E : Quadratic K) (s1 s0 : K) where
  infixl 75 ◌+◌ ◌-◌
  infixl 80 ◌·◌
  open p use {add as ◌+◌, mul as ◌·◌, neg, unit}
  open H use {size}
  open composite H D E s1 s0 use {u as u12, v as w}

  abbrev ◌-◌ : P → P → P
  ◌-◌ = sub p

  abbrev L : Laws p
  L = A.polynomial_laws F H

  size_composite-u : size u12 ≡ 5
  size_composite-u = Z.size_mul F H (divisor H D).u (divisor H E).u (size_u F H D) (size_u F H E)

  size_composite-v : size w ≤ 4
  size_composite-v =
      Z.size_add F H (divisor H E).v (row H (s0 ∷ s1 ∷ []) · (divisor H E).u) (omega (arith, size_v F H E))
      (Z.size_mul_most F H {m = 1} {n = 3} (row H (s0 ∷ s1 ∷ [])) (divisor H E).u (R.size_row F H (s0 ∷ s1 ∷ []))
      (omega (arith, size_u F H E)))

  pub composite_smaller : size w < size u12
  composite_smaller = omega (arith, size_composite-u, size_composite-v)

  w_is : w ≡ v_at p (x H) (lift H E) + horner p (x H) (constant H s0 ∷ constant H s1 ∷ []) · u_at p (x H) (lift H E)
  w_is = λ i. v_is F H E i + line_is F H s1 s0 i · u_is F H E i

  lead_is : constant H (lead o s1) ≡ lead p (constant H s1)
  lead_is = N.constant-eval F H (s1 ∷ []) (lead syntax (var 0))

  module _ (f : Sextic K) (S : Quadratic K) where
    -- The equations hold for the constants.

    abbrev ρ : List K
    ρ = letters D (letters E (letters S (s1 ∷ s0 ∷ coefficients f)))

    abbrev D' : Quadratic Expr
    D' = quadratic_from 0

    abbrev E' : Quadratic Expr
    E' = quadratic_from 4

    abbrev S' : Quadratic Expr
    S' = quadratic_from 8

    abbrev line' : Line Expr
    line' = line syntax E' (var 12) (var 13)

    abbrev f' : Sextic Expr
    f' = sextic_from 14

    module _ (h : Reducing o f D E S (line o E s1 s0)) where
      lifted : Reducing p (lift_sextic H f) (lift H D) (lift H E) (lift H S) (line p (lift H E) (constant H s1) (constant H s0))
      lifted =
          record {
            at_5 =
                N.constant_equation F H ρ (times (lead syntax (var 12)) (plus S'.a D'.a)) (sum_a syntax E' line') h.at_5;
            at_4 =
                N.constant_equation F H ρ
                (times (lead syntax (var 12)) (plus (plus S'.b D'.b) (times D'.a S'.a)))
                (sum_b syntax f' E' line') h.at_4;
            c_is = N.constant_equation F H ρ S'.c (remaining syntax E' line' S'.a S'.b).c h.c_is;
            e_is = N.constant_equation F H ρ S'.e (remaining syntax E' line' S'.a S'.b).e h.e_is;
          }

      -- f − w² is u1·u2·(1 − s1²)·u' up to a remainder of a smaller degree ..
      up_to_remainder : sextic H f - w · w - u12 · (constant H (lead o s1) · (divisor H S).u)
          ≡ row H (below_4 o f D E S (line o E s1 s0))
      up_to_remainder =
          (λ i. f_is F H f i - w_is i · w_is i - u_is F H D i · u_is F H E i · (lead_is i · u_is F H S i))
          ∙ T.above_4 p L (x H) lifted
          ∙ sym (R.row-eval F H ρ (below_4 syntax f' D' E' S' line'))

      -- .. which is 0, since u1·u2 divides f − w².
      factored : Divides p u12 (sextic H f - w · w) → sextic H f - w · w ≡ u12 · (constant H (lead o s1) · (divisor H S).u)
      factored (t, e) =
          Y.eq_of_sub p L (sextic H f - w · w) (u12 · q)
          (Z.divides_small F H (t - q, divides (sextic H f - w · w) u12 q e)
          (omega (arith, ap size up_to_remainder, R.size_row F H (below_4 o f D E S (line o E s1 s0)), size_composite-u)))
        where
          q : P
          q = constant H (lead o s1) · (divisor H S).u

          divides : (a u k : P) → a ≡ u · t → a - u · k ≡ u · (t - k)
          divides a u k h = by_facts L (a ∷ u ∷ k ∷ t ∷ []) (unit ⋆ h ∷ []) (search terms depth 60 fits 100000) refl

      remainder : Congruent p (divisor H S).u (divisor H S).v (neg w)
      remainder =
          let κ = constant H in
          let t = κ s1 · x H - (κ s1 · κ S.a - (line p (lift H E) (κ s1) (κ s0)).L2) in (
            t,
            (λ i. v_is F H S i - neg (w_is i)) ∙ T.remainder_is p L (x H) lifted ∙ ap (λ u. u · t) (sym (u_is F H S)),
          )

      pub closed-step : {V : P} → Valid H (sextic H f) (divisor H D) → Valid H (sextic H f) (divisor H E)
          → Composed H (sextic H f) (divisor H D) (divisor H E) (composite H D E s1 s0)
          → Sum H (sextic H f) V (divisor H D) (divisor H E) (divisor H S)
      closed-step hD hE c =
          reduced c (λ r. omega (arith, r.u_most, size_composite-u)) (plain size_composite-u)
          record {
            monic = monic-u F H S;
            κ = lead o s1;
            u_is = factored (C.composed_represents F H hD hE c);
            v_is = record { congruent = remainder; smaller = omega (arith, size_v F H S, size_u F H S) };
            n_opposite = λ _. ap (λ n. pos 2 -ℤ pos n) two;
            n_other = λ _. refl;
          }
        where
          two : 2 ≡ degree size (divisor H S).u
          two = sym (ap pred (size_u F H S))
