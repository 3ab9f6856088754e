-- The division of f − v² by u = x² + a·x + b in closed form: u divides f − v² where both coefficients m and l of the remainder
-- are 0, and only there; and then the quotient is x⁴ − a·x³ + k·x² + h·x + j.
use Rattle.std.proofs.Common.{◌≡◌, ℕ, zero, suc, pred, [], ◌∷◌, get_or, sym, refl, ap, ◌∙◌, arith}
use Rattle.std.proofs.lemmas.Int.{ints}
use Rattle.algebra.specs.Ring.{Ops, Laws, sub}
use Rattle.algebra.specs.Field.{Field}
use Rattle.algebra.specs.Polynomials.{Polynomials, constant, x}
use Rattle.algebra.specs.Rows.{row}
use Rattle.algebra.proofs.Expression.{var, syntax}
use Rattle.algebra.proofs.Reify.{by_facts, ◌⋆◌, terms}
use Rattle.algebra.proofs.PolynomialRing as A
use Rattle.algebra.proofs.Size as Z
use Rattle.algebra.proofs.Rows as R
use Rattle.mumford.specs.Functions.{Represents}
use Rattle.mumford.specs.Divisors.{Valid}
use Rattle.mumford.specs.ClosedForms.{Sextic, Quadratic, sextic, divisor, quotient}
use Rattle.mumford.proofs.ClosedQuotients as Q
use Rattle.mumford.proofs.ClosedQuotients.{Q_at, letters}
use Rattle.mumford.proofs.ClosedDivisors.{quadratic_from, sextic_from, coefficients, lift, lift_sextic, u_is, v_is, f_is, size_u, monic-u, size_v}

module _ {K : Type 0} {o : Ops K} (F : Field o) {P : Type 0} {p : Ops P} (H : Polynomials o p) (f : Sextic K) (D : Quadratic K) where
  infixl 75 ◌+◌ ◌-◌
  infixl 80 ◌·◌
  open p use {add as ◌+◌, mul as ◌·◌, neg, nil, unit}
  open H use {size}
  open quotient o f D use {k, h, j, m, l}

  abbrev ◌-◌ : P → P → P
  ◌-◌ = sub p

  abbrev L : Laws p
  L = A.polynomial_laws F H

  abbrev u : P
  u = (divisor H D).u

  abbrev v : P
  v = (divisor H D).v

  -- x⁴ − a·x³ + k·x² + h·x + j
  abbrev pub quotient_row : P
  quotient_row = row H (j ∷ h ∷ k ∷ o.neg D.a ∷ o.unit ∷ [])

  abbrev rest : P
  rest = row H (l ∷ m ∷ [])

  pub quotient_row_is : quotient_row ≡ Q_at p (x H) (constant H D.a) (quotient p (lift_sextic H f) (lift H D))
  quotient_row_is =
      let q = quotient syntax (sextic_from 4) (quadratic_from 0) in
      R.row-eval F H (letters D (coefficients f)) (q.j ∷ q.h ∷ q.k ∷ syntax.neg (var 0) ∷ syntax.unit ∷ [])

  divided : sextic H f - v · v ≡ u · quotient_row + rest
  divided =
      let q = quotient syntax (sextic_from 4) (quadratic_from 0) in
      (λ i. f_is F H f i - v_is F H D i · v_is F H D i)
      ∙ Q.quotient_is L (x H) (lift H D) (lift_sextic H f)
      ∙ sym (λ i. u_is F H D i · quotient_row_is i + R.row-eval F H (letters D (coefficients f)) (q.l ∷ q.m ∷ []) i)

  rest_nil : Represents p (sextic H f) u v → rest ≡ nil
  rest_nil (t, e) =
      Z.divides_small F H (t - quotient_row, left (sextic H f - v · v) u quotient_row rest divided e)
      (omega (arith, R.size_row F H (l ∷ m ∷ []), size_u F H D))
    where
      left : (a u q r : P) → a ≡ u · q + r → a ≡ u · t → r ≡ u · (t - q)
      left a u q r h h' =
          by_facts L (a ∷ u ∷ q ∷ r ∷ t ∷ []) (neg unit ⋆ h ∷ unit ⋆ h' ∷ []) (search terms depth 60 fits 100000) refl

  -- where nothing is left
  exact : rest ≡ nil → sextic H f - v · v ≡ u · quotient_row
  exact e = divided ∙ ap (λ r. u · quotient_row + r) e ∙ L.add_nil (u · quotient_row)

  pub quotient-exact : Represents p (sextic H f) u v → sextic H f - v · v ≡ u · quotient_row
  quotient-exact h = exact (rest_nil h)

  represents_only : Represents p (sextic H f) u v → (m ≡ o.nil) × (l ≡ o.nil)
  represents_only h = (at 1, at 0)
    where
      at : (n : ℕ) → get_or (l ∷ m ∷ []) n o.nil ≡ o.nil
      at n = sym (R.row_at F H (l ∷ m ∷ []) n) ∙ ap (λ r. H.coefficient r n) (rest_nil h) ∙ A.nil_at F H n

  represents_by : m ≡ o.nil → l ≡ o.nil → Represents p (sextic H f) u v
  represents_by em el = (quotient_row, exact none)
    where
      at : (n : ℕ) → get_or (o.nil ∷ o.nil ∷ []) n o.nil ≡ o.nil
      at zero = refl
      at (suc zero) = refl
      at (suc (suc n)) = refl

      none : rest ≡ nil
      none = (λ i. row H (el i ∷ em i ∷ [])) ∙ sym (R.row_same F H nil (o.nil ∷ o.nil ∷ []) λ n. A.nil_at F H n ∙ sym (at n))

  -- So these are the valid ones among the divisors [x² + a·x + b; c·x + e; 0].

  pub valid_only : Valid H (sextic H f) (divisor H D) → (m ≡ o.nil) × (l ≡ o.nil)
  valid_only h = represents_only h.represents

  pub valid_by : m ≡ o.nil → l ≡ o.nil → Valid H (sextic H f) (divisor H D)
  valid_by em el =
      let three = size_u F H D in
      record {
        monic = monic-u F H D;
        smaller = omega (arith, size_v F H D);
        range = record { u_most = omega arith; n_least = omega (arith, ints); n_most = omega (arith, ints, ap pred three) };
        represents = represents_by em el;
      }
