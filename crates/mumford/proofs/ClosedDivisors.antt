-- The divisors [x² + a·x + b; c·x + e; 0] and the sextic of the closed formulas: their sizes, and their polynomials as the
-- expressions in x and in constants that the ring identities speak of.
use Rattle.std.proofs.Common.{◌≡◌, ℕ, suc, ◌≤◌, List, [], ◌∷◌, refl}
use Rattle.algebra.specs.Ring.{Ops}
use Rattle.algebra.specs.Field.{Field}
use Rattle.algebra.specs.Polynomials.{Polynomials, constant, x, Monic}
use Rattle.algebra.specs.Rows.{horner, row}
use Rattle.algebra.proofs.Expression.{Expr, var, syntax}
use Rattle.algebra.proofs.Rows as R
use Rattle.mumford.specs.ClosedForms.{Sextic, Quadratic, sextic, divisor}
use Rattle.mumford.proofs.ClosedQuotients.{u_at, v_at, f_at}

-- the letters of the formulas as variables of the solver
abbrev pub quadratic_from : ℕ → Quadratic Expr
quadratic_from n = record { a = var n; b = var (suc n); c = var (suc (suc n)); e = var (suc (suc (suc n))) }

abbrev pub sextic_from : ℕ → Sextic Expr
sextic_from n =
    record {
      f4 = var n;
      f3 = var (suc n);
      f2 = var (suc (suc n));
      f1 = var (suc (suc (suc n)));
      f0 = var (suc (suc (suc (suc n))));
    }

abbrev pub coefficients : {C : Type 0} → Sextic C → List C
coefficients f = f.f4 ∷ f.f3 ∷ f.f2 ∷ f.f1 ∷ f.f0 ∷ []

module _ {K : Type 0} {o : Ops K} {P : Type 0} {p : Ops P} (H : Polynomials o p) where
  -- coefficients as constants
  abbrev pub lift : Quadratic K → Quadratic P
  lift D = record { a = constant H D.a; b = constant H D.b; c = constant H D.c; e = constant H D.e }

  abbrev pub lift_sextic : Sextic K → Sextic P
  lift_sextic f =
      record {
        f4 = constant H f.f4;
        f3 = constant H f.f3;
        f2 = constant H f.f2;
        f1 = constant H f.f1;
        f0 = constant H f.f0;
      }

module _ {K : Type 0} {o : Ops K} (F : Field o) {P : Type 0} {p : Ops P} (H : Polynomials o p) where
  pub u_is : (D : Quadratic K) → (divisor H D).u ≡ u_at p (x H) (lift H D)
  u_is D = R.row-eval F H (D.a ∷ D.b ∷ []) (var 1 ∷ var 0 ∷ syntax.unit ∷ [])

  -- c·x + e
  pub line_is : (c e : K) → row H (e ∷ c ∷ []) ≡ horner p (x H) (constant H e ∷ constant H c ∷ [])
  line_is c e = R.row-eval F H (e ∷ c ∷ []) (var 0 ∷ var 1 ∷ [])

  pub v_is : (D : Quadratic K) → (divisor H D).v ≡ v_at p (x H) (lift H D)
  v_is D = line_is D.c D.e

  pub f_is : (f : Sextic K) → sextic H f ≡ f_at p (x H) (lift_sextic H f)
  unfolding sextic
  f_is f =
      R.row-eval F H (coefficients f) (var 4 ∷ var 3 ∷ var 2 ∷ var 1 ∷ var 0 ∷ syntax.nil ∷ syntax.unit ∷ [])

  pub size_u : (D : Quadratic K) → H.size (divisor H D).u ≡ 3
  size_u D = R.size_row-monic F H (D.b ∷ D.a ∷ o.unit ∷ []) refl refl

  pub monic-u : (D : Quadratic K) → Monic H (divisor H D).u
  monic-u D = R.row-monic F H (D.b ∷ D.a ∷ o.unit ∷ []) refl refl

  pub size_v : (D : Quadratic K) → H.size (divisor H D).v ≤ 2
  size_v D = R.size_row F H (D.e ∷ D.c ∷ [])
