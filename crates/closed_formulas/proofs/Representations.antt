-- Divisors of degree 2 and curves by the letters of the formulas: their Mumford representations over the codes of a field.
use Rattle.std.proofs.Common.{◌≡◌, ℕ, ◌<◌, List, [], ◌∷◌, map, get_or, pos, refl, ap, ◌∙◌, arith}
use lib.ListN.{get_or-map}
use Rattle.std.proofs.lemmas.Bool.Decides.{nat_tests}
use Rattle.algebra.specs.Ring.{Ops}
use Rattle.algebra.specs.Polynomials.{Polynomials}
use Rattle.algebra.specs.Rows.{row}
use Rattle.algebra.proofs.Rows as R
use Rattle.fields.specs.Arithmetic.{Arithmetic}
use Rattle.fields.specs.Lawful.{Lawful}
use Rattle.fields.proofs.Codes.{Code, code_path, codes, field}
use Rattle.polynomials.specs.Proper.{Listed}
use Rattle.polynomials.specs.Ten.{code, value}
use Rattle.polynomials.proofs.Tens.{code_inside, value-at}
use Rattle.polynomials.proofs.Listed.{polynomials}
use Rattle.polynomials.proofs.Presentation.{presentation}
use Rattle.mumford.specs.ClosedForms.{Sextic, Quadratic, sextic, divisor}
use Rattle.methods.specs.declared.curve.Curve.{Curve}
use Rattle.methods.specs.declared.divisor.Divisor.{Divisor}
use Rattle.methods.specs.Curves as curves
use Rattle.methods.specs.Curves.{Accepted}
use Rattle.methods.proofs.Curves.{accepted-codes, f_of}
use Rattle.methods.specs.Divisors.{u_of, v_of}
use Rattle.methods.proofs.Shapes.{Shaped}
use Rattle.methods.proofs.Representations.{u_listed, v_listed, mumford_of}
use Rattle.closed_formulas.specs.Formulas.{quadratic}

-- the numbers of codes
abbrev pub numbers : {q : ℕ} → Quadratic (Code q) → Quadratic ℕ
numbers S = record { a = S.a.0; b = S.b.0; c = S.c.0; e = S.e.0 }

module _ (K : Arithmetic) (L : Lawful K) where
  abbrev P : Ops (Listed K)
  P = polynomials K L

  abbrev H : Polynomials (codes K L) P
  H = presentation K L

  abbrev number : Code K.size → ℕ
  number c = c.0

  number_at : (l : List (Code K.size)) (k : ℕ) → get_or (map number l) k 0 ≡ number (get_or l k (codes K L).nil)
  unfolding codes
  number_at l k = get_or-map number l k (codes K L).nil

  -- the polynomial that codes stand for
  value_row : (a : Listed K) (l : List (Code K.size)) → a.0 ≡ value K (map number l) → a ≡ row H l
  value_row a l e =
      R.row_same (field K L) H a l λ k.
      let c = get_or l k (codes K L).nil in
      code_path (ap (λ p. get_or p k 0) e
      ∙ value-at K (map number l) k
      ∙ ap (code K) (number_at l k)
      ∙ code_inside K (number c) c.1)

  -- [x² + a·x + b; c·x + e; 0], for codes a, b, c and e
  abbrev pub of_codes : Quadratic (Code K.size) → Divisor
  of_codes S = quadratic (numbers S)

  pub of_codes-shaped : (S : Quadratic (Code K.size)) → Shaped K L (of_codes S)
  of_codes-shaped S =
      record {
        degree_most = omega arith;
        n_most = omega arith;
        u_unused = refl;
        v_unused = refl;
        u_codes = record { code_1 = S.a.1; code_0 = S.b.1 };
        v_codes = record { code_1 = S.c.1; code_0 = S.e.1 };
      }

  pub of_codes_mumford : (S : Quadratic (Code K.size)) → mumford_of K L (of_codes S) ≡ divisor H S
  unfolding u_of v_of codes
  of_codes_mumford S = λ i.
      record {
        u = value_row (u_listed K L (of_codes S)) (S.b ∷ S.a ∷ (codes K L).unit ∷ []) refl i;
        v = value_row (v_listed K L (of_codes S)) (S.e ∷ S.c ∷ []) refl i;
        n = pos 0;
      }

  -- f, for codes f4 to f0

  pub record Coded (C : Curve) : Type 0 where
    pub code_4 : C.f4 < K.size
    pub code_3 : C.f3 < K.size
    pub code_2 : C.f2 < K.size
    pub code_1 : C.f1 < K.size
    pub code_0 : C.f0 < K.size

  pub accepted_coded : (C : Curve) → Accepted K C → Coded C
  accepted_coded C accepted =
      let h = accepted-codes K C accepted in
      record {
        code_4 = grind (arith, nat_tests, h);
        code_3 = grind (arith, nat_tests, h);
        code_2 = grind (arith, nat_tests, h);
        code_1 = grind (arith, nat_tests, h);
        code_0 = grind (arith, nat_tests, h);
      }

  abbrev pub sextic_codes : {C : Curve} → Coded C → Sextic (Code K.size)
  sextic_codes {C} h =
      record { f4 = (C.f4, h.code_4); f3 = (C.f3, h.code_3); f2 = (C.f2, h.code_2); f1 = (C.f1, h.code_1); f0 = (C.f0, h.code_0) }

  pub sextic_codes_is : {C : Curve} (h : Coded C) → f_of K L C ≡ sextic H (sextic_codes h)
  unfolding curves.sextic sextic codes
  sextic_codes_is {C} h =
      let f = sextic_codes h in
      value_row (f_of K L C) (f.f0 ∷ f.f1 ∷ f.f2 ∷ f.f3 ∷ f.f4 ∷ (codes K L).nil ∷ (codes K L).unit ∷ []) refl
