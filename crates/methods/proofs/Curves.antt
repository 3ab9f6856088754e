-- The curve: f is a monic sextic, V the polynomial part of its square root, and an accepted f has no repeated factor.
use Rattle.std.proofs.Common.{◌≡◌, ℕ, ◌≤◌, true, List, [], ◌∷◌, length, sym, refl, ap, ◌∙◌, subst, arith}
use native.Mathlib.Decide.{dec_lt}
use Rattle.std.proofs.lemmas.Bool.Decides.{nat_tests}
use Rattle.std.proofs.lemmas.Bool.{eqb-true}
use Rattle.algebra.specs.Ring.{Ops, Laws}
use Rattle.algebra.specs.Divisibility.{Coprime}
use Rattle.algebra.specs.Polynomials as theory
use Rattle.algebra.specs.Polynomials.{Polynomials}
use Rattle.algebra.proofs.Reify.{by_facts, ◌⋆◌, terms}
use Rattle.algebra.proofs.Monic as M
use Rattle.fields.specs.Arithmetic.{Arithmetic}
use Rattle.fields.specs.Lawful.{Lawful}
use Rattle.fields.proofs.Codes.{Code, code_path, codes, codes_laws, field, zero-code, one_code}
use Rattle.polynomials.specs.Polynomial.{leading, derivative, gcd}
use Rattle.polynomials.specs.Proper.{Proper, Listed}
use Rattle.polynomials.specs.Ten.{code}
use Rattle.polynomials.proofs.Laws.{zero-times}
use Rattle.polynomials.proofs.Tens.{code_inside, value-at, value_proper}
use Rattle.polynomials.proofs.Listed.{polynomials}
use Rattle.polynomials.proofs.Presentation.{presentation}
use Rattle.polynomials.proofs.Operations.{difference_is, derivative_of, derivative_is}
use Rattle.polynomials.proofs.CommonDivisors.{gcd_of, first_of, second_of, gcd-combination, gcd-monic}
use Rattle.mumford.specs.Curve as mumford
use Rattle.methods.specs.declared.curve.Curve.{Curve}
use Rattle.methods.specs.Curves.{RootOf, sextic, half, root, coefficients_are_codes, smooth, Accepted}
use Rattle.methods.proofs.Values.{monic-value-length, monic-value-leading}
use Rattle.methods.proofs.SquareRoots.{Halved, halved_close}

-- What the check found where it accepts a curve.

pub accepted-codes : (K : Arithmetic) (C : Curve) → Accepted K C → coefficients_are_codes K C ≡ true
accepted-codes K C A = grind (arith, A)

pub accepted-smooth : (K : Arithmetic) (C : Curve) → Accepted K C → smooth K C ≡ true
accepted-smooth K C A = grind (arith, A)

doubled : {R : Type 0} {o : Ops R} → Laws o → (h : R) → o.mul (o.add o.unit o.unit) h ≡ o.unit → o.add h h ≡ o.unit
doubled {o = o} T h e = by_facts T (h ∷ []) (o.unit ⋆ e ∷ []) (search terms depth 60 fits 100000) refl

module _ (K : Arithmetic) (L : Lawful K) (C : Curve) where
  abbrev P : Ops (Listed K)
  P = polynomials K L

  abbrev H : Polynomials (codes K L) P
  H = presentation K L

  abbrev f_codes : List ℕ
  f_codes = C.f0 ∷ C.f1 ∷ C.f2 ∷ C.f3 ∷ C.f4 ∷ 0 ∷ 1 ∷ []

  abbrev V_codes : List ℕ
  V_codes = half K C C.f3 ∷ half K C C.f4 ∷ 0 ∷ 1 ∷ []

  -- f and V as polynomials.

  pub sextic_proper : Proper K (sextic K C)
  unfolding sextic
  sextic_proper = value_proper K L f_codes

  pub sextic-length : length (sextic K C) ≡ 7
  unfolding sextic
  sextic-length = monic-value-length K L f_codes 6 refl refl

  pub sextic-leading : leading (sextic K C) ≡ 1
  unfolding sextic
  sextic-leading = monic-value-leading K L f_codes 6 refl refl

  pub root_proper : Proper K (root K C)
  unfolding root
  root_proper = value_proper K L V_codes

  pub root-length : length (root K C) ≡ 4
  unfolding root
  root-length = monic-value-length K L V_codes 3 refl refl

  pub root-leading : leading (root K C) ≡ 1
  unfolding root
  root-leading = monic-value-leading K L V_codes 3 refl refl

  abbrev pub f_of : Listed K
  f_of = (sextic K C, sextic_proper)

  abbrev pub V_of : Listed K
  V_of = (root K C, root_proper)

  -- 1/2
  abbrev two : Code K.size
  two = (codes K L).add (codes K L).unit (codes K L).unit

  abbrev h : Code K.size
  h = (field K L).inverse two

  one : code K 1 ≡ 1
  one = code_inside K 1 (one_code K L)

  none : code K 0 ≡ 0
  none = code_inside K 0 (zero-code K L)

  halves : (a : ℕ) → code K (half K C a) ≡ K.times (code K a) (K.inverse (K.plus 1 1))
  halves a =
      let i = K.inverse (K.plus 1 1) in
      code_inside K (K.times a i) (L.products.answers_code a i)
      ∙ elim (dec_lt a K.size) [
        | yes l ↦ ap (λ x. K.times x i) (sym (code_inside K a l))
        | no l ↦
            L.products.outside_left a i (omega arith) ∙ sym (zero-times K L i) ∙ ap (λ x. K.times x i) (grind (arith, nat_tests))
      ]

  halved : Halved (field K L) H h f_of V_of
  unfolding sextic root codes field
  halved =
      record {
        halves = doubled (codes_laws K L) h ((field K L).inverse_ok two (field K L).two);
        f_size = omega (arith, sextic-length);
        f_6 = code_path (value-at K f_codes 6 ∙ one);
        f_5 = code_path (value-at K f_codes 5 ∙ none);
        V_size = omega (arith, root-length);
        V_3 = code_path (value-at K V_codes 3 ∙ one);
        V_2 = code_path (value-at K V_codes 2 ∙ none);
        V_1 = code_path (value-at K V_codes 1 ∙ halves C.f4 ∙ ap (λ x. K.times x h.0) (sym (value-at K f_codes 4)));
        V_0 = code_path (value-at K V_codes 0 ∙ halves C.f3 ∙ ap (λ x. K.times x h.0) (sym (value-at K f_codes 3)));
      }

  pub root_facts : RootOf K (sextic K C) (root K C)
  unfolding polynomials
  root_facts =
      record {
        cubic = root-length;
        monic = root-leading;
        close =
            subst (λ (p : Listed K). length p.0 ≤ 3) (sym (difference_is K L f_of (P.mul V_of V_of)))
            (halved_close (field K L) H halved);
      }

  module _ (A : Accepted K C) where
    separable : Coprime P f_of (theory.derivative H f_of)
    unfolding smooth
    separable =
        let f' = derivative_of K L f_of in
        let one = M.monic-constant (field K L) H (gcd_of K L f_of f') (gcd-monic K L f_of f' (omega (arith, sextic-length)))
        (omega (arith, eqb-true (length (gcd K (sextic K C) (derivative K (sextic K C))).divisor) 1 (accepted-smooth K C A)))
        in (
          first_of K L f_of f',
          second_of K L f_of f',
          ap (λ g. P.add (P.mul (first_of K L f_of f') f_of) (P.mul (second_of K L f_of f') g)) (sym (derivative_is K L f_of))
              ∙ sym (gcd-combination K L f_of f')
              ∙ one,
        )

    pub curve : mumford.Curve H f_of V_of
    curve = record { V_size = root-length; V_top = halved.V_3; close = halved_close (field K L) H halved; separable = separable }
