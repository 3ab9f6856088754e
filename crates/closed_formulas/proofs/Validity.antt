-- Which divisors of degree 2 are valid, by their letters: those for which f − v² divided by u leaves nothing.
use Rattle.std.proofs.Common.{◌≡◌, ℕ, Bool, true, false, ◌&&◌, eqb, Ok, Err, Result, sym, refl, ap, ◌∙◌, subst, subst₂, arith}
use Rattle.std.proofs.lemmas.Bool.{and_from, and_parts, eqb-true, eq-eqb, false≢true}
use Rattle.std.proofs.lemmas.Bool.Decides.{nat_tests, same_from_decides}
use Rattle.algebra.specs.Field.{Field}
use Rattle.algebra.specs.Polynomials.{Polynomials}
use Rattle.fields.specs.Arithmetic.{Arithmetic}
use Rattle.fields.specs.Lawful.{Lawful}
use Rattle.fields.proofs.Codes.{Code, code_path, codes, field}
use Rattle.polynomials.proofs.Listed.{polynomials}
use Rattle.polynomials.proofs.Presentation.{presentation}
use Rattle.mumford.specs.Divisors as mumford
use Rattle.mumford.specs.ClosedForms.{Sextic, Quadratic, Quotient, sextic, divisor, quotient}
use Rattle.mumford.proofs.ClosedValidity as V
use Rattle.methods.specs.declared.curve.Curve.{Curve}
use Rattle.methods.specs.declared.divisor.Divisor.{Divisor}
use Rattle.methods.specs.declared.divisor.DivisorRefusal.{DivisorRefusal}
use Rattle.methods.specs.Divisors.{entered, Valid}
use Rattle.methods.proofs.Shapes.{divisor_of-polynomials}
use Rattle.methods.proofs.Representations.{valid_shaped, valid_mumford, divisor_from, from_valid}
use Rattle.methods.proofs.Entry.{accepted_valid}
use Rattle.closed_formulas.specs.Formulas.{operations, sextic_letters, letters, exact, accepted, has_letters, of_degree_2}
use Rattle.closed_formulas.proofs.Representations.{numbers, Coded, of_codes, of_codes-shaped, of_codes_mumford, sextic_codes, sextic_codes_is}

module _ (K : Arithmetic) (L : Lawful K) {C : Curve} (h : Coded K L C) where
  abbrev F : Field (codes K L)
  F = field K L

  abbrev H : Polynomials (codes K L) (polynomials K L)
  H = presentation K L

  abbrev f : Sextic (Code K.size)
  f = sextic_codes K L h

  -- Divisors that are valid in theory are valid, and the other way round.

  pub of_codes_valid : (S : Quadratic (Code K.size)) → Valid K C (of_codes K L S) → mumford.Valid H (sextic H f) (divisor H S)
  of_codes_valid S v =
      subst₂ (mumford.Valid H) (sextic_codes_is K L h) (of_codes_mumford K L S) (valid_mumford K L C (of_codes K L S) v)

  -- a divisor of codes is that of its polynomials
  pub from_codes : (S : Quadratic (Code K.size)) → divisor_from K L C (divisor H S) ≡ of_codes K L S
  from_codes S =
      ap (divisor_from K L C) (sym (of_codes_mumford K L S)) ∙ divisor_of-polynomials K L (of_codes K L S) (of_codes-shaped K L S)

  valid_of_codes : (S : Quadratic (Code K.size)) → mumford.Valid H (sextic H f) (divisor H S) → Valid K C (of_codes K L S)
  valid_of_codes S v =
      subst (Valid K C) (from_codes S)
      (from_valid K L C (divisor H S) (subst (λ g. mumford.Valid H g (divisor H S)) (sym (sextic_codes_is K L h)) v))

  -- what is left of f − v² divided by u
  module _ (S : Quadratic (Code K.size)) where
    open quotient (codes K L) f S use {m, l}

    pub valid_exact : Valid K C (of_codes K L S) → (m ≡ (codes K L).nil) × (l ≡ (codes K L).nil)
    valid_exact v = V.valid_only F H f S (of_codes_valid S v)

    pub exact_valid : m ≡ (codes K L).nil → l ≡ (codes K L).nil → Valid K C (of_codes K L S)
    exact_valid em el = valid_of_codes S (V.valid_by F H f S em el)

  -- A divisor with letters is one of codes.

  pub record Lettered (D : Divisor) : Type 0 where
    pub S : Quadratic (Code K.size)
    pub is : D ≡ of_codes K L S

  has_letters_tells : (D : Divisor) → has_letters K D ≡ true → Lettered D
  has_letters_tells D e =
      let two : D.degree ≡ 2 = grind (arith, nat_tests) in
      let none : D.n ≡ 0 = grind (arith, nat_tests) in
      record {
        S =
            record {
              a = (D.u.x1, grind (arith, nat_tests));
              b = (D.u.x0, grind (arith, nat_tests));
              c = (D.v.x1, grind (arith, nat_tests));
              e = (D.v.x0, grind (arith, nat_tests));
            };
        is = λ i. record { degree = two i; u = D.u; v = D.v; n = none i };
      }

  valid_letters : (D : Divisor) → Valid K C D → D.degree ≡ 2 → has_letters K D ≡ true
  valid_letters D v two =
      let s = valid_shaped K L C D v in
      let none : D.n ≡ 0 = omega (arith, s.n_most) in
      let a = s.u_codes.code_1 in
      let b = s.u_codes.code_0 in
      let c = s.v_codes.code_1 in
      let e = s.v_codes.code_0 in
      grind (arith, nat_tests)

  -- the remainder by numbers and by codes
  exact_tells : (S : Quadratic (Code K.size)) → exact (quotient (operations K) (sextic_letters C) (numbers S)) ≡ true
      → Valid K C (of_codes K L S)
  unfolding codes
  exact_tells S e = exact_valid S (code_path (grind (arith, nat_tests))) (code_path (grind (arith, nat_tests)))

  tells_exact : (S : Quadratic (Code K.size)) → Valid K C (of_codes K L S)
      → exact (quotient (operations K) (sextic_letters C) (numbers S)) ≡ true
  unfolding codes
  tells_exact S v =
      let (em, el) = valid_exact S v in
      let dm = ap (λ (c : Code K.size). c.0) em in
      let dl = ap (λ (c : Code K.size). c.0) el in
      grind (arith, nat_tests)

  -- The test of the letters and of the remainder finds the valid divisors of degree 2.
  module _ (D : Divisor) where
    abbrev left_over : Bool
    left_over = exact (quotient (operations K) (sextic_letters C) (letters D))

    abbrev Found : Type 0
    Found = Valid K C D × (D.degree ≡ 2)

    test_tells : (has_letters K D && left_over) ≡ true → Found
    test_tells e =
        let (one, other) = and_parts (has_letters K D) left_over e in
        let k = has_letters_tells D one in (
          subst (Valid K C) (sym k.is)
              (exact_tells k.S (subst (λ E. exact (quotient (operations K) (sextic_letters C) (letters E)) ≡ true) k.is other)),
          ap (λ (E : Divisor). E.degree) k.is,
        )

    tells_test : Found → (has_letters K D && left_over) ≡ true
    tells_test (v, two) =
        let one = valid_letters D v two in
        let k = has_letters_tells D one in
        and_from (has_letters K D) left_over one
        (subst (λ E. exact (quotient (operations K) (sextic_letters C) (letters E)) ≡ true) (sym k.is)
        (tells_exact k.S (subst (Valid K C) k.is v)))

    accepted_tells : accepted (entered K C D) ≡ true → Valid K C D
    accepted_tells e = by (entered K C D) refl e
      where
        by : (r : Result Divisor DivisorRefusal) → r ≡ entered K C D → accepted r ≡ true → Valid K C D
        by (Ok E) k t = accepted_valid K C D E k
        by (Err x) k t = absurd (false≢true t)

    of_degree_2_tells : of_degree_2 K C D ≡ true → Found
    of_degree_2_tells e =
        let (one, other) = and_parts (accepted (entered K C D)) (eqb D.degree 2) e in
        (accepted_tells one, eqb-true D.degree 2 other)

    tells_of_degree_2 : Found → of_degree_2 K C D ≡ true
    tells_of_degree_2 (v, two) =
        and_from (accepted (entered K C D)) (eqb D.degree 2) (ap accepted v) (eq-eqb D.degree 2 two)

    pub of_degree_2_valid : of_degree_2 K C D ≡ true → Valid K C D
    of_degree_2_valid e = (of_degree_2_tells e).0

    pub of_degree_2-letters : of_degree_2 K C D ≡ true → Lettered D
    of_degree_2-letters e = let (v, two) = of_degree_2_tells e in has_letters_tells D (valid_letters D v two)

    tests_agree : (has_letters K D && left_over) ≡ of_degree_2 K C D
    tests_agree =
        same_from_decides {P = Found} (has_letters K D && left_over) (of_degree_2 K C D) (test_tells, tells_test)
        (of_degree_2_tells, tells_of_degree_2)

    -- the test in two steps

    pub test_goes_on : {d : Quadratic ℕ} {q : Quotient ℕ} → d ≡ letters D → q ≡ quotient (operations K) (sextic_letters C) d
        → has_letters K D ≡ true → exact q ≡ of_degree_2 K C D
    test_goes_on {d} {q} hd hq e =
        let same : exact q ≡ left_over = cc in
        same ∙ sym (ap (λ t. t && left_over) e) ∙ tests_agree

    pub test_ends : has_letters K D ≡ false → false ≡ of_degree_2 K C D
    test_ends e = sym (ap (λ t. t && left_over) e) ∙ tests_agree
