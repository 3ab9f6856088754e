-- The formulas give the sum and the double of valid divisors of degree 2.
use Rattle.std.proofs.Common.{◌≡◌, ℕ, true, ◌≢◌, [], ◌∷◌, sym, refl, ap, ◌∙◌, subst, subst₂, arith}
use mathlib.Core.Path.{subst₃}
use Rattle.std.proofs.lemmas.Bool.Decides.{nat_tests}
use Rattle.algebra.specs.Ring.{Ops, Laws}
use Rattle.algebra.specs.Field.{Field}
use Rattle.algebra.specs.Polynomials.{Polynomials}
use Rattle.algebra.proofs.Reify.{by_facts, ◌⋆◌, terms}
use Rattle.fields.specs.Arithmetic.{Arithmetic}
use Rattle.fields.specs.Lawful.{Lawful}
use Rattle.fields.proofs.Codes.{Code, codes, codes_laws, field}
use Rattle.polynomials.proofs.Listed.{polynomials}
use Rattle.polynomials.proofs.Presentation.{presentation}
use Rattle.mumford.specs.Addition.{Sum}
use Rattle.mumford.specs.ClosedForms.{Sextic, Quadratic, Fractions, sextic, divisor, line_by, lead, sum_fractions, sum_by, twice_divided, double_fractions, double_by}
use Rattle.mumford.proofs.ClosedSums.{closed-sum}
use Rattle.mumford.proofs.ClosedDoubles.{closed-double}
use Rattle.methods.specs.declared.curve.Curve.{Curve}
use Rattle.methods.specs.declared.divisor.Divisor.{Divisor}
use Rattle.methods.specs.Curves.{Accepted}
use Rattle.methods.specs.Divisors.{Valid}
use Rattle.methods.specs.Sums.{plus, twice}
use Rattle.methods.proofs.Curves.{V_of}
use Rattle.methods.proofs.Additions.{divisor_is_plus}
use Rattle.closed_formulas.specs.Formulas.{operations, sextic_letters, letters, quadratic, applicable, of_degree_2, sum_letters, double_letters}
use Rattle.closed_formulas.proofs.Representations.{numbers, Coded, accepted_coded, of_codes, of_codes_mumford, sextic_codes, sextic_codes_is}
use Rattle.closed_formulas.proofs.Validity.{of_codes_valid, from_codes, of_degree_2_valid, of_degree_2-letters}

-- where 1 − (p/r)² is 0, p² is r²
squares_same : {K : Type 0} {o : Ops K} → Laws o → (r p i : K) → o.mul r i ≡ o.unit → lead o (o.mul p i) ≡ o.nil → o.mul p p ≡ o.mul r r
squares_same {o = o} L r p i inverse none =
    by_facts L (r ∷ p ∷ i ∷ [])
    (o.neg (o.mul (o.mul p p) (o.add (o.mul r i) o.unit)) ⋆ inverse ∷ o.neg (o.mul r r) ⋆ none ∷ [])
    (search terms depth 60 fits 100000) refl

module _ (K : Arithmetic) (L : Lawful K) where
  abbrev o : Ops (Code K.size)
  o = codes K L

  abbrev F : Field o
  F = field K L

  abbrev H : Polynomials o (polynomials K L)
  H = presentation K L

  abbrev fraction_numbers : Fractions (Code K.size) → Fractions ℕ
  fraction_numbers n = record { r = n.r.0; p = n.p.0; o = n.o.0 }

  -- What the test says of codes: r is not 0, and p² is not r².

  r_some : (n : Fractions (Code K.size)) → applicable K (fraction_numbers n) ≡ true → n.r ≢ o.nil
  unfolding codes
  r_some n applies e = let z : n.r.0 ≡ 0 = ap (λ (c : Code K.size). c.0) e in grind (arith, nat_tests)

  squares_differ : (n : Fractions (Code K.size)) → applicable K (fraction_numbers n) ≡ true
      → o.mul n.p n.p ≢ o.mul n.r n.r
  unfolding codes
  squares_differ n applies e =
      let z : K.times n.p.0 n.p.0 ≡ K.times n.r.0 n.r.0 = ap (λ (c : Code K.size). c.0) e in
      grind (arith, nat_tests)

  -- So r and M have inverses.
  module _ (n : Fractions (Code K.size)) (applies : applicable K (fraction_numbers n) ≡ true) where
    abbrev M : Code K.size
    M = lead o (o.mul n.p (F.inverse n.r))

    r_inverse : o.mul n.r (F.inverse n.r) ≡ o.unit
    r_inverse = F.inverse_ok n.r (r_some n applies)

    M-inverse : o.mul M (F.inverse M) ≡ o.unit
    M-inverse =
        F.inverse_ok M
        (λ e. squares_differ n applies (squares_same (codes_laws K L) n.r n.p (F.inverse n.r) r_inverse e))

  -- Divisors of codes.
  module _ (C : Curve) (accepted : Accepted K C) where
    abbrev h : Coded K L C
    h = accepted_coded K L C accepted

    abbrev f : Sextic (Code K.size)
    f = sextic_codes K L h

    -- a sum in theory is the computed one
    sum-of_codes : (D E S : Quadratic (Code K.size)) → Valid K C (of_codes K L D) → Valid K C (of_codes K L E)
        → Sum H (sextic H f) (V_of K L C) (divisor H D) (divisor H E) (divisor H S)
        → of_codes K L S ≡ plus K C (of_codes K L D) (of_codes K L E)
    sum-of_codes D E S vD vE sum =
        sym (from_codes K L h S)
        ∙ divisor_is_plus K L C accepted (of_codes K L D) (of_codes K L E) vD vE (divisor H S)
        (subst₃ (λ g A B. Sum H g (V_of K L C) A B (divisor H S)) (sym (sextic_codes_is K L h)) (sym (of_codes_mumford K L D))
        (sym (of_codes_mumford K L E)) sum)

    sum_codes : (D E : Quadratic (Code K.size)) → Valid K C (of_codes K L D) → Valid K C (of_codes K L E)
        → applicable K (sum_fractions (operations K) (numbers D) (numbers E)) ≡ true
        → quadratic (sum_letters K C (numbers D) (numbers E)) ≡ plus K C (of_codes K L D) (of_codes K L E)
    unfolding codes field
    sum_codes D E vD vE applies =
        let n = sum_fractions o D E in
        let r⁻¹ = F.inverse n.r in
        let i = F.inverse (M n applies) in
        sum-of_codes D E (sum_by o f D E (line_by o E n r⁻¹) i) vD vE
        (closed-sum F H D E r⁻¹ (r_inverse n applies) f i (M-inverse n applies) (of_codes_valid K L h D vD) (of_codes_valid K L h E vE))

    double-codes : (D : Quadratic (Code K.size)) → Valid K C (of_codes K L D)
        → applicable K (double_fractions (operations K) (numbers D) (twice_divided (operations K) (sextic_letters C) (numbers D))) ≡ true
        → quadratic (double_letters K C (numbers D)) ≡ plus K C (of_codes K L D) (of_codes K L D)
    unfolding codes field
    double-codes D v applies =
        let t = twice_divided o f D in
        let n = double_fractions o D t in
        let r⁻¹ = F.inverse n.r in
        let i = F.inverse (M n applies) in
        sum-of_codes D D (double_by o D t (line_by o D n r⁻¹) i) v v
        (closed-double F H f D r⁻¹ (r_inverse n applies) i (M-inverse n applies) (of_codes_valid K L h D v))

    -- The formulas' answers to valid divisors of degree 2.

    pub sum_is_plus : (D E : Divisor) → of_degree_2 K C D ≡ true → of_degree_2 K C E ≡ true
        → applicable K (sum_fractions (operations K) (letters D) (letters E)) ≡ true
        → quadratic (sum_letters K C (letters D) (letters E)) ≡ plus K C D E
    sum_is_plus D E hD hE =
        let d = of_degree_2-letters K L h D hD in
        let e = of_degree_2-letters K L h E hE in
        subst₂
        (λ A B. applicable K (sum_fractions (operations K) (letters A) (letters B)) ≡ true
        → quadratic (sum_letters K C (letters A) (letters B)) ≡ plus K C A B)
        (sym d.is) (sym e.is)
        (sum_codes d.S e.S (subst (Valid K C) d.is (of_degree_2_valid K L h D hD))
        (subst (Valid K C) e.is (of_degree_2_valid K L h E hE)))

    pub double_is_twice : (D : Divisor) → of_degree_2 K C D ≡ true
        → applicable K (double_fractions (operations K) (letters D) (twice_divided (operations K) (sextic_letters C) (letters D))) ≡ true
        → quadratic (double_letters K C (letters D)) ≡ twice K C D
    unfolding twice
    double_is_twice D hD =
        let d = of_degree_2-letters K L h D hD in
        subst
        (λ A. applicable K (double_fractions (operations K) (letters A) (twice_divided (operations K) (sextic_letters C) (letters A))) ≡ true
        → quadratic (double_letters K C (letters A)) ≡ plus K C A A)
        (sym d.is) (double-codes d.S (subst (Valid K C) d.is (of_degree_2_valid K L h D hD)))
