-- Closed formulas over a lawful method are a lawful method.
use Rattle.std.proofs.Common.{◌≡◌, Bool, true, false, cond, ◌&&◌, Some, None, Ok, Result, sym, refl, ap, ◌∙◌}
use Rattle.std.proofs.lemmas.Bool.{and_parts}
use Rattle.fields.specs.Arithmetic.{Arithmetic}
use Rattle.fields.specs.Lawful.{Lawful}
use Rattle.mumford.specs.ClosedForms.{sum_fractions, twice_divided, double_fractions}
use Rattle.methods.specs.declared.curve.Curve.{Curve}
use Rattle.methods.specs.declared.divisor.Divisor.{Divisor}
use Rattle.methods.specs.Curves.{Accepted}
use Rattle.methods.specs.Methods.{Law, added, doubled, LawfulMethod}
use Rattle.methods.proofs.Entry.{added_valid, doubled_valid}
use Rattle.closed_formulas.specs.Formulas.{operations, sextic_letters, letters, quadratic, applicable, of_degree_2, sum_letters, sum_formula, double_letters, double_formula, or_else, closed}
use Rattle.closed_formulas.proofs.Representations.{accepted_coded}
use Rattle.closed_formulas.proofs.Validity.{of_degree_2_valid}
use Rattle.closed_formulas.proofs.Sums.{sum_is_plus, double_is_twice}

-- an answer of a formula that is right where its test holds, or else a right answer
either : {X E : Type 0} (t : Bool) (x : X) (r s : Result X E) → (t ≡ true → Ok x ≡ s) → r ≡ s → or_else (cond t (Some x) None) r ≡ s
either true x r s h k = h refl
either false x r s h k = k

module _ (K : Arithmetic) (C : Curve) (L : Lawful K) (accepted : Accepted K C) where
  formula_adds : (D E : Divisor) (r : _) → r ≡ added K C D E → or_else (sum_formula K C D E) r ≡ added K C D E
  unfolding sum_formula
  formula_adds D E r right =
      either _ (quadratic (sum_letters K C (letters D) (letters E))) r (added K C D E)
      (λ test.
      let (both, applies) =
      and_parts (of_degree_2 K C D && of_degree_2 K C E) (applicable K (sum_fractions (operations K) (letters D) (letters E))) test
      in
      let (one, other) = and_parts (of_degree_2 K C D) (of_degree_2 K C E) both in
      let h = accepted_coded K L C accepted in
      ap Ok (sum_is_plus K L C accepted D E one other applies)
      ∙ sym (added_valid K C D E (of_degree_2_valid K L h D one) (of_degree_2_valid K L h E other)))
      right

  formula_doubles : (D : Divisor) (r : _) → r ≡ doubled K C D → or_else (double_formula K C D) r ≡ doubled K C D
  unfolding double_formula
  formula_doubles D r right =
      either _ (quadratic (double_letters K C (letters D))) r (doubled K C D)
      (λ test.
      let (one, applies) =
      and_parts (of_degree_2 K C D)
      (applicable K (double_fractions (operations K) (letters D) (twice_divided (operations K) (sextic_letters C) (letters D))))
      test
      in
      ap Ok (double_is_twice K L C accepted D one applies)
      ∙ sym (doubled_valid K C D (of_degree_2_valid K L (accepted_coded K L C accepted) D one)))
      right

pub closed_lawful : (law : Law) → LawfulMethod law → LawfulMethod (closed law)
closed_lawful law lawful =
    record {
      adds = λ K C L accepted D E. formula_adds K C L accepted D E (law.add K C D E) (lawful.adds K C L accepted D E);
      doubles = λ K C L accepted D. formula_doubles K C L accepted D (law.double K C D) (lawful.doubles K C L accepted D);
    }
