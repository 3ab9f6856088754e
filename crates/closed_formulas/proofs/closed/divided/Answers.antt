-- The test of the letters and of the remainder finds the valid divisors of degree 2.
use Rattle.std.proofs.Common.{◌≡◌, Bool, true, false, is_some, sym, refl, ap, ◌∙◌, arith}
use Rattle.std.proofs.lemmas.Bool.Decides.{nat_tests}
use Rattle.std.specs.Bool.{then_some}
use Rattle.closed_formulas.specs.Formulas.{exact}
use Rattle.closed_formulas.specs.Letters.{division_of}
use Rattle.closed_formulas.proofs.Representations.{accepted_coded}
use Rattle.closed_formulas.proofs.Validity.{test_goes_on, test_ends}
use Rattle.closed_formulas.proofs.closed.divided.Goals as goal
use Rattle.closed_formulas.proofs.closed.divided.Goals.{then-q-eq0, else-q-eq0}

is_some-then_some : {A : Type 0} (b : Bool) (x : A) → is_some (then_some b x) ≡ b
is_some-then_some true x = refl
is_some-then_some false x = refl

pub returns-in_err-d-clause-tells : goal.returns-in_err-d-clause-tells
returns-in_err-d-clause-tells g c L accepted =
    let K = g.F.Field.meaning c.args.field.now in
    let ends = test_ends K L (accepted_coded K L c.args.curve accepted) c.args.a (sym c.in_err-d.ensures.tells) in
    ap is_some c.from_residual.ensures ∙ ends

pub returns-clause-tells : goal.returns-clause-tells
returns-clause-tells g c L accepted =
    let K = g.F.Field.meaning c.args.field.now in
    let goes_on =
    test_goes_on K L (accepted_coded K L c.args.curve accepted) c.args.a c.in_ok-d.ensures.letters c.divide-q.ensures
    (sym c.in_ok-d.ensures.tells)
    in
    let test : c.if-q-eq0.then_some ≡ exact (division_of c.divide-q.result) =
    elim c.if-q-eq0.branch [ then-q-eq0 w ↦ grind (arith, nat_tests) | else-q-eq0 w ↦ grind (arith, nat_tests) ]
    in
    ap is_some c.then_some.ensures ∙ is_some-then_some c.if-q-eq0.then_some _ ∙ test ∙ goes_on
