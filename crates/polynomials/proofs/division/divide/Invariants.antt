-- q and r are quotient and remainder of the coefficients of the dividend that the loop has come to.
use Rattle.fields.specs.Lawful.{Lawful}
use Rattle.polynomials.specs.Polynomial.{trim}
use Rattle.polynomials.proofs.Backwards.{behind}
use Rattle.polynomials.proofs.Coefficients.{Codes}
use Rattle.polynomials.proofs.LongDivision.{Divided}
use Rattle.polynomials.proofs.division.divide.Given as goal

abbrev pub invariant-loop-code : goal.invariant-loop-code
invariant-loop-code g l =
    let K = g.F.Field.meaning l.field in
    (L : Lawful K) → Codes K L (behind l.yielded) × Divided K (behind l.yielded) (trim l.divisor.codes) l.q.codes l.r.codes
