-- The places below i hold the coefficients of the derivative, n is i as an element of the field, and the last place is 0.
use Rattle.std.proofs.Common.{◌≡◌, suc, get_or}
use Rattle.polynomials.specs.Polynomial.{numeral}
use Rattle.polynomials.specs.Ten.{Filled}
use Rattle.polynomials.proofs.rows.derive.Given as goal

abbrev pub invariant-loop-i : goal.invariant-loop-i
invariant-loop-i g l =
    let K = g.F.Field.meaning l.field in
    (l.n ≡ numeral K l.i)
    × Filled l.i l.codes (λ k. K.times (numeral K (suc k)) (get_or l.fn.a.codes (suc k) 0))
    × (get_or l.codes 9 0 ≡ 0)
