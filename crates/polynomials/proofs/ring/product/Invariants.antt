-- r is the product of the coefficients of the left factor that the loop has come to with the right factor, up to ten codes.
use Rattle.std.proofs.Common.{get_or}
use Rattle.fields.specs.Lawful.{Lawful}
use Rattle.polynomials.specs.Polynomial.{multiply}
use Rattle.polynomials.specs.Ten.{Filled}
use Rattle.polynomials.proofs.Backwards.{behind}
use Rattle.polynomials.proofs.ring.product.Given as goal

abbrev pub invariant-loop-code : goal.invariant-loop-code
invariant-loop-code g l =
    let K = g.F.Field.meaning l.field in
    Lawful K → Filled 10 l.r.codes (λ k. get_or (multiply K (behind l.yielded) l.right.codes) k 0)
