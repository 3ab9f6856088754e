-- The code that is read at k, and 0 above the ten.
use Rattle.std.proofs.Common.{◌≡◌, get_or, sym, ◌∙◌, rules}
use Rattle.polynomials.specs.Ten.{code}
use Rattle.polynomials.proofs.Tens.{value-at, code_zero}
use Rattle.polynomials.proofs.shape.coefficient.Goals as goal

pub returns : goal.returns
returns g c =
    let e : c.map_or.result ≡ code (g.F.Field.meaning c.args.field.now) (get_or c.args.a.codes c.args.k 0) = search (rules, code_zero) in
    e ∙ sym (value-at (g.F.Field.meaning c.args.field.now) c.args.a.codes c.args.k)
