-- The code at the highest place is the leading coefficient.
use Rattle.std.proofs.Common.{pred, length, get_or, sym, ap, ◌∙◌}
use Rattle.polynomials.specs.Polynomial.{trim, leading}
use Rattle.polynomials.proofs.Coefficients.{trim-at}
use Rattle.polynomials.proofs.Tens.{read_trim}
use Rattle.polynomials.proofs.shape.leading.Goals as goal

pub returns : goal.returns
returns g c =
    let p = c.clean-p.result.codes in
    ap (λ k. get_or p k 0) c.top.ensures.value
    ∙ sym (trim-at p (pred (length (trim p))))
    ∙ ap leading (read_trim (g.F.Field.meaning c.args.field.now) c.clean-p.ensures)
