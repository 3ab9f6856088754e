-- By degree: the lower coefficients and a 1, with zeros behind them.
use Rattle.std.proofs.Common.{[], ◌∷◌, ◌∙◌, arith}
use Rattle.methods.proofs.Reading.{value_padded, u-zero, u-one, u-two}
use Rattle.methods.proofs.divisor.Divisor.u_polynomial.Goals as goal

pub returns-in-0 : goal.returns-in-0
returns-in-0 g c =
    let K = g.F.Field.meaning c.args.field.now in
    value_padded K (1 ∷ []) 9 ∙ u-zero K c.args.self c.in-0.is

pub returns-in-1 : goal.returns-in-1
returns-in-1 g c =
    let K = g.F.Field.meaning c.args.field.now in
    let u = c.args.self.u in
    value_padded K (u.x0 ∷ 1 ∷ []) 8 ∙ u-one K c.args.self c.in-1.is

pub returns-in_default : goal.returns-in_default
returns-in_default g c =
    let K = g.F.Field.meaning c.args.field.now in
    let u = c.args.self.u in
    value_padded K (u.x0 ∷ u.x1 ∷ 1 ∷ []) 7 ∙ u-two K c.args.self (omega arith) (omega arith)
