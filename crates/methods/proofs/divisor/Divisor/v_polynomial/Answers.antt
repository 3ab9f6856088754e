-- The two coefficients, with zeros behind them.
use Rattle.std.proofs.Common.{[], ◌∷◌}
use Rattle.methods.specs.Divisors.{v_of}
use Rattle.methods.proofs.Reading.{value_padded}
use Rattle.methods.proofs.divisor.Divisor.v_polynomial.Goals as goal

pub returns : goal.returns
unfolding v_of
returns g c =
    let v = c.args.self.v in
    value_padded (g.F.Field.meaning c.args.field.now) (v.x0 ∷ v.x1 ∷ []) 8
