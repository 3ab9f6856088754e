-- The seven coefficients, with zeros behind them.
use Rattle.std.proofs.Common.{[], ◌∷◌}
use Rattle.methods.specs.Curves.{sextic}
use Rattle.methods.proofs.Reading.{value_padded}
use Rattle.methods.proofs.curve.sextic.Goals as goal

pub returns : goal.returns
unfolding sextic
returns g c =
    let C = c.args.curve in
    value_padded (g.F.Field.meaning c.args.field.now) (C.f0 ∷ C.f1 ∷ C.f2 ∷ C.f3 ∷ C.f4 ∷ 0 ∷ 1 ∷ []) 3
