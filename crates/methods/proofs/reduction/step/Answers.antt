-- w has a degree of at most 3, so that its square is whole.
use Rattle.std.proofs.Common.{◌≤◌, length, ap, arith}
use Rattle.polynomials.specs.Ten.{value}
use Rattle.polynomials.proofs.Tens.{value_proper}
use Rattle.methods.specs.Curves.{root}
use Rattle.methods.specs.Steps.{composite_of}
use Rattle.methods.proofs.Curves.{root_proper, root-length}
use Rattle.methods.proofs.Reducing.{lifted-short, step_is}
use Rattle.methods.proofs.reduction.step.Goals as goal

pub returns : goal.returns
returns g c L fair =
    let K = g.F.Field.meaning c.args.field.now in
    let C = c.args.curve in
    let S = c.args.c in
    let w = c.lift-w.ensures L in
    let w-most =
    lifted-short K (root K C) (composite_of K S) L (root_proper K L C) (omega (arith, root-length K L C))
    (value_proper K L S.u.codes) (value_proper K L S.v.codes) fair
    in
    let few : length (value K c.lift-w.result.codes) ≤ 5 = omega (arith, w-most, ap length w) in
    step_is K C S _ _ _ _ _ _ w (c.turn-u.ensures L few) (c.negative.ensures L) (c.divide.ensures.remainder L)
    c.infinity.ensures c.from_polynomials.ensures
