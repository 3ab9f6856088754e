-- v has two coefficients, so that its square is whole.
use Rattle.std.proofs.Common.{length, ap, arith}
use Rattle.methods.specs.Divisors.{on_curve}
use Rattle.methods.proofs.Reading.{v-short}
use Rattle.methods.proofs.divisor.is_on_curve.Goals as goal

pub returns : goal.returns
unfolding on_curve
returns g c L =
    let K = g.F.Field.meaning c.args.field.now in
    let s = (c.product.ensures L).stands (omega (arith, ap length c.v_polynomial-v.ensures, v-short K c.args.d)) in
    let d = (c.difference.ensures L).stands in
    let r = (c.divide.ensures.remainder L).stands in
    cc
