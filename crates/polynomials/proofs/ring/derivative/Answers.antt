-- The weighed codes are the coefficients of the derivative.
use Rattle.polynomials.proofs.Promises.{derivative_is}
use Rattle.polynomials.proofs.ring.derivative.Goals as goal

pub returns : goal.returns
returns g c L = derivative_is (g.F.Field.meaning c.args.field.now) L c.clean.ensures c.derive.ensures.weighed c.derive.ensures.last
