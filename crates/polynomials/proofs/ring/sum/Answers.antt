-- The sums of codes are the coefficients of the sum.
use Rattle.polynomials.proofs.Promises.{sum_is}
use Rattle.polynomials.proofs.ring.sum.Goals as goal

pub returns : goal.returns
returns g c L = sum_is (g.F.Field.meaning c.args.field.now) L c.clean.ensures c.clean-2.ensures c.add.ensures
