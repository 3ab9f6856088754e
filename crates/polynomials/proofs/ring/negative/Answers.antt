-- The negatives of codes are the coefficients of the negative.
use Rattle.polynomials.proofs.Promises.{negative_is}
use Rattle.polynomials.proofs.ring.negative.Goals as goal

pub returns : goal.returns
returns g c L = negative_is (g.F.Field.meaning c.args.field.now) L c.clean.ensures c.negate.ensures
