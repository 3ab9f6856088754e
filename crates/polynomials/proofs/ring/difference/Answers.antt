-- The sums with negatives are the coefficients of the difference.
use Rattle.polynomials.proofs.Promises.{difference_is}
use Rattle.polynomials.proofs.ring.difference.Goals as goal

pub returns : goal.returns
returns g c L = difference_is (g.F.Field.meaning c.args.field.now) L c.clean.ensures c.clean-2.ensures c.negate.ensures c.add.ensures
