-- The multiples of codes are the coefficients of the multiple.
use Rattle.polynomials.proofs.Promises.{multiple_is}
use Rattle.polynomials.proofs.ring.multiple.Goals as goal

pub returns : goal.returns
returns g c L = multiple_is (g.F.Field.meaning c.args.field.now) L c.clean.ensures c.args.x c.scale.ensures
