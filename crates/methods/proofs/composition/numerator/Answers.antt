-- The nine calls of the numerator.
use Rattle.methods.proofs.Composing.{numerator_is}
use Rattle.methods.proofs.composition.numerator.Goals as goal

pub returns : goal.returns
returns g c L few =
    numerator_is (g.F.Field.meaning c.args.field.now) L c.args.a c.args.b _ _
    c.u_polynomial.ensures c.u_polynomial-2.ensures _ _ c.v_polynomial-v1.ensures c.v_polynomial-v2.ensures
    c.args.curve c.args.z few _ _ _ _ _ _ _ _ _ _ c.sextic.ensures
    (c.product.ensures L) (c.product-p.ensures L) (c.product-2.ensures L) (c.product-q.ensures L)
    (c.product-3.ensures L) (c.sum.ensures L) (c.product-t.ensures L) (c.sum-2.ensures L) (c.sum-3.ensures L)
