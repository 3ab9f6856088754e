-- The two greatest common divisors in a row.
use Rattle.methods.specs.declared.composition.Cofactors.{Cofactors}
use Rattle.methods.proofs.Composing.{bezout_is}
use Rattle.methods.proofs.composition.bezout.Goals as goal

pub returns : goal.returns
returns g c L =
    let h = c.gcd-h.result in
    let z : Cofactors = record { d = h.divisor; e1 = c.product.result; e2 = c.product-2.result; e3 = h.second } in
    bezout_is (g.F.Field.meaning c.args.field.now) L c.args.a c.args.b _ _
    c.u_polynomial.ensures c.u_polynomial-2.ensures _ _ c.v_polynomial.ensures c.v_polynomial-2.ensures
    z _ _ _ _ _ (c.gcd-g.ensures L) (c.sum.ensures L) (c.gcd-h.ensures L) (c.product.ensures L) (c.product-2.ensures L)
