-- The composite by the cofactors that were found, which is the composite by any.
use Rattle.std.proofs.Common.{◌∙◌, arith}
use Rattle.std.proofs.lemmas.Int.{ints}
use Rattle.methods.specs.Steps.{bezout_of}
use Rattle.methods.proofs.Compositions.{composed-same}
use Rattle.methods.proofs.Composing.{one_more_is, composition_is}
use Rattle.methods.proofs.composition.compose.Goals as goal

pub returns : goal.returns
returns g c L va vb =
    let K = g.F.Field.meaning c.args.field.now in
    let D = c.args.a in
    let E = c.args.b in
    let z = c.bezout-z.result in
    let few = (c.bezout-z.ensures L).1 in
    composition_is K L D E _ _ c.u_polynomial.ensures c.u_polynomial-2.ensures c.args.curve z few _
    _ _ _ _ (c.product.ensures L) (c.product-2.ensures L) (c.divide.ensures.quotient L)
    (c.numerator.ensures L few) (c.divide-2.ensures.quotient L) (c.divide-3.ensures.remainder L) (one_more_is _ _ (omega (arith, ints)))
    ∙ composed-same K L D E c.args.curve va vb (bezout_of K z) (c.bezout-z.ensures L).0
