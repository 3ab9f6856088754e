-- Each turn takes one coefficient of the left factor more, as the definition of the product does.
use Rattle.std.proofs.Common.{◌≡◌}
use Rattle.polynomials.proofs.Backwards.{behind, behind-more, behind-yielded}
use Rattle.polynomials.proofs.Promises.{product_is, product-more}
use Rattle.polynomials.proofs.ring.product.Goals as goal

pub loop-code-preserved : goal.loop-code-preserved
loop-code-preserved g c L =
    let K = g.F.Field.meaning c.args.field.now in
    rw behind-more (product-more K L c.in-Some.field-0.now (behind c.loop-code.yielded) c.clean-right.result.codes (c.loop-code.invariant L)
    c.scale.ensures c.shift.ensures c.add-r.ensures)

pub returns : goal.returns
returns g c L =
    let K = g.F.Field.meaning c.args.field.now in
    let e : behind c.loop-code.yielded ≡ c.clean-left.result.codes = behind-yielded c.loop-code.yielded _ _ _ _ c.loop-code.yielded_by c.in-None.is c.next.ensures.steps cc in
    product_is K L c.clean-left.ensures c.clean-right.ensures (rw e at (c.loop-code.invariant L))
