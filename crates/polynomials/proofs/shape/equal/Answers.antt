-- A code that differs tells the polynomials apart, and without one they are equal.
use Rattle.std.proofs.Common.{arith}
use Rattle.polynomials.proofs.Equality.{same_is, equal_yes, equal_no}
use Rattle.polynomials.proofs.shape.equal.Goals as goal

pub returns-then-left-i : goal.returns-then-left-i
returns-then-left-i g c =
    let K = g.F.Field.meaning c.args.field.now in
    let d = equal_no K c.clean-left.ensures c.clean-right.ensures c.loop-i.i c.if-left-i.true in
    record { value = same_is _ _ _ d; decides = d }

pub returns : goal.returns
returns g c =
    let K = g.F.Field.meaning c.args.field.now in
    let d = equal_yes K c.clean-left.ensures c.clean-right.ensures (λ k l. c.loop-i.invariant k (omega arith)) in
    record { value = same_is _ _ _ d; decides = d }
