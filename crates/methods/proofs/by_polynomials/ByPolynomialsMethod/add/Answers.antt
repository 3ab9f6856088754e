-- Where both operands pass, they are valid, and their sum is the answer.
use Rattle.std.proofs.Common.{Ok, sym, ap, ◌∙◌}
use Rattle.methods.proofs.Entry.{accepted_valid, added_valid}
use Rattle.methods.proofs.by_polynomials.ByPolynomialsMethod.add.Goals as goal

pub returns : goal.returns
returns g c L accepted =
    let K = g.F.Field.meaning c.args.field.now in
    let C = c.args.curve in
    let va = accepted_valid K C c.args.a _ (c.in_ok-entered.ensures L) in
    let vb = accepted_valid K C c.args.b _ (c.in_ok-entered-2.ensures L) in
    ap Ok (c.sum.ensures L va vb) ∙ sym (added_valid K C c.args.a c.args.b va vb)
