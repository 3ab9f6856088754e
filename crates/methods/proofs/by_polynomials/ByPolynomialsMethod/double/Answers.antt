-- Where the operand passes, it is valid, and its sum with itself is the answer.
use Rattle.std.proofs.Common.{Ok, sym, ap, ◌∙◌}
use Rattle.methods.specs.Sums.{twice}
use Rattle.methods.proofs.Entry.{accepted_valid, doubled_valid}
use Rattle.methods.proofs.by_polynomials.ByPolynomialsMethod.double.Goals as goal

pub returns : goal.returns
unfolding twice
returns g c L accepted =
    let K = g.F.Field.meaning c.args.field.now in
    let C = c.args.curve in
    let va = accepted_valid K C c.args.a _ (c.in_ok-entered.ensures L) in
    ap Ok (c.sum.ensures L va va) ∙ sym (doubled_valid K C c.args.a va)
