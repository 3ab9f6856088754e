-- A composite of valid divisors is fair, so that its reduction is the sum.
use Rattle.std.proofs.Common.{sym, ap, ◌∙◌, subst}
use Rattle.methods.specs.Sums.{Fair, reduced, plus}
use Rattle.methods.proofs.Theorems.{composites_fair}
use Rattle.methods.proofs.by_polynomials.sum.Goals as goal

pub returns : goal.returns
unfolding plus
returns g c L va vb =
    let K = g.F.Field.meaning c.args.field.now in
    let C = c.args.curve in
    let same = c.compose.ensures L va vb in
    c.reduce.ensures L (subst Fair (sym same) (composites_fair K C L c.args.a c.args.b va vb)) ∙ ap (reduced K C) same
