-- What Euclid's steps give, made monic, is the greatest common divisor with its cofactors.
use Rattle.std.proofs.Common.{ap, ◌∙◌, arith}
use Rattle.polynomials.proofs.Combinations.{made_monic}
use Rattle.polynomials.proofs.divisors.gcd.Goals as goal

pub returns : goal.returns
returns g c L =
    let K = g.F.Field.meaning c.args.field.now in
    made_monic K L (omega arith) (c.euclid-g.ensures L) (c.inverse-l.ensures ∙ ap K.inverse c.leading.ensures)
    (c.multiple.ensures L) (c.multiple-2.ensures L) (c.multiple-3.ensures L)
