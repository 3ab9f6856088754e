-- Euclid's steps end at 0, or go on with divisor and remainder.
use Rattle.std.proofs.Common.{◌≡◌, ◌⊎◌, true, refl, sym, ◌∙◌, inl, inr, arith}
use Rattle.polynomials.specs.Polynomial.{is_zero}
use Rattle.polynomials.specs.Ten.{value}
use Rattle.polynomials.proofs.Tens.{read_short, value-length}
use Rattle.polynomials.proofs.Turns.{turn_ends, turn_more}
use Rattle.polynomials.proofs.divisors.+euclid.Goals as goal
use Rattle.polynomials.proofs.divisors.+euclid.Goals.{then-steps-eq0-via-then-steps-eq0, then-steps-eq0-via-else-steps-eq0+then-is_zero}

pub returns-then-steps-eq0 : goal.returns-then-steps-eq0
returns-then-steps-eq0 g t c L =
    let K = g.F.Field.meaning c.args.field.now in
    let ends : (c.args.steps ≡ 0) ⊎ (is_zero (value K c.args.b.codes) ≡ true) =
    elim c.then-steps-eq0.branch [
      | then-steps-eq0-via-then-steps-eq0 w ↦ inl w.if-steps-eq0.true
      | then-steps-eq0-via-else-steps-eq0+then-is_zero w ↦ inr (sym w.is_zero.ensures ∙ w.if-is_zero.true)
    ]
    in
    turn_ends K L c.args.steps c.clean-whole.ensures ends refl refl

pub returns : goal.returns
returns g t c L =
    let K = g.F.Field.meaning c.args.field.now in
    turn_more K L c.args.steps (omega arith) (read_short K c.clean-whole.ensures)
    (omega (arith, value-length K c.args.b.codes)) (sym c.is_zero.ensures ∙ c.if-is_zero.false)
    (c.divide.ensures.quotient L) (c.divide.ensures.remainder L) (c.euclid-below.ensures L) (c.product-t.ensures L)
    (c.difference.ensures L)
