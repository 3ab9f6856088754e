-- Each turn brings down one coefficient more, as the definition of division does.
use Rattle.std.proofs.Common.{◌≡◌, ◌<◌, ◌∷◌}
use Rattle.std.proofs.lemmas.Iterator.Adapters.{YieldsList-from_rev_slice}
use Rattle.std.proofs.lemmas.Iterator.Consumers.{YieldsList-turn}
use Rattle.fields.specs.Lawful.{Lawful}
use Rattle.polynomials.specs.Polynomial.{trim, quotient, remainder}
use Rattle.polynomials.specs.Ten.{value, Is}
use Rattle.polynomials.proofs.Backwards.{behind, behind-more, behind-yielded, met_below}
use Rattle.polynomials.proofs.Coefficients.{Codes, cons_codes}
use Rattle.polynomials.proofs.LongDivision.{Divided, divided-more}
use Rattle.polynomials.proofs.Promises.{quotient_is, remainder_is, remainder_lower, divides_whole, divides_by_zero}
use Rattle.polynomials.proofs.Tens.{read_codes}
use Rattle.polynomials.proofs.division.divide.Goals as goal

pub loop-code-preserved : goal.loop-code-preserved
loop-code-preserved g c L =
    let K = g.F.Field.meaning c.args.field.now in
    let p = behind c.loop-code.yielded in
    let turn = YieldsList-turn (YieldsList-from_rev_slice c.clean-dividend.result.codes cc) c.loop-code.yielded _ c.loop-code.yielded_by _ _ c.in-Some.field-0
    c.in-Some.is c.next.ensures.steps in
    let is_code : c.in-Some.field-0.now < K.size = met_below c.clean-dividend.result.codes _ _ _ (read_codes K L c.clean-dividend.ensures) turn in
    let hp : Codes K L (c.in-Some.field-0.now ∷ p) = cons_codes K L c.in-Some.field-0.now p is_code (c.loop-code.invariant L).0 in
    rw behind-more (
      hp,
      divided-more K L c.clean-divisor.result.codes c.top-highest.ensures.value c.top-highest.ensures.within
          c.inverse-inverse.ensures c.product-x.ensures c.shift-q.ensures c.scale.ensures c.negate.ensures c.add-r.ensures
          c.in-Some.field-0.now p hp (c.loop-code.invariant L).1 c.shift-s.ensures,
    )

pub returns : goal.returns
returns g c =
    let K = g.F.Field.meaning c.args.field.now in
    let a = c.args.a.codes in
    let b = c.args.b.codes in
    let x = c.clean-dividend.result.codes in
    let e : behind c.loop-code.yielded ≡ x = behind-yielded c.loop-code.yielded x _ _ _ c.loop-code.yielded_by c.in-None.is c.next.ensures.steps cc in
    let whole : Lawful K → Divided K x (trim c.clean-divisor.result.codes) c.loop-code.q.codes c.loop-code.r.codes =
    λ L. rw e at (c.loop-code.invariant L).1
    in
    let hq : Lawful K → Is K c.loop-code.q.codes (quotient K (value K a) (value K b)) =
    λ L. quotient_is K L c.clean-dividend.ensures c.clean-divisor.ensures (whole L)
    in
    let hr : Lawful K → Is K c.loop-code.r.codes (remainder K (value K a) (value K b)) =
    λ L. remainder_is K L c.clean-dividend.ensures c.clean-divisor.ensures (whole L)
    in
    record {
      quotient = hq;
      remainder = hr;
      below = λ L. remainder_lower K L a b (hq L) (hr L);
      whole = λ L. divides_whole K L a b (hq L) (hr L);
      by_zero = λ L. divides_by_zero K L a b (hq L) (hr L);
    }
