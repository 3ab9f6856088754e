-- A search through all codes below n, as the definition is.
use Rattle.std.proofs.Common.{eqb, refl, ◌∙◌, arith, rules, tests}
use Rattle.std.proofs.lemmas.Iterator.{YieldsList-from_range}
use Rattle.std.proofs.lemmas.Iterator.Search.{any_from_yields_List}
use Rattle.fields.proofs.Squares.{list_any-squares}
use Rattle.fields.proofs.pairs.is_square.Goals as goal

pub returns : goal.returns
returns g c =
    let K = g.F.Field.meaning c.args.field.now in
    any_from_yields_List (λ x. eqb (K.times x x) c.args.r) _ _ _ c.any.ensures.ran (YieldsList-from_range 0 c.args.n c.args.n refl (omega arith)) (λ x b q k. search (rules, tests))
    ∙ list_any-squares K c.args.r c.args.n
