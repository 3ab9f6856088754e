-- The units that are counted are all codes but 0.
use Rattle.std.proofs.Common.{◌+◌, ◌-◌, refl, ap, ◌∙◌, rules, tests}
use Rattle.std.proofs.lemmas.Iterator.{YieldsList-from_range}
use Rattle.std.proofs.lemmas.Iterator.Consumers.{YieldsList-from_filter, count_from_yields_List}
use Rattle.judge.proofs.Units.{is_unit, units_all}
use Rattle.judge.proofs.report.units.Goals as goal

pub returns : goal.returns
returns g c =
    let K = g.F.Field.meaning c.args.field.now in
    let q = c.size.result in
    let codes = YieldsList-from_range 1 q (q - 1) c.filter.ensures.source refl in
    let count =
    count_from_yields_List c.filter.result _ c.count.ensures.ran
    (YieldsList-from_filter _ (is_unit K) codes c.filter.ensures.closure (λ x b p k. search (rules, tests)))
    in
    ap (λ n. n + 1) count ∙ units_all K c.requires q c.size.ensures
