-- The part before the bar names the field, and stands in the text.
use Rattle.std.proofs.Common.{rules, arith, Some, ◌∷◌}
use Rattle.std.proofs.lemmas.Str.Pattern.{split_parts}
use Rattle.notation.proofs.Parts.{within_front}
use Rattle.notation.proofs.forms.on_curve.Goals as goal

pub returns-clause-names : goal.returns-clause-names
returns-clause-names c =
    let cut = split_parts 124 c.args.text.now (Some (c.in_ok-field.field, c.in_ok-field.numbers)) c.in_ok-field.ensures.cases (grind arith) in
    within_front _ _ (124 ∷ c.in_ok-field.numbers.now) _ cut.0 (search rules)
