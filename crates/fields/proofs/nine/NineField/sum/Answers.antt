-- The first table has the sums.
use Rattle.std.proofs.Common.{◌∙◌}
use Rattle.fields.proofs.LawfulNine.{sum_table}
use Rattle.fields.proofs.nine.NineField.sum.Goals as goal

pub returns : goal.returns
returns c = c.entry.ensures ∙ sum_table _ tt c.args.a c.args.b
