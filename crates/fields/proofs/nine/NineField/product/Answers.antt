-- The second table has the products.
use Rattle.std.proofs.Common.{◌∙◌}
use Rattle.fields.proofs.LawfulNine.{product_table}
use Rattle.fields.proofs.nine.NineField.product.Goals as goal

pub returns : goal.returns
returns c = c.entry.ensures ∙ product_table _ tt c.args.a c.args.b
