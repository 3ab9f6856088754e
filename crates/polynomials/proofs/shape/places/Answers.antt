-- The count of what is read is the number of coefficients.
use Rattle.std.proofs.Common.{length, ap, ◌∙◌}
use Rattle.polynomials.proofs.Tens.{read_trim}
use Rattle.polynomials.proofs.shape.places.Goals as goal

pub returns-clause-value : goal.returns-clause-value
returns-clause-value g c = c.count.ensures.value ∙ ap length (read_trim (g.F.Field.meaning c.args.field.now) c.clean.ensures)
