-- Closed formulas over the polynomial method are a lawful method.
use Rattle.std.proofs.Common.{refl}
use Rattle.methods.specs.Methods.{LawfulMethod, the_law}
use Rattle.closed_formulas.specs.Formulas.{closed}
use Rattle.closed_formulas.proofs.Lawful.{closed_lawful}
use Rattle.run.proofs.run.run_closed.Goals as goal

method_lawful : LawfulMethod (closed the_law)
method_lawful = closed_lawful the_law (record { adds = λ K C lawful accepted D E. refl; doubles = λ K C lawful accepted D. refl })

pub returns-clause-answer : goal.returns-clause-answer
returns-clause-answer c = c.run_by.ensures.outcome method_lawful

pub returns-clause-output : goal.returns-clause-output
returns-clause-output c = c.run_by.ensures.output method_lawful
