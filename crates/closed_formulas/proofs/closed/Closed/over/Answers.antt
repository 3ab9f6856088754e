-- Over a lawful method the layer is lawful.
use Rattle.closed_formulas.proofs.Lawful.{closed_lawful}
use Rattle.closed_formulas.proofs.closed.Closed.over.Goals as goal

pub returns-clause-lawful : goal.returns-clause-lawful
returns-clause-lawful g c = closed_lawful
