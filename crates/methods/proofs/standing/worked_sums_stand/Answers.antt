-- The worked cases are computed.
use Rattle.methods.proofs.Worked.{worked}
use Rattle.methods.proofs.standing.worked_sums_stand.Goals as goal

pub returns : goal.returns
returns c = worked
