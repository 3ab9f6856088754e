-- The neutral divisor is valid.
use Rattle.methods.proofs.Theorems.{neutral_valid}
use Rattle.methods.proofs.divisor.Divisor.neutral.Goals as goal

pub returns-clause-valid : goal.returns-clause-valid
returns-clause-valid c = neutral_valid
