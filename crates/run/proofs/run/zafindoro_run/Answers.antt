use Rattle.run.proofs.Laws.{run_laws}
use Rattle.run.proofs.run.zafindoro_run.Goals as goal

pub returns-in-Ok-clause-laws : goal.returns-in-Ok-clause-laws
returns-in-Ok-clause-laws c = run_laws c.args.sheet.now

pub returns-in-Err-clause-laws : goal.returns-in-Err-clause-laws
returns-in-Err-clause-laws c = run_laws c.args.sheet.now
