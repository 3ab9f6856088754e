-- Pairs that are made over a lawful field are lawful.
use Rattle.std.proofs.Common.{arith, rules}
use Rattle.fields.proofs.LawfulPairs.{made_lawful}
use Rattle.fields.proofs.pairs.Pairs.over.Goals as goal

pub returns-clause-lawful : goal.returns-clause-lawful
returns-clause-lawful g c =
    made_lawful (g.F.Field.meaning c.args.below) c.in-Ok.q c.args.r (search rules) (omega arith) (omega arith) (search rules)
