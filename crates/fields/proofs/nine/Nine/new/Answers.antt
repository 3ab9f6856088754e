-- The field of nine elements is lawful.
use Rattle.fields.proofs.LawfulNine.{nine_lawful}
use Rattle.fields.proofs.nine.Nine.new.Goals as goal

pub returns : goal.returns
returns c = nine_lawful
