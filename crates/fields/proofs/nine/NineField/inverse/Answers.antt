-- The seventh power of a is its inverse.
use Rattle.fields.proofs.LawfulNine.{inverse_is}
use Rattle.fields.proofs.nine.NineField.inverse.Goals as goal

pub returns : goal.returns
returns c = cc (inverse_is c.args.a)
