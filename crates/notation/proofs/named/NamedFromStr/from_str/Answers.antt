-- The word for the kind stands in the text.
use Rattle.std.proofs.Common.{rules}
use Rattle.notation.proofs.Parts.{names_its_kind}
use Rattle.notation.proofs.named.NamedFromStr.from_str.Goals as goal

pub returns-in_ok-number-in-Some-residues : goal.returns-in_ok-number-in-Some-residues
returns-in_ok-number-in-Some-residues c = names_its_kind _ _ _ c.alone.ensures (search rules)

pub returns-in-Some-nine : goal.returns-in-Some-nine
returns-in-Some-nine c = names_its_kind _ _ _ c.alone-in-Some-nine.ensures (search rules)

pub returns-in_ok-r-in-Some-pairs : goal.returns-in_ok-r-in-Some-pairs
returns-in_ok-r-in-Some-pairs c = names_its_kind _ _ _ c.alone-in-Some-pairs.ensures (search rules)
