-- The names of fields.
use Rattle.std.specs.Prelude.{ℕ, List, ◌++◌, codes, Result, IfOk}
use Rattle.std.specs.Fmt.{decimal}
use Rattle.std.specs.Str.Iter.{HasSubslice}
use Rattle.notation.specs.declared.named.Named.{Named}
use Rattle.notation.specs.declared.named.Named.TheVariants.{Residues, Nine, Pairs}
use Rattle.notation.specs.declared.named.NotAField.{NotAField}

-- The word for the kind of a field.
abbrev pub kind : Named → List ℕ
kind (Residues m) = codes "residues"
kind Nine = codes "nine"
kind (Pairs m r) = codes "pairs"

-- How a field is written: the word for its kind, and then its numbers, with spaces between.
abbrev pub field_text : Named → List ℕ
field_text (Residues m) = codes "residues " ++ decimal m
field_text Nine = codes "nine"
field_text (Pairs m r) = codes "pairs " ++ decimal m ++ codes " " ++ decimal r

-- A text that names a field has the word for its kind.
abbrev pub NamesItsKind : List ℕ → Result Named NotAField → Type 0
NamesItsKind text r = IfOk r (λ named. HasSubslice text (kind named))
