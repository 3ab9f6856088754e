-- What stands in a part of a text stands in the text.
use Rattle.std.proofs.Common.{◌≡◌, ◌++◌, List, ℕ, refl, sym, subst, Result, Ok, Err, IfOk}
use Rattle.std.proofs.lemmas.List.{append_assoc}
use Rattle.std.specs.Str.Iter.{HasSubslice}
use Rattle.notation.specs.declared.named.Named.{Named}
use Rattle.notation.specs.declared.named.NotAField.{NotAField}
use Rattle.notation.specs.Names.{kind, NamesItsKind}

pub within_front : (text front rest x : List ℕ) → text ≡ front ++ rest → HasSubslice front x → HasSubslice text x
within_front text front rest x cut h = (h.0, h.1 ++ rest, rw (cut, h.2, append_assoc h.0 (x ++ h.1) rest, append_assoc x h.1 rest) refl)

pub names_its_kind : (text : List ℕ) (named : Named) (r : Result Named NotAField) → IfOk r (λ field. field ≡ named) → HasSubslice text (kind named) → NamesItsKind text r
names_its_kind text named (Ok field) e h = subst (λ x. HasSubslice text (kind x)) (sym e) h
names_its_kind text named (Err why) e h = tt
