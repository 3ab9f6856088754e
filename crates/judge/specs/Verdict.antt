-- Which field a request asks for, and which verdict it gets.
use Rattle.std.specs.Prelude.{◌≡◌, ℕ, Ok, Err, Result}
use Rattle.fields.specs.Arithmetic.{Arithmetic}
use Rattle.fields.specs.Lawful.{Lawful}
use Rattle.fields.specs.Residues.{residues, fill_answer}
use Rattle.fields.specs.Nine.{nine}
use Rattle.fields.specs.Pairs.{pairs, pairs_answer}
use Rattle.fields.specs.declared.refusal.FieldRefusal.{FieldRefusal}
use Rattle.judge.specs.Report.{Reported}
use Rattle.judge.specs.declared.report.Report.{Report}
use Rattle.judge.specs.declared.request.Base.{Base}
use Rattle.judge.specs.declared.request.Base.TheVariants.{Residues, Nine}
use Rattle.judge.specs.declared.request.Tower.{Tower}
use Rattle.judge.specs.declared.request.Tower.TheVariants.{Plain, Once, Twice}
use Rattle.judge.specs.declared.verdict.NoField.{NoField}
use Rattle.judge.specs.declared.verdict.NoField.TheVariants.{NoBase, NoPairs}

-- a field, or why there is none
abbrev pub Asked : Type 0
Asked = Result Arithmetic NoField

-- a report on a field, or why there is none
abbrev pub Verdict : Type 0
Verdict = Result Report NoField

-- the field where its making answers that it is made, and else why there is none
abbrev pub accepted : Result (Unit {0}) FieldRefusal → Arithmetic → (FieldRefusal → NoField) → Asked
accepted (Ok _) K no_field = Ok K
accepted (Err e) K no_field = Err (no_field e)

-- the base field that is asked for
abbrev pub base_asked : Base → Asked
base_asked (Residues m) = accepted (fill_answer m m) (residues m) NoBase
base_asked Nine = Ok nine

-- the pairs with t² = r over K
abbrev pub pairs_asked : Arithmetic → ℕ → Asked
pairs_asked K r = accepted (pairs_answer K r) (pairs K K.size r) (NoPairs r)

-- a field over the one that is asked for, if there is that one
abbrev pub over : Asked → (Arithmetic → Asked) → Asked
over (Ok K) field = field K
over (Err w) field = Err w

-- what is built on K
abbrev pub tower_asked : Arithmetic → Tower → Asked
tower_asked K Plain = Ok K
tower_asked K (Once r) = pairs_asked K r
tower_asked K (Twice r s) = over (pairs_asked K r) (λ L. pairs_asked L s)

-- The field is lawful, and the verdict reports on it; or the verdict is that there is none.
abbrev pub Judges : Asked → Verdict → Type 0
Judges (Ok K) v = Lawful K × ((x : Report) × (v ≡ Ok x) × Reported K x)
Judges (Err w) v = v ≡ Err w
