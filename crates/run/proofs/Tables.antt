-- What the filling of a table of inverses tells.
use Rattle.std.proofs.Common.{◌≡◌, ℕ, Bool, true, false, cond, eqb, Some, None, Ok, Err, Option, Result, refl}
use Rattle.fields.specs.Lawful.{Lawful}
use Rattle.fields.specs.Residues.{inverses, residues, taken, without_inverse, filled_or, fill_answer}
use Rattle.fields.specs.declared.refusal.FieldRefusal.{FieldRefusal}
use Rattle.fields.specs.declared.refusal.FieldRefusal.TheVariants.{Modulus, TableLength}
use Rattle.fields.proofs.LawfulResidues.{filled_lawful}

-- What filling a table of n entries answers, by its three conditions.
answer_by : Bool → Bool → Option ℕ → Result (Unit {0}) FieldRefusal
answer_by taken fits missing = cond taken (cond fits (filled_or missing) (Err TableLength)) (Err Modulus)

-- Where filling is accepted, the residues are a lawful field.
answer-accepted : (t fits : Bool) (missing : Option ℕ) → answer_by t fits missing ≡ Ok tt → (t ≡ true) × (missing ≡ None)
unfolding answer_by
answer-accepted true true None ok = (refl, refl)
answer-accepted true true (Some a) ok = absurd cc
answer-accepted true false missing ok = absurd cc
answer-accepted false fits missing ok = absurd cc

pub accepted_lawful : (m : ℕ) → fill_answer m m ≡ Ok tt → Lawful (residues m)
unfolding answer_by
accepted_lawful m ok =
    let parts = answer-accepted (taken m) (eqb m m) (without_inverse m) ok in
    filled_lawful m (inverses m) (record { modulus = parts.0; all_inverses = parts.1; entries = refl })
