-- The numbers of the refusals of records and of sheets, and what the call of a host program answers.
use Rattle.std.specs.Prelude.{ℕ, ◌+◌, Ok, Err, Result}
use Rattle.fields.specs.Refusals.{refusal_number}
use Rattle.methods.specs.Curves.{curve_refusal_number}
use Rattle.calculator.specs.Calls.{call_refusal_number}
use Rattle.run.specs.declared.refusal.Refusal.{Refusal}
use Rattle.run.specs.declared.refusal.Refusal.TheVariants.{Field, Curve, Call, Sheet, Short, Unknown, OutOfTurn}
use Rattle.run.specs.declared.refusal.SheetRefusal.{SheetRefusal}
use Rattle.run.specs.declared.refusal.SheetRefusal.TheVariants.{OutputLength, SheetLength}

abbrev pub sheet_refusal_number : SheetRefusal → ℕ
sheet_refusal_number OutputLength = 3
sheet_refusal_number SheetLength = 13

-- A sheet ends inside a record on 10, a kind is unknown on 11, and a record is out of turn on 12.
abbrev pub run_refusal_number : Refusal → ℕ
run_refusal_number (Field e) = refusal_number e
run_refusal_number (Curve e) = curve_refusal_number e
run_refusal_number (Call e) = call_refusal_number e
run_refusal_number (Sheet e) = sheet_refusal_number e
run_refusal_number Short = 10
run_refusal_number Unknown = 11
run_refusal_number OutOfTurn = 12

-- The number of bytes written, or 65,536 and the number of the refusal.
abbrev pub host_answer : Result ℕ SheetRefusal → ℕ
host_answer (Ok n) = n
host_answer (Err e) = 65536 + sheet_refusal_number e
