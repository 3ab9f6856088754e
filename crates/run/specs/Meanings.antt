-- What the values of the program stand for: records, and what is read of a sheet.
use Rattle.std.specs.Prelude.{◌≡◌, ℕ, List, [], Some, None, Ok, Err, Option, Result}
use Rattle.std.specs.Borrow.{Bor}
use Rattle.calculator.specs.declared.call.Call.{Call}
use Rattle.calculator.specs.declared.call.Call.TheVariants.{Enter as EnterCall, Add as AddCall, Double as DoubleCall, Negate as NegateCall, Show as ShowCall}
use Rattle.run.specs.Bytes.{curve_at, divisor_at}
use Rattle.run.specs.Records.{Command, modulus, nine_elements, square_root, coefficients, call, Reading, end, whole, short, unknown, reading}
use Rattle.run.specs.declared.record.CallRecord.{CallRecord}
use Rattle.run.specs.declared.record.CallRecord.TheVariants.{Enter, Add, Double, Negate, Show}
use Rattle.run.specs.declared.record.Record.{Record}
use Rattle.run.specs.declared.record.Record.TheVariants.{Residues, Nine, Pairs, Curve, Call as CallOf}
use Rattle.run.specs.declared.record.Records.{Records}
use Rattle.run.specs.declared.record.Unreadable.{Unreadable}
use Rattle.run.specs.declared.record.Unreadable.TheVariants.{Short, Unknown}
use Rattle.run.specs.declared.refusal.Refusal.TheVariants.{Short as CutShort, Unknown as UnknownKind}
use Rattle.run.specs.declared.reply.Reply.{Reply}
use Rattle.run.specs.declared.reply.Reply.TheVariants.{Refused}

abbrev pub called_by : CallRecord → Call
called_by (Enter t body) = EnterCall t (divisor_at body.now)
called_by (Add t a b) = AddCall t a b
called_by (Double t a) = DoubleCall t a
called_by (Negate t a) = NegateCall t a
called_by (Show a) = ShowCall a

abbrev pub said_by : Record → Command
said_by (Residues m) = modulus m
said_by Nine = nine_elements
said_by (Pairs r) = square_root r
said_by (Curve body) = coefficients (curve_at body.now)
said_by (CallOf r) = call (called_by r)

abbrev pub read_as : Result (Option (Record × Bor (List ℕ))) Unreadable → Reading
read_as (Ok None) = end
read_as (Ok (Some (r, rest))) = whole (said_by r) rest.now
read_as (Err (Short k)) = short k
read_as (Err (Unknown k)) = unknown k

-- What is written where there is no record first on a sheet.
abbrev pub unread_reply : Unreadable → Reply
unread_reply (Short k) = Refused k CutShort
unread_reply (Unknown k) = Refused k UnknownKind

-- What the records of a sheet give next: a whole record, before the rest; why there is none, before nothing; or the end.
abbrev pub NextRecord : Records → Option (Result Record Unreadable) → Records → Type 0
NextRecord s None t = reading s.rest.now ≡ end
NextRecord s (Some (Ok r)) t = reading s.rest.now ≡ whole (said_by r) t.rest.now
NextRecord s (Some (Err (Short k))) t = (reading s.rest.now ≡ short k) × (t.rest.now ≡ [])
NextRecord s (Some (Err (Unknown k))) t = (reading s.rest.now ≡ unknown k) × (t.rest.now ≡ [])
