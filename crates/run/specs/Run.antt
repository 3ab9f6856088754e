-- The run of a sheet: what is written, record for record, and what the call of a host program answers and leaves.
use Rattle.std.specs.Prelude.{ℕ, zero, suc, ◌+◌, cond, List, [], ◌∷◌, ◌++◌, length, drop, Ok, Err, Result, ◌==◌, nat_le}
use Rattle.run.specs.declared.reply.Reply.TheVariants.{Refused}
use Rattle.run.specs.declared.refusal.Refusal.TheVariants.{Sheet as RefusedSheet, Short, Unknown}
use Rattle.run.specs.declared.refusal.SheetRefusal.{SheetRefusal}
use Rattle.run.specs.declared.refusal.SheetRefusal.TheVariants.{OutputLength, SheetLength}
use Rattle.run.specs.Records.{Command, end, whole, short, unknown, reading}
use Rattle.run.specs.Progress.{Progress, start, reply_bytes, step}

-- A sheet by its records: the whole ones, and what is written where the run stops at another, on 10 or 11.
pub record Sheet : Type 0 where
  pub commands : List Command
  pub stop : List ℕ

abbrev pub stopped : List ℕ → Sheet
stopped bytes = record { commands = []; stop = bytes }

abbrev pub first : Command → Sheet → Sheet
first c sheet = record { commands = c ∷ sheet.commands; stop = sheet.stop }

-- at most n records from the front of a sheet
abbrev pub records : ℕ → List ℕ → Sheet
records zero bytes = stopped []
records (suc n) bytes =
    elim (reading bytes) [
      | end ↦ stopped []
      | whole c rest ↦ first c (records n rest)
      | short kind ↦ stopped (reply_bytes (Refused kind Short))
      | unknown kind ↦ stopped (reply_bytes (Refused kind Unknown))
    ]

-- A record takes a byte at least.
unfoldable pub sheet_of : List ℕ → Sheet
sheet_of bytes = records (length bytes) bytes

-- What is written for records one after another, and how far the run is after them.
abbrev pub written : Progress → List Command → List ℕ
written p [] = []
written p (c ∷ cs) = reply_bytes (step p c).reply ++ written (step p c).after cs

abbrev pub reached : Progress → List Command → Progress
reached p [] = p
reached p (c ∷ cs) = reached (step p c).after cs

-- What a run writes from where it is, and from the start.
unfoldable pub run_from : Progress → List ℕ → List ℕ
run_from p bytes = written p (sheet_of bytes).commands ++ (sheet_of bytes).stop

abbrev pub run_bytes : List ℕ → List ℕ
run_bytes bytes = run_from start bytes

-- The call of a host program: 3 where the output is not of 24,576 bytes, then 13 where the sheet is of over 4,096, with nothing
-- written; else the number of bytes written, and the output with these bytes in front.
abbrev pub by_size : {X : Type 0} → List ℕ → List ℕ → (bad_output bad_sheet : X) → X → X
by_size sheet output bad_output bad_sheet x = cond (length output == 24576) (cond (nat_le (length sheet) 4096) x bad_sheet) bad_output

abbrev pub run_answer : List ℕ → List ℕ → ℕ
run_answer sheet output = by_size sheet output (65536 + 3) (65536 + 13) (length (run_bytes sheet))

-- the same as a count of bytes or a refusal
abbrev pub run_result : List ℕ → List ℕ → Result ℕ SheetRefusal
run_result sheet output = by_size sheet output (Err OutputLength) (Err SheetLength) (Ok (length (run_bytes sheet)))

abbrev pub run_output : List ℕ → List ℕ → List ℕ
run_output sheet output = by_size sheet output output output (run_bytes sheet ++ drop (length (run_bytes sheet)) output)

-- The program writes the bytes of the run; a sheet of over 4,096 bytes gets 17, 0 and 13.
abbrev pub program_bytes : List ℕ → List ℕ
program_bytes sheet = cond (nat_le (length sheet) 4096) (run_bytes sheet) (reply_bytes (Refused 0 (RefusedSheet SheetLength)))
