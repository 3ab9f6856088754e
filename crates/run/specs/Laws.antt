-- Laws of a run, in terms of sheets, of the bytes that are written, and of what the registers hold.
use Rattle.std.specs.Prelude.{◌≡◌, ℕ, ◌<◌, ◌≤◌, List, [], ◌∷◌, ◌++◌, length, Some, None, slice_set}
use Rattle.fields.specs.Arithmetic.{Arithmetic}
use Rattle.fields.specs.Lawful.{Lawful}
use Rattle.methods.specs.declared.curve.Curve.{Curve}
use Rattle.methods.specs.declared.divisor.Divisor.{Divisor}
use Rattle.methods.specs.Curves.{Accepted}
use Rattle.calculator.specs.declared.call.Call.{Call}
use Rattle.calculator.specs.Calls.{at, sixteen_neutral, nexts}
use Rattle.calculator.specs.Accounts.{AllSettle, accounts}
use Rattle.run.specs.Bytes.{divisor_at, divisor_bytes}
use Rattle.run.specs.Records.{Command, modulus, nine_elements, square_root, coefficients, call, Kind, kind_at, whole, reading}
use Rattle.run.specs.Progress.{Progress, start, based, paired, ready, step}
use Rattle.run.specs.Run.{sheet_of, reached, run_from, run_bytes}

-- Bytes that are whole records one after another, and bytes that are one record.
abbrev pub Whole : List ℕ → Type 0
Whole bytes = (sheet_of bytes).stop ≡ []

abbrev pub One : List ℕ → Type 0
One bytes = (c : Command) × (reading bytes ≡ whole c [])

-- How far a run from p is behind the records of some bytes.
abbrev pub behind : Progress → List ℕ → Progress
behind p bytes = reached p (sheet_of bytes).commands

-- The answers come record for record: what follows whole records is answered from where these have brought the run. A run stops where
-- the sheet ends inside a record, on 10, and at an unknown kind, on 11, whatever bytes there are behind it.
pub record RecordForRecord (sheet : List ℕ) : Type 0 where
  pub goes_on : (a b : List ℕ) → sheet ≡ a ++ b → Whole a → run_bytes sheet ≡ run_bytes a ++ run_from (behind start a) b
  pub ends_inside : (a b : List ℕ) (kind : ℕ) (k : Kind) → sheet ≡ a ++ (kind ∷ b) → Whole a → kind_at kind ≡ Some k → length b < k.size
      → run_bytes sheet ≡ run_bytes a ++ (17 ∷ kind ∷ 10 ∷ [])
  pub stops : (a b : List ℕ) (kind : ℕ) → sheet ≡ a ++ (kind ∷ b) → Whole a → kind_at kind ≡ None
      → run_bytes sheet ≡ run_bytes a ++ (17 ∷ kind ∷ 11 ∷ [])

-- A record r that is refused, between whole records a and bytes b, leaves everything as if it had not been there: its refusal is
-- written, and b is answered as it would be right behind a.
pub record AsIfAbsent (a r b : List ℕ) (kind number : ℕ) : Type 0 where
  pub written : run_bytes (a ++ (r ++ b)) ≡ run_bytes a ++ (17 ∷ kind ∷ number ∷ run_from (behind start a) b)
  pub left : behind start (a ++ r) ≡ behind start a

abbrev pub RefusedAsAbsent : List ℕ → Type 0
RefusedAsAbsent sheet =
    (a r b : List ℕ) (kind number : ℕ) → sheet ≡ a ++ (r ++ b) → Whole a → One r
    → run_from (behind start a) r ≡ 17 ∷ kind ∷ number ∷ [] → AsIfAbsent a r b kind number

-- The calls that records make, in turn.
abbrev pub sent_to : Progress → Call → List Call
sent_to start c = []
sent_to (based K) c = []
sent_to (paired K) c = []
sent_to (ready K C rs) c = c ∷ []

abbrev pub sent : Progress → Command → List Call
sent p (modulus m) = []
sent p nine_elements = []
sent p (square_root r) = []
sent p (coefficients C) = []
sent p (call c) = sent_to p c

abbrev pub calls_sent : Progress → List Command → List Call
calls_sent p [] = []
calls_sent p (c ∷ cs) = sent p c ++ calls_sent (step p c).after cs

-- The field is lawful and the curve accepted; the registers are those of a calculator that was sent the calls; and each of them
-- holds a valid divisor that settles the account which the calls draw up for it.
pub record Kept (K : Arithmetic) (C : Curve) (rs : List Divisor) (calls : List Call) : Type 0 where
  pub lawful : Lawful K
  pub accepted : Accepted K C
  pub registers : rs ≡ nexts K C sixteen_neutral calls
  pub settled : AllSettle K C rs (accounts K C calls)

abbrev pub RegistersKept : List ℕ → Type 0
RegistersKept sheet =
    (K : Arithmetic) (C : Curve) (rs : List Divisor) → behind start sheet ≡ ready K C rs → Kept K C rs (calls_sent start (sheet_of sheet).commands)

-- Show writes the ten bytes of a register's divisor, and these read back are the divisor; they are accepted by Enter, into any
-- register t, which then holds the same divisor.
pub record ShownAgain (K : Arithmetic) (C : Curve) (rs : List Divisor) (k t : ℕ) : Type 0 where
  pub shows : run_from (ready K C rs) (9 ∷ k ∷ []) ≡ 16 ∷ k ∷ divisor_bytes (at rs k)
  pub reads_back : divisor_at (divisor_bytes (at rs k)) ≡ at rs k
  pub accepted : run_from (ready K C rs) (5 ∷ t ∷ divisor_bytes (at rs k)) ≡ []
  pub entered : behind (ready K C rs) (5 ∷ t ∷ divisor_bytes (at rs k)) ≡ ready K C (slice_set rs t (at rs k))

abbrev pub AllShownAgain : List ℕ → Type 0
AllShownAgain sheet =
    (K : Arithmetic) (C : Curve) (rs : List Divisor) → behind start sheet ≡ ready K C rs
    → (k t : ℕ) → k < 16 → t < 16 → ShownAgain K C rs k t

-- No output is longer than 24,576 bytes.
abbrev pub Roomy : List ℕ → Type 0
Roomy sheet = length sheet ≤ 4096 → length (run_bytes sheet) ≤ 24576

-- All the laws, of one sheet.
pub record Laws (sheet : List ℕ) : Type 0 where
  pub records : RecordForRecord sheet
  pub refusals : RefusedAsAbsent sheet
  pub registers : RegistersKept sheet
  pub shown : AllShownAgain sheet
  pub room : Roomy sheet
