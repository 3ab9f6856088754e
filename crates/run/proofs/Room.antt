-- A run never writes more than six times the length of its sheet.
use Rattle.std.proofs.Common.{◌≡◌, ℕ, zero, suc, ◌*◌, ◌≤◌, List, ◌++◌, length, Some, None, Ok, Err, Result, refl, ap, append_assoc, arith, length-append}
use Rattle.fields.specs.Pairs.{pairs, pairs_answer}
use Rattle.fields.specs.Residues.{residues, fill_answer}
use Rattle.methods.specs.Curves.{curve_answer}
use Rattle.calculator.specs.declared.call.Call.{Call}
use Rattle.calculator.specs.declared.call.Call.TheVariants.{Enter, Add, Double, Negate, Show}
use Rattle.calculator.specs.Calls.{Answer, sixteen_neutral, reply}
use Rattle.run.specs.declared.refusal.Refusal.{Refusal}
use Rattle.run.specs.declared.refusal.Refusal.TheVariants.{Field as RefusedField, Curve as RefusedCurve}
use Rattle.run.specs.Records.{Command, least_size, least_size_of_call, Reading, end, whole, short, unknown, reading}
use Rattle.run.specs.Progress.{Progress, start, based, paired, ready, reply_bytes, replied, step, chosen}
use Rattle.run.specs.Run.{Sheet, records, sheet_of, written, run_from}
use Rattle.run.proofs.Order.{Turn, residues_first, nine_first, pairs_next, curve_on_base, curve_on_pairs, call_last, none, turn_of}
use Rattle.run.proofs.Sheets.{records_by, whole_shorter, short_some, unknown_some, least_some}

replied_room : (c : Call) (a : Answer) → length (reply_bytes (replied c a)) ≤ 6 * least_size_of_call c
replied_room (Enter t D) (Err e) = omega arith
replied_room (Enter t D) (Ok (Some E)) = omega arith
replied_room (Enter t D) (Ok None) = omega arith
replied_room (Add t a b) (Err e) = omega arith
replied_room (Add t a b) (Ok (Some E)) = omega arith
replied_room (Add t a b) (Ok None) = omega arith
replied_room (Double t a) (Err e) = omega arith
replied_room (Double t a) (Ok (Some E)) = omega arith
replied_room (Double t a) (Ok None) = omega arith
replied_room (Negate t a) (Err e) = omega arith
replied_room (Negate t a) (Ok (Some E)) = omega arith
replied_room (Negate t a) (Ok None) = omega arith
replied_room (Show a) (Err e) = omega arith
replied_room (Show a) (Ok (Some E)) = omega arith
replied_room (Show a) (Ok None) = omega arith

choice_room : {E : Type 0} (why : E → Refusal) (p : Progress) (kind : ℕ) (q : Progress) (answer : Result (Unit {0}) E)
    → length (reply_bytes (chosen why p kind q answer).reply) ≤ 3
choice_room why p kind q (Ok _) = omega arith
choice_room why p kind q (Err e) = omega arith

turn_room : (p : Progress) (c : Command) → Turn p c → length (reply_bytes (step p c).reply) ≤ 6 * least_size c
unfolding step
turn_room _ _ (residues_first m) =
    let h = choice_room RefusedField start 1 (based (residues m)) (fill_answer m m) in
    omega arith
turn_room _ _ nine_first = omega arith
turn_room _ _ (pairs_next K r) =
    let h = choice_room RefusedField (based K) 3 (paired (pairs K K.size r)) (pairs_answer K r) in
    omega arith
turn_room _ _ (curve_on_base K C) =
    let h = choice_room RefusedCurve (based K) 4 (ready K C sixteen_neutral) (curve_answer K C) in
    omega arith
turn_room _ _ (curve_on_pairs K C) =
    let h = choice_room RefusedCurve (paired K) 4 (ready K C sixteen_neutral) (curve_answer K C) in
    omega arith
turn_room _ _ (call_last K C rs c) = replied_room c (reply K C rs c)
turn_room _ _ (none p c late unsent) =
    let three : length (reply_bytes (step p c).reply) ≡ 3 = ap (λ x. length (reply_bytes x.reply)) late in
    let some = least_some c in
    omega arith

step_room : (p : Progress) (c : Command) → length (reply_bytes (step p c).reply) ≤ 6 * least_size c
step_room p c = turn_room p c (turn_of p c)

-- what a run writes of a sheet by its records
abbrev all_written : Progress → Sheet → List ℕ
all_written p s = written p s.commands ++ s.stop

room_by : (p : Progress) (more : List ℕ → Sheet) (xs : List ℕ)
    → ((q : Progress) (rest : List ℕ) → length (all_written q (more rest)) ≤ 6 * length rest)
    → (r : Reading) → reading xs ≡ r → length (all_written p (records_by more r)) ≤ 6 * length xs
room_by p more xs each end e = omega arith
room_by p more xs each (whole c rest) e =
    let shorter = whole_shorter xs c rest e in
    let first = step_room p c in
    let behind = each (step p c).after rest in
    let bytes : List ℕ = reply_bytes (step p c).reply in
    rw (append_assoc bytes (written (step p c).after (more rest).commands) (more rest).stop, length-append bytes) (omega arith)
room_by p more xs each (short kind) e = let some = short_some xs kind e in omega arith
room_by p more xs each (unknown kind) e = let some = unknown_some xs kind e in omega arith

records_room : (n : ℕ) (p : Progress) (xs : List ℕ) → length (all_written p (records n xs)) ≤ 6 * length xs
records_room zero p xs = omega arith
records_room (suc n) p xs = room_by p (records n) xs (records_room n) (reading xs) refl

pub run_room : (p : Progress) (xs : List ℕ) → length (run_from p xs) ≤ 6 * length xs
unfolding run_from sheet_of
run_room p xs = records_room (length xs) p xs
