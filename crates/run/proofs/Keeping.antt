-- The registers behind a run are those of a calculator that was sent the calls of its records, and settle their accounts.
use Rattle.std.proofs.Common.{◌≡◌, ℕ, List, [], ◌∷◌, ◌++◌, Ok, Err, Result, sym, refl, ap, ◌∙◌, subst, append_assoc, append-nil}
use Rattle.fields.specs.Arithmetic.{Arithmetic}
use Rattle.fields.specs.Pairs.{pairs, pairs_answer}
use Rattle.fields.specs.Residues.{residues, fill_answer}
use Rattle.methods.specs.declared.curve.Curve.{Curve}
use Rattle.methods.specs.declared.divisor.Divisor.{Divisor}
use Rattle.methods.specs.Curves.{curve_answer}
use Rattle.calculator.specs.declared.call.Call.{Call}
use Rattle.calculator.specs.Calls.{sixteen_neutral, next, nexts}
use Rattle.calculator.specs.Accounts.{AllSettle, accounts}
use Rattle.calculator.proofs.Runs.{nexts_settle}
use Rattle.run.specs.declared.refusal.Refusal.{Refusal}
use Rattle.run.specs.declared.refusal.Refusal.TheVariants.{Field as RefusedField, Curve as RefusedCurve}
use Rattle.run.specs.Records.{Command}
use Rattle.run.specs.Progress.{Progress, start, based, paired, ready, Standing, step, chosen}
use Rattle.run.specs.Run.{reached, sheet_of}
use Rattle.run.specs.Laws.{behind, sent, calls_sent, Kept}
use Rattle.run.proofs.Order.{Turn, residues_first, nine_first, pairs_next, curve_on_base, curve_on_pairs, call_last, none, turn_of}
use Rattle.run.proofs.Standing.{step_standing}

-- The calls so far, behind which the registers are as they are; none were sent before there is a curve.
abbrev Holds : Progress → List Call → Type 0
Holds start calls = calls ≡ []
Holds (based K) calls = calls ≡ []
Holds (paired K) calls = calls ≡ []
Holds (ready K C rs) calls = rs ≡ nexts K C sixteen_neutral calls

nexts-append : (K : Arithmetic) (C : Curve) (rs : List Divisor) (xs ys : List Call) → nexts K C rs (xs ++ ys) ≡ nexts K C (nexts K C rs xs) ys
nexts-append K C rs [] ys = refl
nexts-append K C rs (c ∷ xs) ys = nexts-append K C (next K C rs c) xs ys

module _ (calls : List Call) where
  none_more : (p : Progress) → Holds p calls → Holds p (calls ++ [])
  none_more p h = subst (Holds p) (sym (append-nil calls)) h

  choice_holds : {E : Type 0} (why : E → Refusal) (p : Progress) (kind : ℕ) (q : Progress) (answer : Result (Unit {0}) E)
      → Holds p calls → Holds q calls → Holds (chosen why p kind q answer).after (calls ++ [])
  choice_holds why p kind q (Ok _) before after = none_more q after
  choice_holds why p kind q (Err e) before after = none_more p before

  fresh_holds : (K : Arithmetic) (C : Curve) → calls ≡ [] → Holds (ready K C sixteen_neutral) calls
  fresh_holds K C empty = sym (ap (nexts K C sixteen_neutral) empty)

  turn_holds : (p : Progress) (c : Command) → Turn p c → Holds p calls → Holds (step p c).after (calls ++ sent p c)
  unfolding step
  turn_holds _ _ (residues_first m) h = choice_holds RefusedField start 1 (based (residues m)) (fill_answer m m) h h
  turn_holds _ _ nine_first h = none_more start h
  turn_holds _ _ (pairs_next K r) h =
      choice_holds RefusedField (based K) 3 (paired (pairs K K.size r)) (pairs_answer K r) h h
  turn_holds _ _ (curve_on_base K C) h =
      choice_holds RefusedCurve (based K) 4 (ready K C sixteen_neutral) (curve_answer K C) h (fresh_holds K C h)
  turn_holds _ _ (curve_on_pairs K C) h =
      choice_holds RefusedCurve (paired K) 4 (ready K C sixteen_neutral) (curve_answer K C) h (fresh_holds K C h)
  turn_holds _ _ (call_last K C rs c) h =
      ap (λ xs. next K C xs c) h ∙ sym (nexts-append K C sixteen_neutral calls (c ∷ []))
  turn_holds _ _ (none p c late unsent) h =
      subst (λ q. Holds q (calls ++ sent p c)) (sym (ap (λ x. x.after) late))
      (subst (λ xs. Holds p (calls ++ xs)) (sym unsent) (none_more p h))

all_hold : (p : Progress) (cs : List Command) (calls : List Call) → Holds p calls → Holds (reached p cs) (calls ++ calls_sent p cs)
all_hold p [] calls h = none_more calls p h
all_hold p (c ∷ cs) calls h =
    subst (Holds (reached p (c ∷ cs))) (append_assoc calls (sent p c) (calls_sent (step p c).after cs))
    (all_hold (step p c).after cs (calls ++ sent p c) (turn_holds calls p c (turn_of p c) h))

all_standing : (p : Progress) (cs : List Command) → Standing p → Standing (reached p cs)
all_standing p [] s = s
all_standing p (c ∷ cs) s = all_standing (step p c).after cs (step_standing p c s)

pub registers_kept : (sheet : List ℕ) (K : Arithmetic) (C : Curve) (rs : List Divisor) → behind start sheet ≡ ready K C rs
    → Kept K C rs (calls_sent start (sheet_of sheet).commands)
registers_kept sheet K C rs e =
    let cs : List Command = (sheet_of sheet).commands in
    let calls : List Call = calls_sent start cs in
    let standing : Standing (ready K C rs) = subst Standing e (all_standing start cs tt) in
    let held : rs ≡ nexts K C sixteen_neutral calls = subst (λ p. Holds p calls) e (all_hold start cs [] refl) in
    record {
      lawful = standing.0;
      accepted = standing.1;
      registers = held;
      settled = subst (λ xs. AllSettle K C xs (accounts K C calls)) (sym held) (nexts_settle K standing.0 C standing.1 calls);
    }
