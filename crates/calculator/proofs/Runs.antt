-- Calls one after another: registers that were built with accounts are built with those that the calls draw up, and settle them.
use Rattle.std.proofs.Common.{◌≡◌, List, [], ◌∷◌, map, replicate, Ok, Err, Result, refl, ap, ◌∙◌, ap₂}
use lib.ListN.{get_or-replicate}
use Rattle.fields.specs.Arithmetic.{Arithmetic}
use Rattle.fields.specs.Lawful.{Lawful}
use Rattle.fields.specs.declared.field.Field.{Ghosts}
use Rattle.methods.specs.declared.curve.Curve.{Curve}
use Rattle.methods.specs.declared.divisor.Divisor.{Divisor}
use Rattle.methods.specs.Curves.{Accepted}
use Rattle.methods.specs.Divisors.{neutral}
use Rattle.methods.specs.Methods.{Law}
use Rattle.classes.specs.Settling.{built_neutral}
use Rattle.classes.proofs.Built.{built_valid, built_settles}
use Rattle.calculator.specs.declared.call.Call.{Call}
use Rattle.calculator.specs.declared.call.Call.TheVariants.{Enter, Add, Double, Negate, Show}
use Rattle.calculator.specs.declared.call.CallRefusal.{CallRefusal}
use Rattle.calculator.specs.declared.calculator.Calculator.{Calculator}
use Rattle.calculator.specs.Calls.{Answer, sixteen_neutral, given, next, nothing, said, verdict, nexts, replies}
use Rattle.calculator.specs.Accounts.{Account, AllBuilt, AllSettle, admitted, booked, all_booked, accounts}
use Rattle.calculator.specs.Calculators.{held, arithmetic, Fresh, Sound, gives, Left, LeftAll, Accounted, Settled}
use Rattle.calculator.proofs.Steps.{step, step-refused}

-- An answer is a refusal where the call gives one.
verdict-said : (call : Call) (r : Result Divisor CallRefusal) → verdict (said call r) ≡ nothing r
verdict-said (Enter t D) (Ok E) = refl
verdict-said (Enter t D) (Err e) = refl
verdict-said (Add t a b) (Ok E) = refl
verdict-said (Add t a b) (Err e) = refl
verdict-said (Double t a) (Ok E) = refl
verdict-said (Double t a) (Err e) = refl
verdict-said (Negate t a) (Ok E) = refl
verdict-said (Negate t a) (Err e) = refl
verdict-said (Show a) (Ok E) = refl
verdict-said (Show a) (Err e) = refl

module _ (K : Arithmetic) (L : Lawful K) (C : Curve) (accepted : Accepted K C) where
  -- Sixteen neutral registers are built with sixteen empty accounts.
  fresh_built : AllBuilt K C sixteen_neutral (replicate 16 [])
  fresh_built =
      record {
        registers_long = refl;
        accounts_long = refl;
        each = λ k lt. rw (get_or-replicate 16 k neutral neutral lt, get_or-replicate {A = Account} 16 k [] [] lt) built_neutral;
      }

  steps : (rs : List Divisor) (books : List Account) (calls : List Call) → AllBuilt K C rs books
      → AllBuilt K C (nexts K C rs calls) (all_booked K C books calls)
  steps rs books [] before = before
  steps rs books (call ∷ calls) before =
      steps (next K C rs call) (booked K C books call) calls (step K L C accepted rs books before call)

  steps_refused : (rs : List Divisor) (books : List Account) (calls : List Call) → AllBuilt K C rs books
      → map verdict (replies K C rs calls) ≡ map (admitted K C) calls
  steps_refused rs books [] before = refl
  steps_refused rs books (call ∷ calls) before =
      ap₂ ◌∷◌ (verdict-said call (given K C rs call) ∙ step-refused K L C accepted rs books before call)
      (steps_refused (next K C rs call) (booked K C books call) calls (step K L C accepted rs books before call))

  built_settle : (rs : List Divisor) (books : List Account) → AllBuilt K C rs books → AllSettle K C rs books
  built_settle rs books built =
      record {
        registers_long = built.registers_long;
        accounts_long = built.accounts_long;
        each = λ k lt. (built_valid K L C accepted (built.each k lt), built_settles K L C accepted (built.each k lt));
      }

  -- After any calls to sixteen neutral registers each register settles the account that the calls draw up.
  pub nexts_settle : (calls : List Call) → AllSettle K C (nexts K C sixteen_neutral calls) (accounts K C calls)
  nexts_settle calls =
      built_settle (nexts K C sixteen_neutral calls) (accounts K C calls) (steps sixteen_neutral (replicate 16 []) calls fresh_built)

module _ {F M : Type 0} {field : Ghosts F} {law : Law} {old new : Calculator F M} where
  pub accounted_all : {calls : List Call} {answers : List Answer} → LeftAll field law calls old new answers
      → Accounted field law calls old new answers
  accounted_all {calls} left =
      let K = arithmetic field old in
      let C = old.model.curve in
      record {
        refused = λ sound books before.
            ap (map verdict) (left.answered sound) ∙ steps_refused K sound.lawful C sound.accepted (held old) books calls before;
        built = λ sound books before.
            rw (left.registers sound) (steps K sound.lawful C sound.accepted (held old) books calls before);
      }

  -- The same of one call.
  pub accounted : {call : Call} {answer : Answer} → (Sound field law old → answer ≡ said call (gives field old call))
      → Left field law call old new → Accounted field law (call ∷ []) old new (answer ∷ [])
  accounted answered left =
      accounted_all
      (record { model = left.model; answered = λ sound. ap (λ a. a ∷ []) (answered sound); registers = left.registers })

  -- From a fresh calculator each register settles the account that the calls draw up.
  pub settled : {calls : List Call} {answers : List Answer} → Accounted field law calls old new answers
      → Settled field law calls old new answers
  settled {calls} law_holds =
      let K = arithmetic field old in
      let C = old.model.curve in
      let start : Sound field law old → Fresh old → AllBuilt K C (held old) (replicate 16 []) =
      λ sound fresh. rw fresh (fresh_built K sound.lawful C sound.accepted) in
      record {
        refused = λ sound fresh. law_holds.refused sound (replicate 16 []) (start sound fresh);
        settled = λ sound fresh.
            built_settle K sound.lawful C sound.accepted (held new) (accounts K C calls)
            (law_holds.built sound (replicate 16 []) (start sound fresh));
      }
