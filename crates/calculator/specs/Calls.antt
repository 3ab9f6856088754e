-- The five calls on sixteen registers: what a call gives, what it answers and what the registers hold after it, by the sums,
-- doubles and negatives of divisors. Then the same of calls one after another.
use Rattle.std.specs.Prelude.{ℕ, cond, List, [], ◌∷◌, replicate, None, Some, Option, Ok, Err, Result, nat_lt, slice_index_or, slice_set}
use Rattle.fields.specs.Arithmetic.{Arithmetic}
use Rattle.methods.specs.declared.curve.Curve.{Curve}
use Rattle.methods.specs.declared.divisor.Divisor.{Divisor}
use Rattle.methods.specs.declared.divisor.DivisorRefusal.{DivisorRefusal}
use Rattle.methods.specs.Divisors.{neutral, entered, opposite, divisor_refusal_number}
use Rattle.methods.specs.Methods.{added, doubled}
use Rattle.calculator.specs.declared.call.Call.{Call}
use Rattle.calculator.specs.declared.call.Call.TheVariants.{Enter, Add, Double, Negate, Show}
use Rattle.calculator.specs.declared.call.CallRefusal.{CallRefusal}
use Rattle.calculator.specs.declared.call.CallRefusal.TheVariants.{NoSuchRegister, InvalidDivisor}

-- The numbers of the refusals.
abbrev pub call_refusal_number : CallRefusal → ℕ
call_refusal_number NoSuchRegister = 1
call_refusal_number (InvalidDivisor e) = divisor_refusal_number e

-- What register k holds.
abbrev pub at : List Divisor → ℕ → Divisor
at rs k = slice_index_or rs k neutral

-- The registers at first.
abbrev pub sixteen_neutral : List Divisor
sixteen_neutral = replicate 16 neutral

-- Registers are numbered from 0 to 15, and any other number is refused, before all else.
abbrev pub numbered : {X : Type 0} → ℕ → Result X CallRefusal → Result X CallRefusal
numbered k r = cond (nat_lt k 16) r (Err NoSuchRegister)

-- A divisor that is refused refuses the call.
abbrev pub or_invalid : {X : Type 0} → Result X DivisorRefusal → Result X CallRefusal
or_invalid (Ok x) = Ok x
or_invalid (Err e) = Err (InvalidDivisor e)

-- The divisor that a call gives, from what the registers hold before it; or why the call is refused.
abbrev pub given : Arithmetic → Curve → List Divisor → Call → Result Divisor CallRefusal
given K C rs (Enter t D) = numbered t (or_invalid (entered K C D))
given K C rs (Add t a b) = numbered t (numbered a (numbered b (or_invalid (added K C (at rs a) (at rs b)))))
given K C rs (Double t a) = numbered t (numbered a (or_invalid (doubled K C (at rs a))))
given K C rs (Negate t a) = numbered t (numbered a (Ok (opposite K (at rs a))))
given K C rs (Show a) = numbered a (Ok (at rs a))

-- What is given goes to a target, and nothing changes on a refusal.
abbrev pub put : {X : Type 0} → List X → ℕ → Result X CallRefusal → List X
put xs t (Ok x) = slice_set xs t x
put xs t (Err e) = xs

-- The target of each call; Show has none.
abbrev pub posted : {X : Type 0} → List X → Call → Result X CallRefusal → List X
posted xs (Enter t D) r = put xs t r
posted xs (Add t a b) r = put xs t r
posted xs (Double t a) r = put xs t r
posted xs (Negate t a) r = put xs t r
posted xs (Show a) r = xs

-- The registers after a call.
abbrev pub next : Arithmetic → Curve → List Divisor → Call → List Divisor
next K C rs call = posted rs call (given K C rs call)

-- Accepted, Show answers the divisor, and the others nothing.

abbrev pub Answer : Type 0
Answer = Result (Option Divisor) CallRefusal

abbrev pub nothing : Result Divisor CallRefusal → Result (Unit {0}) CallRefusal
nothing (Ok D) = Ok tt
nothing (Err e) = Err e

abbrev pub done : Result (Unit {0}) CallRefusal → Answer
done (Ok _) = Ok None
done (Err e) = Err e

abbrev pub shown : Result Divisor CallRefusal → Answer
shown (Ok D) = Ok (Some D)
shown (Err e) = Err e

abbrev pub said : Call → Result Divisor CallRefusal → Answer
said (Enter t D) r = done (nothing r)
said (Add t a b) r = done (nothing r)
said (Double t a) r = done (nothing r)
said (Negate t a) r = done (nothing r)
said (Show a) r = shown r

abbrev pub reply : Arithmetic → Curve → List Divisor → Call → Answer
reply K C rs call = said call (given K C rs call)

-- Whether an answer is a refusal, and which.
abbrev pub verdict : Answer → Result (Unit {0}) CallRefusal
verdict (Ok _) = Ok tt
verdict (Err e) = Err e

-- One call after another.

abbrev pub nexts : Arithmetic → Curve → List Divisor → List Call → List Divisor
nexts K C rs [] = rs
nexts K C rs (call ∷ calls) = nexts K C (next K C rs call) calls

abbrev pub replies : Arithmetic → Curve → List Divisor → List Call → List Answer
replies K C rs [] = []
replies K C rs (call ∷ calls) = reply K C rs call ∷ replies K C (next K C rs call) calls
