-- The sixteen accounts, drawn up from the calls, the field and the curve alone, never from what a register holds.
use Rattle.std.specs.Prelude.{◌≡◌, ℕ, ◌<◌, List, [], ◌∷◌, ◌++◌, map, length, replicate, Ok, Err, Result, slice_index_or}
use Rattle.fields.specs.Arithmetic.{Arithmetic}
use Rattle.methods.specs.declared.curve.Curve.{Curve}
use Rattle.methods.specs.declared.divisor.Divisor.{Divisor}
use Rattle.methods.specs.Divisors.{Valid, entered, opposite}
use Rattle.classes.specs.Settling.{Settles, Built}
use Rattle.calculator.specs.declared.call.Call.{Call}
use Rattle.calculator.specs.declared.call.Call.TheVariants.{Enter, Add, Double, Negate, Show}
use Rattle.calculator.specs.declared.call.CallRefusal.{CallRefusal}
use Rattle.calculator.specs.Calls.{at, numbered, or_invalid, nothing, posted}

-- An account is a list of divisors.
abbrev pub Account : Type 0
Account = List Divisor

-- The account of register k.
abbrev pub account : List Account → ℕ → Account
account books k = slice_index_or books k []

-- Whether a call is accepted, by its arguments, the field and the curve: Enter is refused on 1, 4, 5 and 9, the others on 1.
abbrev pub admitted : Arithmetic → Curve → Call → Result (Unit {0}) CallRefusal
admitted K C (Enter t D) = numbered t (nothing (or_invalid (entered K C D)))
admitted K C (Add t a b) = numbered t (numbered a (numbered b (Ok tt)))
admitted K C (Double t a) = numbered t (numbered a (Ok tt))
admitted K C (Negate t a) = numbered t (numbered a (Ok tt))
admitted K C (Show a) = numbered a (Ok tt)

-- The account that an accepted call draws up, from the accounts as they stood before it.
abbrev pub drawn : Arithmetic → List Account → Call → Account
drawn K books (Enter t D) = D ∷ []
drawn K books (Add t a b) = account books a ++ account books b
drawn K books (Double t a) = account books a ++ account books a
drawn K books (Negate t a) = map (opposite K) (account books a)
drawn K books (Show a) = account books a

-- x, where a call is accepted
abbrev pub when : {X : Type 0} → Result (Unit {0}) CallRefusal → X → Result X CallRefusal
when (Ok _) x = Ok x
when (Err e) x = Err e

-- The accounts after a call: the target has the one that is drawn up, and all others stay; refused calls and Show change none.
abbrev pub booked : Arithmetic → Curve → List Account → Call → List Account
booked K C books call = posted books call (when (admitted K C call) (drawn K books call))

-- The accounts after calls, one after another.
abbrev pub all_booked : Arithmetic → Curve → List Account → List Call → List Account
all_booked K C books [] = books
all_booked K C books (call ∷ calls) = all_booked K C (booked K C books call) calls

-- The accounts of a list of calls, from sixteen empty ones.
abbrev pub accounts : Arithmetic → Curve → List Call → List Account
accounts K C calls = all_booked K C (replicate 16 []) calls

-- What holds of each of sixteen registers and its account.
pub record Sixteen (P : Divisor → Account → Type 0) (rs : List Divisor) (books : List Account) : Type 0 where
  pub registers_long : length rs ≡ 16
  pub accounts_long : length books ≡ 16
  pub each : (k : ℕ) → k < 16 → P (at rs k) (account books k)

-- Each register's divisor was built together with its account.
abbrev pub AllBuilt : Arithmetic → Curve → List Divisor → List Account → Type 0
AllBuilt K C = Sixteen (Built K C)

-- Each register's divisor is valid and settles its account.
abbrev pub AllSettle : Arithmetic → Curve → List Divisor → List Account → Type 0
AllSettle K C = Sixteen (λ D account. Valid K C D × Settles K C D account)
