-- What a method answers, and when it is lawful.
use Rattle.std.specs.Prelude.{◌≡◌, Ok, Err, Result}
use Rattle.fields.specs.Arithmetic.{Arithmetic}
use Rattle.fields.specs.Lawful.{Lawful}
use Rattle.methods.specs.declared.curve.Curve.{Curve}
use Rattle.methods.specs.declared.divisor.Divisor.{Divisor}
use Rattle.methods.specs.declared.divisor.DivisorRefusal.{DivisorRefusal}
use Rattle.methods.specs.Curves.{Accepted}
use Rattle.methods.specs.Divisors.{entered}
use Rattle.methods.specs.Sums.{plus, twice}

-- what a method's two functions answer
pub record Law : Type 0 where
  pub add : Arithmetic → Curve → Divisor → Divisor → Result Divisor DivisorRefusal
  pub double : Arithmetic → Curve → Divisor → Result Divisor DivisorRefusal

-- the second answer, unless the first is a refusal
abbrev pub after : {X Y E : Type 0} → Result X E → Result Y E → Result Y E
after (Ok _) r = r
after (Err e) r = Err e

-- The sum of valid divisors; others are refused as they would be on entry, the first operand first.
abbrev pub added : Arithmetic → Curve → Divisor → Divisor → Result Divisor DivisorRefusal
added K C D E = after (entered K C D) (after (entered K C E) (Ok (plus K C D E)))

abbrev pub doubled : Arithmetic → Curve → Divisor → Result Divisor DivisorRefusal
doubled K C D = after (entered K C D) (Ok (twice K C D))

-- A lawful method gives sums and doubles on every accepted curve over every lawful field, and refuses on nothing else.
pub record LawfulMethod (law : Law) : Type 0 where
  pub adds : (K : Arithmetic) (C : Curve) → Lawful K → Accepted K C → (D E : Divisor) → law.add K C D E ≡ added K C D E
  pub doubles : (K : Arithmetic) (C : Curve) → Lawful K → Accepted K C → (D : Divisor) → law.double K C D ≡ doubled K C D

-- what the rules give
abbrev pub the_law : Law
the_law = record { add = added; double = doubled }
