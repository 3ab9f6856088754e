-- What the contracts say of a calculator: what a call leaves, what a list of calls leaves, the account theorem, and the agreement
-- of two calculators. F is the type of the field and M that of the method; `field.meaning` is the meaning that F gives its values,
-- and `law` is what the method answers.
use Rattle.std.specs.Prelude.{◌≡◌, List, map, Result}
use Rattle.fields.specs.Arithmetic.{Arithmetic}
use Rattle.fields.specs.Lawful.{Lawful}
use Rattle.fields.specs.declared.field.Field.{Ghosts}
use Rattle.methods.specs.declared.curve.Curve.{Curve}
use Rattle.methods.specs.declared.divisor.Divisor.{Divisor}
use Rattle.methods.specs.Curves.{Accepted}
use Rattle.methods.specs.Methods.{Law, LawfulMethod}
use Rattle.calculator.specs.declared.call.Call.{Call}
use Rattle.calculator.specs.declared.call.CallRefusal.{CallRefusal}
use Rattle.calculator.specs.declared.call.Exchange.{Exchange}
use Rattle.calculator.specs.declared.agreement.Comparison.{Comparison}
use Rattle.calculator.specs.declared.calculator.Calculator.{Calculator}
use Rattle.calculator.specs.Calls.{Answer, sixteen_neutral, given, next, verdict, nexts, replies}
use Rattle.calculator.specs.Accounts.{Account, AllBuilt, AllSettle, admitted, all_booked, accounts}

-- The calls of a list of exchanges, and their answers; the same of comparisons.

abbrev pub calls_of : List Exchange → List Call
calls_of = map (λ x. x.call)

abbrev pub answers_of : List Exchange → List Answer
answers_of = map (λ x. x.answer)

abbrev pub compared_calls : List Comparison → List Call
compared_calls = map (λ x. x.call)

abbrev pub first_answers : List Comparison → List Answer
first_answers = map (λ x. x.first)

abbrev pub second_answers : List Comparison → List Answer
second_answers = map (λ x. x.second)

module _ {F M : Type 0} where
  -- the divisors in the registers
  abbrev pub held : Calculator F M → List Divisor
  held c = c.registers.divisors

  -- A calculator is fresh until its first call: all its registers are neutral.
  abbrev pub Fresh : Calculator F M → Type 0
  Fresh c = held c ≡ sixteen_neutral

  module _ (field : Ghosts F) where
    -- the meaning of the field
    abbrev pub arithmetic : Calculator F M → Arithmetic
    arithmetic c = field.meaning c.model.field

    -- a definition over the field and the curve of a calculator
    abbrev pub on {ℓ} : {X : Type ℓ} → Calculator F M → (Arithmetic → Curve → X) → X
    on c f = f (arithmetic c) c.model.curve

    -- The field is lawful, the curve accepted and the method lawful.
    pub record Sound (law : Law) (c : Calculator F M) : Type 0 where
      pub lawful : Lawful (arithmetic c)
      pub accepted : Accepted (arithmetic c) c.model.curve
      pub method : LawfulMethod law

    -- What a call gives, by the definitions of sum, double and negative; or why it is refused.
    abbrev pub gives : Calculator F M → Call → Result Divisor CallRefusal
    gives c call = on c given (held c) call

    -- What a call leaves: the model as it was, and the registers of its definition.
    pub record Left (law : Law) (call : Call) (old new : Calculator F M) : Type 0 where
      pub model : new.model ≡ old.model
      pub registers : Sound law old → held new ≡ on old next (held old) call

    -- What calls leave, one after another, and what was answered to them.
    pub record LeftAll (law : Law) (calls : List Call) (old new : Calculator F M) (answers : List Answer) : Type 0 where
      pub model : new.model ≡ old.model
      pub answered : Sound law old → answers ≡ on old replies (held old) calls
      pub registers : Sound law old → held new ≡ on old nexts (held old) calls

    -- The law of accounts, whatever sixteen accounts the registers were built with: calls are refused as their arguments, the field
    -- and the curve show, and after them the registers are built with the accounts that the calls draw up.
    pub record Accounted (law : Law) (calls : List Call) (old new : Calculator F M) (answers : List Answer) : Type 0 where
      pub refused : Sound law old → (books : List Account) → on old AllBuilt (held old) books
          → map verdict answers ≡ map (on old admitted) calls
      pub built : Sound law old → (books : List Account) → on old AllBuilt (held old) books
          → on old AllBuilt (held new) (on old all_booked books calls)

    -- The account theorem, for any list of calls to a fresh calculator: they are refused as their arguments, the field and the curve
    -- show, and after them each of the sixteen registers holds a valid divisor that settles the account drawn up for it.
    pub record Settled (law : Law) (calls : List Call) (old new : Calculator F M) (answers : List Answer) : Type 0 where
      pub refused : Sound law old → Fresh old → map verdict answers ≡ map (on old admitted) calls
      pub settled : Sound law old → Fresh old → on old AllSettle (held new) (on old accounts calls)

-- Two calculators on fields of one meaning and on the same curve.
pub record SameModel {F G M N : Type 0} (field_1 : Ghosts F) (field_2 : Ghosts G) (c : Calculator F M) (d : Calculator G N) : Type 0 where
  pub meaning : arithmetic field_1 c ≡ arithmetic field_2 d
  pub curve : c.model.curve ≡ d.model.curve

-- Two calculators agree on calls: equal answers to every call, so that the refusals have equal numbers, and equal divisors in all
-- sixteen registers after them.
pub record Agree {F G M N : Type 0} (answers_1 answers_2 : List Answer) (c : Calculator F M) (d : Calculator G N) : Type 0 where
  pub answered : answers_1 ≡ answers_2
  pub registers : held c ≡ held d
