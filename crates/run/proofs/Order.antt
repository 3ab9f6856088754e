-- The order of records: the seven ways in which a record can be in turn, and all others.
use Rattle.std.proofs.Common.{◌≡◌, ℕ, List, [], refl}
use Rattle.fields.specs.Arithmetic.{Arithmetic}
use Rattle.methods.specs.declared.curve.Curve.{Curve}
use Rattle.methods.specs.declared.divisor.Divisor.{Divisor}
use Rattle.calculator.specs.declared.call.Call.{Call}
use Rattle.run.specs.Records.{Command, modulus, nine_elements, square_root, coefficients, call}
use Rattle.run.specs.Progress.{Progress, start, based, paired, ready, step, out_of_turn}
use Rattle.run.specs.Laws.{sent}

pub data Turn : Progress → Command → Type 0 where
  residues_first : (m : ℕ) → Turn start (modulus m)
  nine_first : Turn start nine_elements
  pairs_next : (K : Arithmetic) (r : ℕ) → Turn (based K) (square_root r)
  curve_on_base : (K : Arithmetic) (C : Curve) → Turn (based K) (coefficients C)
  curve_on_pairs : (K : Arithmetic) (C : Curve) → Turn (paired K) (coefficients C)
  call_last : (K : Arithmetic) (C : Curve) (rs : List Divisor) (c : Call) → Turn (ready K C rs) (call c)
  none : (p : Progress) (c : Command) → step p c ≡ out_of_turn p c → sent p c ≡ [] → Turn p c

pub turn_of : (p : Progress) (c : Command) → Turn p c
unfolding step
turn_of start (modulus m) = residues_first m
turn_of start nine_elements = nine_first
turn_of start (square_root r) = none start (square_root r) refl refl
turn_of start (coefficients C) = none start (coefficients C) refl refl
turn_of start (call c) = none start (call c) refl refl
turn_of (based K) (modulus m) = none (based K) (modulus m) refl refl
turn_of (based K) nine_elements = none (based K) nine_elements refl refl
turn_of (based K) (square_root r) = pairs_next K r
turn_of (based K) (coefficients C) = curve_on_base K C
turn_of (based K) (call c) = none (based K) (call c) refl refl
turn_of (paired K) (modulus m) = none (paired K) (modulus m) refl refl
turn_of (paired K) nine_elements = none (paired K) nine_elements refl refl
turn_of (paired K) (square_root r) = none (paired K) (square_root r) refl refl
turn_of (paired K) (coefficients C) = curve_on_pairs K C
turn_of (paired K) (call c) = none (paired K) (call c) refl refl
turn_of (ready K C rs) (modulus m) = none (ready K C rs) (modulus m) refl refl
turn_of (ready K C rs) nine_elements = none (ready K C rs) nine_elements refl refl
turn_of (ready K C rs) (square_root r) = none (ready K C rs) (square_root r) refl refl
turn_of (ready K C rs) (coefficients D) = none (ready K C rs) (coefficients D) refl refl
turn_of (ready K C rs) (call c) = call_last K C rs c
