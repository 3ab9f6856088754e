-- Records: a kind byte and a body, one after another on a sheet.
use Rattle.std.specs.Prelude.{ℕ, zero, suc, true, false, List, [], ◌∷◌, length, take, drop, Some, None, Option, nat_le}
use Rattle.std.specs.List.{slice_get}
use Rattle.methods.specs.declared.curve.Curve.{Curve}
use Rattle.calculator.specs.declared.call.Call.{Call}
use Rattle.calculator.specs.declared.call.Call.TheVariants.{Enter, Add, Double, Negate, Show}
use Rattle.run.specs.Bytes.{byte_at, code_at, curve_at, divisor_at}

-- What a record says.
pub data Command : Type 0 where
  modulus : ℕ → Command
  nine_elements : Command
  square_root : ℕ → Command
  coefficients : Curve → Command
  call : Call → Command

abbrev pub kind_of_call : Call → ℕ
kind_of_call (Enter t D) = 5
kind_of_call (Add t a b) = 6
kind_of_call (Double t a) = 7
kind_of_call (Negate t a) = 8
kind_of_call (Show a) = 9

abbrev pub kind_of : Command → ℕ
kind_of (modulus m) = 1
kind_of nine_elements = 2
kind_of (square_root r) = 3
kind_of (coefficients C) = 4
kind_of (call c) = kind_of_call c

-- A record's bytes, at the least: that of its kind, and the register of Show.
abbrev pub least_size_of_call : Call → ℕ
least_size_of_call (Enter t D) = 1
least_size_of_call (Add t a b) = 1
least_size_of_call (Double t a) = 1
least_size_of_call (Negate t a) = 1
least_size_of_call (Show a) = 2

abbrev pub least_size : Command → ℕ
least_size (modulus m) = 1
least_size nine_elements = 1
least_size (square_root r) = 1
least_size (coefficients C) = 1
least_size (call c) = least_size_of_call c

-- A kind of record: how many bytes the body takes, and what it says.
pub record Kind : Type 0 where
  pub size : ℕ
  pub says : List ℕ → Command

-- The kinds 1 to 9.
abbrev pub kinds : List Kind
kinds =
    record { size = 2; says = λ b. modulus (code_at b 0) }
    ∷ record { size = 0; says = λ b. nine_elements }
    ∷ record { size = 2; says = λ b. square_root (code_at b 0) }
    ∷ record { size = 10; says = λ b. coefficients (curve_at b) }
    ∷ record { size = 11; says = λ b. call (Enter (byte_at b 0) (divisor_at (drop 1 b))) }
    ∷ record { size = 3; says = λ b. call (Add (byte_at b 0) (byte_at b 1) (byte_at b 2)) }
    ∷ record { size = 2; says = λ b. call (Double (byte_at b 0) (byte_at b 1)) }
    ∷ record { size = 2; says = λ b. call (Negate (byte_at b 0) (byte_at b 1)) }
    ∷ record { size = 1; says = λ b. call (Show (byte_at b 0)) }
    ∷ []

abbrev pub kind_at : ℕ → Option Kind
kind_at zero = None
kind_at (suc k) = slice_get kinds k

-- What stands first on a sheet: nothing; a whole record, before the rest; the beginning of a record; or an unknown kind.
pub data Reading : Type 0 where
  end : Reading
  whole : Command → List ℕ → Reading
  short : ℕ → Reading
  unknown : ℕ → Reading

abbrev pub reading_by : ℕ → List ℕ → Option Kind → Reading
reading_by kind rest None = unknown kind
reading_by kind rest (Some k) =
    elim (nat_le k.size (length rest)) [ true ↦ whole (k.says (take k.size rest)) (drop k.size rest) | false ↦ short kind ]

unfoldable pub reading : List ℕ → Reading
reading [] = end
reading (kind ∷ rest) = reading_by kind rest (kind_at kind)
