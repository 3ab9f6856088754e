-- The numbers of the refusals of fields.
use Rattle.std.specs.Prelude.{ℕ, Some, None, Option}
use Rattle.fields.specs.declared.refusal.FieldRefusal.{FieldRefusal}
use Rattle.fields.specs.declared.refusal.FieldRefusal.TheVariants.{Modulus, TooManyElements, TableLength, NotACode, NoInverse, Square}

abbrev pub refusal_number : FieldRefusal → ℕ
refusal_number Modulus = 2
refusal_number TooManyElements = 2
refusal_number TableLength = 3
refusal_number NotACode = 5
refusal_number (NoInverse a) = 6
refusal_number Square = 7

-- the code that a refusal names
abbrev pub refusal_code : FieldRefusal → Option ℕ
refusal_code Modulus = None
refusal_code TooManyElements = None
refusal_code TableLength = None
refusal_code NotACode = None
refusal_code (NoInverse a) = Some a
refusal_code Square = None
