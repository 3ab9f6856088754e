-- A method that refuses everything. It is not lawful.
use Rattle.std.specs.Prelude.{Err}
use Rattle.methods.specs.declared.divisor.DivisorRefusal.TheVariants.{Shape}
use Rattle.methods.specs.Methods.{Law}

abbrev pub refusing : Law
refusing = record { add = λ K C D E. Err Shape; double = λ K C D. Err Shape }
