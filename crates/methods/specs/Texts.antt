-- How divisors are written.
use Rattle.std.specs.Prelude.{ℕ, List, ◌++◌, codes}
use Rattle.std.specs.Fmt.{decimal}
use Rattle.methods.specs.declared.divisor.Linear.{Linear}
use Rattle.methods.specs.declared.divisor.Divisor.{Divisor}

-- The coefficient of x and the constant one, with a space between.
abbrev pub linear_text : Linear → List ℕ
linear_text l = decimal l.x1 ++ codes " " ++ decimal l.x0

-- Degree, u1, u0, v1, v0 and n, with spaces between.
abbrev pub divisor_text : Divisor → List ℕ
divisor_text D = decimal D.degree ++ codes " " ++ linear_text D.u ++ codes " " ++ linear_text D.v ++ codes " " ++ decimal D.n
