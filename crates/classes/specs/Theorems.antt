-- What is proved of functions, growth and accounts, over every lawful field and on every curve that the check accepts.
use Rattle.std.specs.Prelude.{◌≡◌, ◌≢◌, List, [], ◌∷◌, ◌++◌, map, pos, ◌+ℤ◌}
use Rattle.fields.specs.Arithmetic.{Arithmetic}
use Rattle.fields.specs.Lawful.{Lawful}
use Rattle.methods.specs.declared.curve.Curve.{Curve}
use Rattle.methods.specs.declared.divisor.Divisor.{Divisor}
use Rattle.methods.specs.Curves.{Accepted}
use Rattle.methods.specs.Divisors.{Valid, neutral, opposite}
use Rattle.methods.specs.Sums.{deg, plus, twice}
use Rattle.classes.specs.Functions.{Function, Over, zero_function, function_sum, function_product, conjugate, norm}
use Rattle.classes.specs.Growth.{growth}
use Rattle.classes.specs.Settling.{Member, Settles, Built}

abbrev pub Always : (Arithmetic → Curve → Type 0) → Type 0
Always Q = (K : Arithmetic) (C : Curve) → Lawful K → Accepted K C → Q K C

-- Accounts.

-- The neutral divisor settles the empty account.
abbrev pub NeutralSettles : Type 0
NeutralSettles = Always λ K C. Settles K C neutral []

-- A valid divisor settles the account of itself alone.
abbrev pub AloneSettles : Type 0
AloneSettles = Always λ K C. (D : Divisor) → Valid K C D → Settles K C D (D ∷ [])

-- The sum of two valid divisors is valid and settles the account of the two.
abbrev pub SumSettles : Type 0
SumSettles =
    Always λ K C. (D E : Divisor) → Valid K C D → Valid K C E
    → Valid K C (plus K C D E) × Settles K C (plus K C D E) (D ∷ E ∷ [])

-- Whatever is built is valid and settles its account.
abbrev pub BuiltSettles : Type 0
BuiltSettles =
    Always λ K C. (D : Divisor) (account : List Divisor) → Built K C D account → Valid K C D × Settles K C D account

-- So a sum settles the accounts of its operands joined, a double the account joined to itself, and a negative the account with
-- each divisor replaced by its negative.
abbrev pub StepsSettle : Type 0
StepsSettle =
    Always λ K C. (D E : Divisor) (A B : List Divisor) → Built K C D A → Built K C E B
    → Settles K C (plus K C D E) (A ++ B) × Settles K C (twice K C D) (A ++ A) × Settles K C (opposite K D) (map (opposite K) A)

-- Functions and growth.

-- Sums and products of functions over the field are functions over it.
abbrev pub FunctionsClosed : Type 0
FunctionsClosed =
    Always λ K C. (g h : Function) → Over K g → Over K h → Over K (function_sum K g h) × Over K (function_product K C g h)

-- A product of functions that are not 0 is not 0, and the growths add up.
abbrev pub GrowthAdds : Type 0
GrowthAdds =
    Always λ K C. (g h : Function) → Over K g → Over K h → g ≢ zero_function → h ≢ zero_function
    → (function_product K C g h ≢ zero_function) × (growth K C (function_product K C g h) ≡ growth K C g +ℤ growth K C h)

-- The norm of a function that is not 0 is not 0, and its degree is the growth of a + b·y and that of a − b·y together.
abbrev pub GrowthConjugate : Type 0
GrowthConjugate =
    Always λ K C. (g : Function) → Over K g → g ≢ zero_function
    → (norm K C g ≢ []) × (growth K C g +ℤ growth K C (conjugate K g) ≡ pos (deg (norm K C g)))

-- The members of a valid divisor are closed under sums and under multiplication by any function.
abbrev pub MembersIdeal : Type 0
MembersIdeal =
    Always λ K C. (D : Divisor) → Valid K C D
    → ((m n : Function) → Member K D m → Member K D n → Member K D (function_sum K m n))
    × ((m c : Function) → Member K D m → Over K c → Member K D (function_product K C m c))
