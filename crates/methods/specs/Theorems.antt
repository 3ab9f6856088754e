-- What holds of curves, divisors and sums over every lawful field: statements for contracts.
use Rattle.std.specs.Prelude.{◌≡◌}
use Rattle.fields.specs.Arithmetic.{Arithmetic}
use Rattle.fields.specs.Lawful.{Lawful}
use Rattle.methods.specs.declared.curve.Curve.{Curve}
use Rattle.methods.specs.declared.divisor.Divisor.{Divisor}
use Rattle.methods.specs.Curves.{RootOf, sextic, root, Accepted}
use Rattle.methods.specs.Divisors.{Valid, neutral, opposite}
use Rattle.methods.specs.Sums.{Bezout, Combining, Fair, composed_by, composed, stepped, plus, twice}

module _ (K : Arithmetic) (C : Curve) where
  -- V is the polynomial part of the square root of f.
  abbrev pub RootPart : Type 0
  RootPart = Lawful K → RootOf K (sextic K C) (root K C)

  -- The composite of valid divisors is well defined: the choice of e1, e2 and e3 does not change it.
  abbrev pub CompositionWellDefined : Type 0
  CompositionWellDefined =
      Lawful K
      → (D E : Divisor) → Valid K C D → Valid K C E
      → (b : Bezout) → Combining K D E b
      → composed_by K b (sextic K C) D E ≡ composed K (sextic K C) D E

  -- Its u has a degree of at most 4, and its v a smaller one.
  abbrev pub CompositesFair : Type 0
  CompositesFair = Lawful K → (D E : Divisor) → Valid K C D → Valid K C E → Fair (composed K (sextic K C) D E)

  -- A step from it leads to a valid divisor, so that u' has a degree of at most 2.
  abbrev pub StepsValid : Type 0
  StepsValid =
      Lawful K
      → Accepted K C
      → (D E : Divisor) → Valid K C D → Valid K C E
      → Valid K C (stepped K (sextic K C) (root K C) (composed K (sextic K C) D E))

  -- The neutral divisor is valid, and so are the sums, doubles and negatives of valid divisors.

  abbrev pub NeutralValid : Type 0
  NeutralValid = Lawful K → Valid K C neutral

  abbrev pub SumsValid : Type 0
  SumsValid = Lawful K → Accepted K C → (D E : Divisor) → Valid K C D → Valid K C E → Valid K C (plus K C D E)

  abbrev pub DoublesValid : Type 0
  DoublesValid = Lawful K → Accepted K C → (D : Divisor) → Valid K C D → Valid K C (twice K C D)

  abbrev pub NegativesValid : Type 0
  NegativesValid = Lawful K → (D : Divisor) → Valid K C D → Valid K C (opposite K D)
