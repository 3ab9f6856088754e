-- The statements on curves, divisors and sums hold.
use Rattle.fields.specs.Arithmetic.{Arithmetic}
use Rattle.methods.specs.declared.curve.Curve.{Curve}
use Rattle.methods.specs.Theorems.{RootPart, CompositionWellDefined, CompositesFair, StepsValid, NeutralValid, SumsValid, DoublesValid, NegativesValid}
use Rattle.methods.proofs.Curves.{root_facts}
use Rattle.methods.proofs.Compositions.{composed_composes, composed-same, composes_fair}
use Rattle.methods.proofs.Additions as A
use Rattle.methods.proofs.Negatives as N

module _ (K : Arithmetic) (C : Curve) where
  pub root_part : RootPart K C
  root_part L = root_facts K L C

  pub composition_well_defined : CompositionWellDefined K C
  composition_well_defined L D E hD hE = composed-same K L D E C hD hE

  pub composites_fair : CompositesFair K C
  composites_fair L D E hD hE = composes_fair K L D E C hD hE (composed_composes K L D E C hD hE)

  pub steps_valid : StepsValid K C
  steps_valid L accepted D E hD hE = A.stepped_valid K L C accepted D E hD hE

  pub neutral_valid : NeutralValid K C
  neutral_valid L = N.neutral_valid K L C

  pub sums_valid : SumsValid K C
  sums_valid L accepted D E hD hE = A.plus_valid K L C accepted D E hD hE

  pub doubles_valid : DoublesValid K C
  doubles_valid L accepted D h = A.twice_valid K L C accepted D h

  pub negatives_valid : NegativesValid K C
  negatives_valid L D h = N.opposite_valid K L C D h
