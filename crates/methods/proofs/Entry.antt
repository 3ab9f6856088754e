-- A divisor that the entry accepts is valid; and what a method answers to valid divisors.
use Rattle.std.proofs.Common.{◌≡◌, Ok, ap, ◌∙◌, arith}
use Rattle.fields.specs.Arithmetic.{Arithmetic}
use Rattle.methods.specs.declared.curve.Curve.{Curve}
use Rattle.methods.specs.declared.divisor.Divisor.{Divisor}
use Rattle.methods.specs.Divisors.{entered, Valid}
use Rattle.methods.specs.Sums.{plus, twice}
use Rattle.methods.specs.Methods.{after, added, doubled}

module _ (K : Arithmetic) (C : Curve) (D : Divisor) where
  pub accepted_valid : (E : Divisor) → Ok E ≡ entered K C D → Valid K C D
  unfolding entered
  accepted_valid E e = grind (arith, e)

-- What a method answers to valid divisors.

module _ (K : Arithmetic) (C : Curve) where
  pub added_valid : (D E : Divisor) → Valid K C D → Valid K C E → added K C D E ≡ Ok (plus K C D E)
  added_valid D E vD vE =
      ap (λ r. after r (after (entered K C E) (Ok (plus K C D E)))) vD ∙ ap (λ r. after r (Ok (plus K C D E))) vE

  pub doubled_valid : (D : Divisor) → Valid K C D → doubled K C D ≡ Ok (twice K C D)
  doubled_valid D vD = ap (λ r. after r (Ok (twice K C D))) vD
