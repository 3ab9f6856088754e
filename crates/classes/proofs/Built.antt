-- Whatever is built is valid and settles its account.
use Rattle.std.proofs.Common.{◌≡◌, List, [], ◌∷◌, ◌++◌, map, refl, ap₂}
use mathlib.Core.List.{map-append}
use Rattle.algebra.specs.Field.{Field}
use Rattle.algebra.specs.Polynomials.{Polynomials}
use Rattle.algebra.specs.CommonDivisor.{Each}
use Rattle.fields.specs.Arithmetic.{Arithmetic}
use Rattle.fields.specs.Lawful.{Lawful}
use Rattle.fields.proofs.Codes.{codes, field}
use Rattle.polynomials.specs.Proper.{Listed}
use Rattle.polynomials.proofs.Listed.{polynomials}
use Rattle.polynomials.proofs.Presentation.{presentation}
use Rattle.mumford.specs.Divisors as M
use Rattle.mumford.specs.Curve.{Curve as Curved}
use Rattle.mumford.proofs.Settled as S
use Rattle.mumford.proofs.Settling.{settled_sum}
use Rattle.methods.specs.declared.curve.Curve.{Curve}
use Rattle.methods.specs.declared.divisor.Divisor.{Divisor}
use Rattle.methods.specs.Curves.{Accepted}
use Rattle.methods.specs.Divisors.{Valid, opposite}
use Rattle.methods.specs.Sums.{plus, twice}
use Rattle.methods.proofs.Curves.{f_of, V_of, curve}
use Rattle.methods.proofs.Representations.{mumford_of, valid_mumford}
use Rattle.methods.proofs.Negatives.{neutral_valid, neutral_mumford, opposite_valid, opposite_mumford}
use Rattle.methods.proofs.Additions.{plus-sum, plus_valid}
use Rattle.classes.specs.Settling.{Settles, Built, built_neutral, built_alone, built_sum, built_double, built_negative}
use Rattle.classes.proofs.Accounts.{account_of, settles_lists}

-- what each of two rows has, their join has
each_++ : {P : Type 0} (Q : P → Type 0) (A B : List P) → Each Q A → Each Q B → Each Q (A ++ B)
each_++ Q [] B a b = b
each_++ Q (x ∷ A) B (h, a) b = (h, each_++ Q A B a b)

module _ (K : Arithmetic) (L : Lawful K) (C : Curve) (accepted : Accepted K C) where
  abbrev F : Field (codes K L)
  F = field K L

  abbrev H : Polynomials (codes K L) (polynomials K L)
  H = presentation K L

  abbrev the_curve : Curved H (f_of K L C) (V_of K L C)
  the_curve = curve K L C accepted

  abbrev Settled : M.Divisor (Listed K) → List (M.Divisor (Listed K)) → Type 0
  Settled = S.Settled F H the_curve

  -- What is carried from divisor to divisor: that D and all divisors of its account are valid, and more than settling.
  record Sound (D : Divisor) (A : List Divisor) : Type 0 where
    valid : Valid K C D
    valid_account : Each (Valid K C) A
    settled : Settled (mumford_of K L D) (account_of K L A)

  opposites_valid : (A : List Divisor) → Each (Valid K C) A → Each (Valid K C) (map (opposite K) A)
  opposites_valid [] h = tt
  opposites_valid (D ∷ A) (h, hs) = (opposite_valid K L C D h, opposites_valid A hs)

  opposites_are : (A : List Divisor) → Each (Valid K C) A
      → account_of K L (map (opposite K) A) ≡ map (M.negative (polynomials K L) (presentation K L).size) (account_of K L A)
  opposites_are [] h = refl
  opposites_are (D ∷ A) (h, hs) = ap₂ ◌∷◌ (opposite_mumford K L C D h) (opposites_are A hs)

  sound_sum : {D E : Divisor} {A B : List Divisor} → Sound D A → Sound E B → Sound (plus K C D E) (A ++ B)
  sound_sum {D} {E} {A} {B} a b =
      record {
        valid = plus_valid K L C accepted D E a.valid b.valid;
        valid_account = each_++ (Valid K C) A B a.valid_account b.valid_account;
        settled =
            rw (map-append (mumford_of K L) A B)
            (settled_sum F H the_curve (valid_mumford K L C D a.valid) (valid_mumford K L C E b.valid)
            (plus-sum K L C accepted D E a.valid b.valid) a.settled b.settled);
      }

  sound_negative : {D : Divisor} {A : List Divisor} → Sound D A → Sound (opposite K D) (map (opposite K) A)
  sound_negative {D} {A} a =
      record {
        valid = opposite_valid K L C D a.valid;
        valid_account = opposites_valid A a.valid_account;
        settled =
            rw (opposite_mumford K L C D a.valid, opposites_are A a.valid_account)
            (S.settled_negative F H the_curve a.settled);
      }

  sound : {D : Divisor} {A : List Divisor} → Built K C D A → Sound D A
  unfolding twice
  sound built_neutral =
      record {
        valid = neutral_valid K L C;
        valid_account = tt;
        settled = rw (neutral_mumford K L C) (S.settled_neutral F H the_curve);
      }
  sound (built_alone {D = D} h) =
      record { valid = h; valid_account = (h, tt); settled = S.settled_alone F H the_curve (valid_mumford K L C D h) }
  sound (built_sum a b) = sound_sum (sound a) (sound b)
  sound (built_double a) = sound_sum (sound a) (sound a)
  sound (built_negative a) = sound_negative (sound a)

  pub built_valid : {D : Divisor} {A : List Divisor} → Built K C D A → Valid K C D
  built_valid b = (sound b).valid

  pub built_settles : {D : Divisor} {A : List Divisor} → Built K C D A → Settles K C D A
  built_settles b = settles_lists K L C (sound b).settled.settles
