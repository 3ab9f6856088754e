-- The neutral divisor and negatives, as they are computed, are those of the theory.
use Rattle.std.proofs.Common.{◌≡◌, ℕ, pred, ◌+◌, ◌-◌, ◌≤◌, [], ◌∷◌, get_or, pos, ◌-ℤ◌, nat_abs, sym, refl, ap, ◌∙◌, subst, arith}
use Rattle.std.proofs.lemmas.Int.{ints}
use Rattle.algebra.specs.Ring.{Ops}
use Rattle.algebra.specs.Polynomials.{Polynomials}
use Rattle.fields.specs.Arithmetic.{Arithmetic}
use Rattle.fields.specs.Lawful.{Lawful}
use Rattle.fields.proofs.Codes.{codes, field}
use Rattle.polynomials.specs.Polynomial.{Polynomial, negate, negative}
use Rattle.polynomials.specs.Proper.{Listed}
use Rattle.polynomials.proofs.Coefficients.{trim-at, negate-at}
use Rattle.polynomials.proofs.Listed.{polynomials}
use Rattle.polynomials.proofs.Presentation.{presentation}
use Rattle.mumford.specs.Divisors as mumford
use Rattle.mumford.proofs.Addition as T
use Rattle.methods.specs.declared.curve.Curve.{Curve}
use Rattle.methods.specs.declared.divisor.Divisor.{Divisor}
use Rattle.methods.specs.Divisors.{u_of, v_of, divisor_of, Valid, neutral, opposite}
use Rattle.methods.proofs.Curves.{f_of}
use Rattle.methods.proofs.Shapes.{Shaped, u-length, v_at, divisor_of-polynomials}
use Rattle.methods.proofs.Representations.{mumford_of, valid_shaped, valid_mumford, divisor_from, from_valid, mumford_from}

module _ (K : Arithmetic) (L : Lawful K) (C : Curve) where
  abbrev P : Ops (Listed K)
  P = polynomials K L

  abbrev H : Polynomials (codes K L) P
  H = presentation K L

  -- The neutral divisor.

  neutral_is : divisor_from K L C (mumford.neutral P) ≡ neutral
  unfolding divisor_of polynomials
  neutral_is = refl

  pub neutral_valid : Valid K C neutral
  neutral_valid = subst (Valid K C) neutral_is (from_valid K L C (mumford.neutral P) (T.neutral_valid (field K L) H (f_of K L C)))

  pub neutral_mumford : mumford_of K L neutral ≡ mumford.neutral P
  neutral_mumford =
      ap (mumford_of K L) (sym neutral_is) ∙ mumford_from K L C (mumford.neutral P) (T.neutral_valid (field K L) H (f_of K L C))

  -- Negatives.
  module _ (D : Divisor) (h : Valid K C D) where
    abbrev N : mumford.Divisor (Listed K)
    N = mumford.negative P H.size (mumford_of K L D)

    negative-at : (p : Polynomial) (k : ℕ) → get_or (negative K p) k 0 ≡ K.minus (get_or p k 0)
    unfolding negative
    negative-at p k = trim-at (negate K p) k ∙ negate-at K L p k

    opposite_is : divisor_from K L C N ≡ opposite K D
    unfolding divisor_of opposite polynomials
    opposite_is = λ i. record {
      degree = (same i).degree;
      u = (same i).u;
      v = record { x1 = minus-at 1 i; x0 = minus-at 0 i };
      n = count i;
    }
      where
        shape : Shaped K L D
        shape = valid_shaped K L C D h

        same : divisor_of (u_of K D) (v_of K D) D.n ≡ D
        same = divisor_of-polynomials K L D shape

        minus-at : (k : ℕ) → get_or (negative K (v_of K D)) k 0 ≡ K.minus (get_or (D.v.x0 ∷ D.v.x1 ∷ []) k 0)
        minus-at k = negative-at (v_of K D) k ∙ ap K.minus (v_at K L D shape k)

        count : nat_abs N.n ≡ 2 - D.degree - D.n
        count =
            ap (λ m. nat_abs (pos 2 -ℤ pos (pred m) -ℤ pos D.n)) (u-length K L D shape)
            ∙ ap nat_abs (left D.degree D.n shape.n_most)
          where
            left : (d n : ℕ) → n + d ≤ 2 → pos 2 -ℤ pos d -ℤ pos n ≡ pos (2 - d - n)
            left d n l = omega (arith, ints)

    pub opposite_valid : Valid K C (opposite K D)
    opposite_valid =
        subst (Valid K C) opposite_is (from_valid K L C N (T.negative_valid (field K L) H (valid_mumford K L C D h)))

    pub opposite_mumford : mumford_of K L (opposite K D) ≡ mumford.negative P H.size (mumford_of K L D)
    opposite_mumford =
        ap (mumford_of K L) (sym opposite_is) ∙ mumford_from K L C N (T.negative_valid (field K L) H (valid_mumford K L C D h))
