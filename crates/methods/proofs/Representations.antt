-- Divisors on a curve are Mumford representations with n: the valid ones correspond to those that are valid in theory.
use Rattle.std.proofs.Common.{◌≡◌, ℕ, suc, pred, true, ◌&&◌, [], ◌∷◌, length, pos, nat_abs, sym, refl, ap, ◌∙◌, subst, arith}
use lib.Signed.{yes_non_neg, pos-nat_abs}
use Rattle.std.proofs.lemmas.Int.{ints}
use Rattle.algebra.specs.Ring.{Ops}
use Rattle.algebra.specs.Divisibility.{Divides}
use Rattle.algebra.specs.Polynomials.{Polynomials}
use Rattle.algebra.proofs.Monic as M
use Rattle.fields.specs.Arithmetic.{Arithmetic}
use Rattle.fields.specs.Lawful.{Lawful}
use Rattle.fields.proofs.Codes.{codes, field}
use Rattle.polynomials.specs.Polynomial.{Polynomial, leading, is_zero, remainder}
use Rattle.polynomials.specs.Proper.{Listed}
use Rattle.polynomials.proofs.Listed.{listed_path, polynomials}
use Rattle.polynomials.proofs.Presentation.{presentation}
use Rattle.polynomials.proofs.Operations.{difference_of, difference_is}
use Rattle.polynomials.proofs.Divisibility.{divides_remainder, remainder_divides}
use Rattle.mumford.specs.Functions.{Represents}
use Rattle.mumford.specs.Divisors as mumford
use Rattle.mumford.proofs.Degrees.{size_degree}
use Rattle.methods.specs.declared.curve.Curve.{Curve}
use Rattle.methods.specs.declared.divisor.Divisor.{Divisor}
use Rattle.methods.specs.Divisors.{u_of, v_of, divisor_of, shaped, linear_codes, on_curve, entered, Valid}
use Rattle.methods.proofs.Values.{leading-monic, monic-leading}
use Rattle.methods.proofs.Curves.{f_of}
use Rattle.methods.proofs.Shapes.{Shaped, shaped_tells, divisor_of-shaped, divisor_of-codes, u_proper, v_proper, u-leading, u-length, v-length, u-divisor_of, v-divisor_of, divisor_of-polynomials}

is_zero_tells : (p : Polynomial) → is_zero p ≡ true → p ≡ []
is_zero_tells [] e = refl
is_zero_tells (a ∷ p) e = grind arith

module _ (K : Arithmetic) (L : Lawful K) where
  abbrev P : Ops (Listed K)
  P = polynomials K L

  abbrev H : Polynomials (codes K L) P
  H = presentation K L

  -- The polynomials of a divisor, with n.

  abbrev pub u_listed : Divisor → Listed K
  u_listed D = (u_of K D, u_proper K L D)

  abbrev pub v_listed : Divisor → Listed K
  v_listed D = (v_of K D, v_proper K L D)

  abbrev pub mumford_of : Divisor → mumford.Divisor (Listed K)
  mumford_of D = record { u = u_listed D; v = v_listed D; n = pos D.n }

  module _ (C : Curve) where
    -- What entry found of a valid divisor.

    pub valid_shaped : (D : Divisor) → Valid K C D → Shaped K L D
    unfolding entered
    valid_shaped D h = shaped_tells K L D (grind (arith, h)) (grind (arith, h))

    valid_on_curve : (D : Divisor) → Valid K C D → on_curve K C D ≡ true
    unfolding entered
    valid_on_curve D h = grind (arith, h)

    all_valid : (D : Divisor) → shaped D ≡ true → (linear_codes K D.u && linear_codes K D.v) ≡ true → on_curve K C D ≡ true
        → Valid K C D
    unfolding entered
    all_valid D s c o = grind (arith, s, c, o)

    -- u divides f − v², as it is tested and in theory.

    on_curve_represents : (D : Divisor) → on_curve K C D ≡ true → Represents P (f_of K L C) (u_listed D) (v_listed D)
    unfolding on_curve polynomials
    on_curve_represents D h =
        let d = difference_of K L (f_of K L C) (P.mul (v_listed D) (v_listed D)) in
        subst (Divides P (u_listed D)) (difference_is K L (f_of K L C) (P.mul (v_listed D) (v_listed D)))
        (remainder_divides K L d (u_listed D) (is_zero_tells (remainder K d.0 (u_of K D)) h))

    represents_on_curve : (D : Divisor) → Represents P (f_of K L C) (u_listed D) (v_listed D) → on_curve K C D ≡ true
    unfolding on_curve polynomials
    represents_on_curve D h =
        let d = difference_of K L (f_of K L C) (P.mul (v_listed D) (v_listed D)) in
        ap is_zero
        (divides_remainder K L d (u_listed D)
        (subst (Divides P (u_listed D)) (sym (difference_is K L (f_of K L C) (P.mul (v_listed D) (v_listed D)))) h))

    pub valid_mumford : (D : Divisor) → Valid K C D → mumford.Valid H (f_of K L C) (mumford_of D)
    valid_mumford D h =
        let s = valid_shaped D h in
        record {
          monic = leading-monic K L (u_listed D) (u-leading K L D);
          smaller = omega (arith, u-length K L D s, v-length K L D s);
          range =
              record {
                u_most = omega (arith, u-length K L D s, s.degree_most);
                n_least = omega (arith, ints);
                n_most = omega (arith, ints, ap pred (u-length K L D s), s.n_most);
              };
          represents = on_curve_represents D (valid_on_curve D h);
        }

    -- The divisor of u, v and n is valid where these are valid in theory, and has them for its polynomials.
    module _ (u v : Listed K) (n : ℕ) (h : mumford.Valid H (f_of K L C) (record { u = u; v = v; n = pos n })) where
      monic-u : leading u.0 ≡ 1
      monic-u = monic-leading K L u h.monic

      u_size : length u.0 ≡ suc (mumford.degree H.size u)
      u_size = size_degree (field K L) H u (M.monic_some (field K L) H u h.monic)

      pub made_mumford : mumford_of (divisor_of u.0 v.0 n) ≡ record { u = u; v = v; n = pos n }
      unfolding divisor_of
      made_mumford = λ i. record { u = same-u i; v = same-v i; n = pos n }
        where
          same-u : u_listed (divisor_of u.0 v.0 n) ≡ u
          same-u = listed_path (u-divisor_of K L v.0 n u.1 monic-u (omega (arith, u_size)) h.range.u_most)

          same-v : v_listed (divisor_of u.0 v.0 n) ≡ v
          same-v = listed_path (v-divisor_of K L u.0 n v.1 (omega (arith, h.smaller, h.range.u_most)))

      pub made_valid : Valid K C (divisor_of u.0 v.0 n)
      made_valid =
          all_valid (divisor_of u.0 v.0 n)
          (divisor_of-shaped u.0 v.0 n h.range.u_most h.smaller (omega (arith, ints, u_size, h.range.n_most)))
          (divisor_of-codes K L n u.1 v.1)
          (represents_on_curve (divisor_of u.0 v.0 n)
          (subst (λ S. Represents P (f_of K L C) S.u S.v) (sym made_mumford) h.represents))

    -- So each divisor that is valid in theory is that of a valid one.

    abbrev pub divisor_from : mumford.Divisor (Listed K) → Divisor
    divisor_from S = divisor_of S.u.0 S.v.0 (nat_abs S.n)

    module _ (S : mumford.Divisor (Listed K)) (h : mumford.Valid H (f_of K L C) S) where
      counted : S ≡ record { u = S.u; v = S.v; n = pos (nat_abs S.n) }
      counted = λ i. record { u = S.u; v = S.v; n = same i }
        where
          same : S.n ≡ pos (nat_abs S.n)
          same = sym (pos-nat_abs S.n (yes_non_neg h.range.n_least))

      pub from_valid : Valid K C (divisor_from S)
      from_valid = made_valid S.u S.v (nat_abs S.n) (subst (mumford.Valid H (f_of K L C)) counted h)

      pub mumford_from : mumford_of (divisor_from S) ≡ S
      mumford_from =
          made_mumford S.u S.v (nat_abs S.n) (subst (mumford.Valid H (f_of K L C)) counted h) ∙ sym counted

    -- Valid divisors are known by their polynomials and n.
    pub from_mumford : (D : Divisor) → Valid K C D → divisor_from (mumford_of D) ≡ D
    from_mumford D h = divisor_of-polynomials K L D (valid_shaped D h)
