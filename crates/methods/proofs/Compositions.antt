-- The composite of two valid divisors, as it is computed, is that of the theory. So it does not depend on the cofactors, and
-- its polynomials are so short that the code does not cut them off.
use Rattle.std.proofs.Common.{◌≡◌, ℕ, suc, pred, ◌+◌, ◌-◌, ◌<◌, ◌≤◌, ◌≢◌, [], ◌∷◌, length, get_or, pos, ◌+ℤ◌, ◌-ℤ◌, sym, refl, ap, subst, arith}
use Rattle.std.proofs.lemmas.Int.{ints}
use Rattle.algebra.specs.Ring.{Ops, Laws}
use Rattle.algebra.specs.Field.{Field}
use Rattle.algebra.specs.CommonDivisor.{Greatest}
use Rattle.algebra.specs.Polynomials.{Polynomials, Monic}
use Rattle.algebra.proofs.Reify.{by_facts, ◌⋆◌, terms}
use Rattle.algebra.proofs.Greatest as G
use Rattle.algebra.proofs.Monic as M
use Rattle.algebra.proofs.Size as Z
use Rattle.fields.specs.Arithmetic.{Arithmetic}
use Rattle.fields.specs.Lawful.{Lawful}
use Rattle.fields.proofs.Codes.{codes, field}
use Rattle.polynomials.specs.Polynomial.{sum}
use Rattle.polynomials.specs.Proper.{Proper, Listed}
use Rattle.polynomials.proofs.Listed.{listed_path, list_path, product_proper, polynomials}
use Rattle.polynomials.proofs.Presentation.{presentation, list_laws}
use Rattle.polynomials.proofs.Remainders.{quotient_of, remainder_of}
use Rattle.polynomials.proofs.Divisibility.{divided, divides_quotient}
use Rattle.polynomials.proofs.CommonDivisors.{gcd_of, first_of, second_of, gcd-combination, gcd_greatest, gcd-monic}
use Rattle.mumford.specs.Divisors as mumford
use Rattle.mumford.specs.Composition.{Shared}
use Rattle.mumford.specs.Composition as theory
use Rattle.mumford.specs.Addition.{Composed}
use Rattle.mumford.proofs.Composed as T
use Rattle.mumford.proofs.Degrees.{size_degree}
use Rattle.methods.specs.declared.curve.Curve.{Curve}
use Rattle.methods.specs.declared.divisor.Divisor.{Divisor}
use Rattle.methods.specs.Curves.{sextic}
use Rattle.methods.specs.Divisors.{u_of, v_of, Valid}
use Rattle.methods.specs.Sums.{Composite, Bezout, Combining, Fair, deg, bezout, numerator, composed_by, composed}
use Rattle.methods.proofs.Curves.{f_of}
use Rattle.methods.proofs.Representations.{u_listed, v_listed, mumford_of, valid_mumford}

-- d = e1·u1 + e2·u2 + e3·v as a combination of a row
in_a_row : {C : Type 0} {o : Ops C} → Laws o → (d e1 u1 e2 u2 e3 v : C)
    → d ≡ o.add (o.add (o.mul e1 u1) (o.mul e2 u2)) (o.mul e3 v)
    → d ≡ o.add (o.mul e1 u1) (o.add (o.mul e2 u2) (o.add (o.mul e3 v) o.nil))
in_a_row {o = o} T d e1 u1 e2 u2 e3 v e =
    by_facts T (d ∷ e1 ∷ u1 ∷ e2 ∷ u2 ∷ e3 ∷ v ∷ []) (o.unit ⋆ e ∷ []) (search terms depth 60 fits 100000) refl

-- what combines g and c, where g combines a and b, combines the three
combined-twice : {C : Type 0} {o : Ops C} → Laws o → (d g a b c s1 s2 t1 t2 : C)
    → g ≡ o.add (o.mul s1 a) (o.mul s2 b) → d ≡ o.add (o.mul t1 g) (o.mul t2 c)
    → d ≡ o.add (o.add (o.mul (o.mul t1 s1) a) (o.mul (o.mul t1 s2) b)) (o.mul t2 c)
combined-twice {o = o} T d g a b c s1 s2 t1 t2 e h =
    by_facts T (d ∷ g ∷ a ∷ b ∷ c ∷ s1 ∷ s2 ∷ t1 ∷ t2 ∷ []) (t1 ⋆ e ∷ o.unit ⋆ h ∷ []) (search terms depth 60 fits 100000) refl

module _ (K : Arithmetic) (L : Lawful K) where
  abbrev P : Ops (Listed K)
  P = polynomials K L

  abbrev F : Field (codes K L)
  F = field K L

  abbrev H : Polynomials (codes K L) P
  H = presentation K L

  -- a composite as a divisor of the theory, where its u and v are polynomials
  abbrev pub mumford_composite : (c : Composite) → Proper K c.u → Proper K c.v → mumford.Divisor (Listed K)
  mumford_composite c hu hv = record { u = (c.u, hu); v = (c.v, hv); n = pos c.n+1 -ℤ pos 1 }

  module _ (D E : Divisor) where
    -- v1 + v2
    abbrev v_sum : Listed K
    v_sum = P.add (v_listed K L D) (v_listed K L E)

    -- The monic greatest common divisor of u1, u2 and v1 + v2.

    abbrev g_of : Listed K
    g_of = gcd_of K L (u_listed K L D) (u_listed K L E)

    abbrev d_of : Listed K
    d_of = gcd_of K L g_of v_sum

    -- The cofactors of the definition combine the three to it.
    pub bezout_combining : Combining K D E (bezout K (u_of K D) (u_of K E) (sum K (v_of K D) (v_of K E)))
    unfolding bezout polynomials
    bezout_combining =
        let s1 = first_of K L (u_listed K L D) (u_listed K L E) in
        let s2 = second_of K L (u_listed K L D) (u_listed K L E) in
        let t1 = first_of K L g_of v_sum in
        let t2 = second_of K L g_of v_sum in
        record {
          greatest = refl;
          combined =
              list_path
              (combined-twice (list_laws K L) d_of g_of (u_listed K L D) (u_listed K L E) v_sum s1 s2 t1 t2
              (gcd-combination K L (u_listed K L D) (u_listed K L E)) (gcd-combination K L g_of v_sum));
          e1_proper = product_proper K L t1.0 s1.0;
          e2_proper = product_proper K L t1.0 s2.0;
          e3_proper = t2.1;
        }

    module _ (C : Curve) (hD : Valid K C D) (hE : Valid K C E) where
      abbrev f : Listed K
      f = f_of K L C

      abbrev m_d : mumford.Valid H f (mumford_of K L D)
      m_d = valid_mumford K L C D hD

      abbrev m_e : mumford.Valid H f (mumford_of K L E)
      m_e = valid_mumford K L C E hE

      g_some : 0 < length g_of.0
      g_some =
          Z.size_some F H g_of
          (M.monic_some F H g_of (gcd-monic K L (u_listed K L D) (u_listed K L E) (omega (arith, m_d.smaller))))

      d-monic : Monic H d_of
      d-monic = gcd-monic K L g_of v_sum (omega (arith, g_some))

      d_greatest : Shared P f (u_listed K L D) (v_listed K L D) (u_listed K L E) (v_listed K L E) d_of
      d_greatest = G.greatest_three (list_laws K L) (gcd_greatest K L (u_listed K L D) (u_listed K L E)) (gcd_greatest K L g_of v_sum)

      -- c is the composite of D and E in theory
      pub record Composes (c : Composite) : Type 0 where
        pub u_proper : Proper K c.u
        pub v_proper : Proper K c.v
        pub composed : Composed H f (mumford_of K L D) (mumford_of K L E) (mumford_composite c u_proper v_proper)

      -- there is only one
      pub composes_unique : {c e : Composite} → Composes c → Composes e → c ≡ e
      composes_unique {c} {e} hc he =
          let same = T.composed_unique F H m_d m_e hc.composed he.composed in
          let count : c.n+1 ≡ e.n+1 = omega (arith, ints, ap (λ (S : mumford.Divisor (Listed K)). S.n) same) in
          λ i. record {
            u = list_path (ap (λ (S : mumford.Divisor (Listed K)). S.u) same) i;
            v = list_path (ap (λ (S : mumford.Divisor (Listed K)). S.v) same) i;
            n+1 = count i;
          }

      -- What is computed from any cofactors is the composite.
      module _ (b : Bezout) (h : Combining K D E b) where
        d_proper : Proper K b.d
        unfolding bezout polynomials
        d_proper = subst (Proper K) (sym h.greatest) d_of.1

        abbrev d : Listed K
        d = (b.d, d_proper)

        abbrev e1 : Listed K
        e1 = (b.e1, h.e1_proper)

        abbrev e2 : Listed K
        e2 = (b.e2, h.e2_proper)

        abbrev e3 : Listed K
        e3 = (b.e3, h.e3_proper)

        same-d : d_of ≡ d
        unfolding bezout polynomials
        same-d = listed_path (sym h.greatest)

        monic : Monic H d
        monic = subst (Monic H) same-d d-monic

        d_some : d ≢ P.nil
        d_some = M.monic_some F H d monic

        shared : Shared P f (u_listed K L D) (v_listed K L D) (u_listed K L E) (v_listed K L E) d
        unfolding polynomials
        shared =
            record {
              divides = (subst (Greatest P (u_listed K L D ∷ u_listed K L E ∷ v_sum ∷ [])) same-d d_greatest).divides;
              factor = λ k. get_or (e1 ∷ e2 ∷ e3 ∷ []) k P.nil;
              combines =
                  in_a_row (list_laws K L) d e1 (u_listed K L D) e2 (u_listed K L E) e3 v_sum (listed_path h.combined);
            }

        -- The three divisions.

        abbrev square : Listed K
        square = P.mul d d

        abbrev u : Listed K
        u = quotient_of K L (P.mul (u_listed K L D) (u_listed K L E)) square

        abbrev top : Listed K
        top = theory.numerator P f (u_listed K L D) (v_listed K L D) (u_listed K L E) (v_listed K L E) shared

        abbrev v : Listed K
        v = remainder_of K L (quotient_of K L top d) u

        u_some : u ≢ P.nil
        u_some =
            Z.cofactor_some F H
            (divides_quotient K L (P.mul (u_listed K L D) (u_listed K L E)) square (T.square_divides F H m_d m_e monic shared))
            (Z.mul_some F H (u_listed K L D) (u_listed K L E) (M.monic_some F H (u_listed K L D) m_d.monic)
            (M.monic_some F H (u_listed K L E) m_e.monic))

        ruled : Composed H f (mumford_of K L D) (mumford_of K L E)
            (record { u = u; v = v; n = pos D.n +ℤ pos E.n +ℤ pos (mumford.degree H.size d) -ℤ pos 1 })
        ruled =
            T.divided-composed F H m_d m_e monic shared
            (divided K L (P.mul (u_listed K L D) (u_listed K L E)) square (Z.size_some F H square (Z.mul_some F H d d d_some d_some)))
            (divided K L top d (Z.size_some F H d d_some))
            (divided K L (quotient_of K L top d) u (Z.size_some F H u u_some))

        counted : pos D.n +ℤ pos E.n +ℤ pos (mumford.degree H.size d) -ℤ pos 1 ≡ pos (D.n + E.n + deg b.d) -ℤ pos 1
        counted = ap (λ k. pos (D.n + E.n + k) -ℤ pos 1) (less_one (length b.d))
          where
            less_one : (k : ℕ) → pred k ≡ k - 1
            less_one k = omega arith

        pub composed_by_composes : Composes (composed_by K b (sextic K C) D E)
        unfolding composed_by numerator polynomials shared
        composed_by_composes =
            record {
              u_proper = u.1;
              v_proper = v.1;
              composed =
                  subst (λ k. Composed H f (mumford_of K L D) (mumford_of K L E) (record { u = u; v = v; n = k })) counted ruled;
            }

      pub composed_composes : Composes (composed K (sextic K C) D E)
      unfolding composed
      composed_composes =
          composed_by_composes (bezout K (u_of K D) (u_of K E) (sum K (v_of K D) (v_of K E))) bezout_combining

      -- The choice of the cofactors does not change the composite.
      pub composed-same : (b : Bezout) → Combining K D E b → composed_by K b (sextic K C) D E ≡ composed K (sextic K C) D E
      composed-same b h = composes_unique (composed_by_composes b h) composed_composes

      -- Its degrees and n.
      module _ {c : Composite} (h : Composes c) where
        size_by_degree : (a : Listed K) → Monic H a → length a.0 ≡ suc (mumford.degree H.size a)
        size_by_degree a m = size_degree F H a (M.monic_some F H a m)

        u_size : length c.u ≡ suc (mumford.degree H.size (c.u, h.u_proper))
        u_size = size_by_degree (c.u, h.u_proper) (T.composed-monic F H m_d m_e h.composed)

        pub composes_fair : Fair c
        composes_fair =
            record {
              some = omega (arith, u_size);
              u_most =
                  omega (
                    arith,
                    u_size,
                    T.composed-degree F H m_d m_e h.composed,
                    size_by_degree (u_listed K L D) m_d.monic,
                    size_by_degree (u_listed K L E) m_e.monic,
                    m_d.range.u_most,
                    m_e.range.u_most,
                  );
              v_smaller = h.composed.v_is.smaller;
            }

        -- n + deg u ≤ 3
        pub composes_most : c.n+1 + length c.u ≤ 5
        composes_most = omega (arith, ints, u_size, T.composed_n_most F H m_d m_e h.composed)
