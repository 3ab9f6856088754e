-- The composite of two divisors: it is well defined whatever combination gives d, its u is monic and divides f − v², and its
-- degree and n are what those of the two divisors make.
use Rattle.std.proofs.Common.{◌≡◌, ◌+◌ as ◌+ᴺ◌, ◌<◌, ◌≤◌, [], ◌∷◌, pos, negsuc, ◌+ℤ◌, ◌-ℤ◌, ◌≤ℤ◌, sym, refl, ap, ◌∙◌, subst, arith}
use Rattle.std.proofs.lemmas.Int.{ints}
use Rattle.algebra.specs.Ring.{Ops, Laws}
use Rattle.algebra.specs.Field.{Field}
use Rattle.algebra.specs.Divisibility.{Regular, Divides, Congruent}
use Rattle.algebra.specs.Polynomials.{Polynomials, leading, Monic}
use Rattle.algebra.specs.Division.{Divided}
use Rattle.algebra.proofs.Reify.{by_facts, ◌⋆◌, terms}
use Rattle.algebra.proofs.Regular as R
use Rattle.algebra.proofs.PolynomialRing as A
use Rattle.algebra.proofs.Size as Z
use Rattle.algebra.proofs.Monic as M
use Rattle.algebra.proofs.Division as V
use Rattle.algebra.proofs.CommonDivisor as G
use Rattle.mumford.specs.Functions.{Represents}
use Rattle.mumford.specs.Divisors.{Divisor, degree, Valid}
use Rattle.mumford.specs.Composition.{Shared, numerator, Quotients, Composite}
use Rattle.mumford.specs.Addition.{Composed}
use Rattle.mumford.proofs.Congruences as C
use Rattle.mumford.proofs.Remainders.{exact-quotient, remainder_of}
use Rattle.mumford.proofs.Degrees.{size_degree, degree-mul}

module _ {K : Type 0} {o : Ops K} (F : Field o) {P : Type 0} {p : Ops P} (H : Polynomials o p) {f : P} {D E : Divisor P}
    (hD : Valid H f D) (hE : Valid H f E) where
  infixl 75 ◌+◌
  infixl 80 ◌·◌
  open p use {add as ◌+◌, mul as ◌·◌, unit}
  open H use {size}
  open D use {u as u1, v as v1}
  open E use {u as u2, v as v2}

  abbrev L : Laws p
  L = A.polynomial_laws F H

  abbrev Q : P → Type 0
  Q d = Quotients p f u1 v1 u2 v2 d

  -- For any monic greatest common divisor d the divisions of the rules leave nothing over.
  module _ {d : P} (monic : Monic H d) (g : Shared p f u1 v1 u2 v2 d) where
    cancel : Regular p d
    cancel = Z.regular F H d (M.monic_some F H d monic)

    pub quotients : Q d
    quotients = C.quotients L cancel g hD.represents hE.represents

    pub square_divides : Divides p (d · d) (u1 · u2)
    square_divides = (quotients.U1 · quotients.U2, C.common_square L quotients)

    u_by_quotients : {u : P} → u1 · u2 ≡ d · d · u → u ≡ quotients.U1 · quotients.U2
    u_by_quotients {u} e =
        R.regular_mul L d d cancel cancel u (quotients.U1 · quotients.U2) (sym e ∙ C.common_square L quotients)

    pub numerator_divides : Divides p d (numerator p f u1 v1 u2 v2 g)
    numerator_divides = (C.ruled L quotients g, C.numerator-divided L quotients g)

  module _ {S : Divisor P} (c : Composed H f D E S) where
    open c use {d, monic, shared, u_is, s, s_is, v_is, n_is}

    abbrev q : Q d
    q = quotients monic shared

    pub composed-u : S.u ≡ q.U1 · q.U2
    composed-u = u_by_quotients monic shared u_is

    pub composed-composite : Composite p f u1 v1 u2 v2 q S.v
    composed-composite =
        C.ruled-composite L q shared S.v s s_is (subst (λ u. Congruent p u S.v s) composed-u v_is.congruent)

    pub composed_represents : Represents p f S.u S.v
    composed_represents =
        subst (λ u. Represents p f u S.v) (sym composed-u) (C.composite_valid L q shared S.v composed-composite)

    pub composed-monic : Monic H S.u
    composed-monic =
        M.monic_factor F H (d · d) S.u (M.monic-mul F H d d monic monic)
        (ap (leading H) (sym u_is) ∙ M.monic-mul F H u1 u2 hD.monic hE.monic)

    -- deg u1 + deg u2 = 2·deg d + deg u
    pub composed-degree : degree size u1 +ᴺ degree size u2 ≡ degree size d +ᴺ degree size d +ᴺ degree size S.u
    composed-degree =
        let sd = M.monic_some F H d monic in
        omega (
          arith,
          ap (degree size) u_is,
          degree-mul F H u1 u2 (M.monic_some F H u1 hD.monic) (M.monic_some F H u2 hE.monic),
          degree-mul F H (d · d) S.u (Z.mul_some F H d d sd sd) (M.monic_some F H S.u composed-monic),
          degree-mul F H d d sd sd,
        )

    -- so deg u ≤ 4
    pub composed_most : size S.u ≤ 5
    composed_most =
        omega (
          arith,
          composed-degree,
          size_degree F H u1 (M.monic_some F H u1 hD.monic),
          size_degree F H u2 (M.monic_some F H u2 hE.monic),
          size_degree F H S.u (M.monic_some F H S.u composed-monic),
          hD.range.u_most,
          hE.range.u_most,
        )

    -- −1 ≤ n, and n + deg u + deg d ≤ 3
    pub composed_n_least : negsuc 0 ≤ℤ S.n
    composed_n_least = omega (arith, ints, n_is, hD.range.n_least, hE.range.n_least)

    pub composed_n_most : (S.n +ℤ pos (degree size S.u) +ℤ pos (degree size d)) ≤ℤ pos 3
    composed_n_most = omega (arith, ints, n_is, hD.range.n_most, hE.range.n_most, composed-degree)

  -- What meets the three congruences is the composite.
  pub composite-composed : {d : P} (monic : Monic H d) (g : Shared p f u1 v1 u2 v2 d) {S : Divisor P}
      → u1 · u2 ≡ d · d · S.u → Composite p f u1 v1 u2 v2 (quotients monic g) S.v
      → size S.v < size S.u → S.n ≡ D.n +ℤ E.n +ℤ pos (degree size d) -ℤ pos 1
      → Composed H f D E S
  composite-composed {d} monic g {S} u_is k smaller n_is =
      record {
        d = d;
        monic = monic;
        shared = g;
        u_is = u_is;
        s = C.ruled L q g;
        s_is = C.numerator-divided L q g;
        v_is =
            record {
              congruent =
                  subst (λ u. Congruent p u S.v (C.ruled L q g)) (sym (u_by_quotients monic g u_is))
                  (less (C.composite-value L q g S.v k));
              smaller = smaller;
            };
        n_is = n_is;
      }
    where
      q : Q d
      q = quotients monic g

      less : {u s v : P} → (t : P) × (v ≡ s + u · t) → Congruent p u v s
      less {u} {s} {v} (t, e) =
          (t, by_facts L (u ∷ s ∷ v ∷ t ∷ []) (unit ⋆ e ∷ []) (search terms depth 60 fits 100000) refl)

  -- The composite as it is computed, by three divisions.
  pub divided-composed : {d : P} (monic : Monic H d) (g : Shared p f u1 v1 u2 v2 d)
      → (t : Divided H (u1 · u2) (d · d)) (s : Divided H (numerator p f u1 v1 u2 v2 g) d) (r : Divided H s.quotient t.quotient)
      → Composed H f D E
      (record { u = t.quotient; v = r.remainder; n = D.n +ℤ E.n +ℤ pos (degree size d) -ℤ pos 1 })
  divided-composed {d} monic g t s r =
      record {
        d = d;
        monic = monic;
        shared = g;
        u_is = exact-quotient F H t (square_divides monic g);
        s = s.quotient;
        s_is = exact-quotient F H s (numerator_divides monic g);
        v_is = remainder_of F H r;
        n_is = refl;
      }

  -- Whatever combination gives d, the composite is the same.
  pub composed_unique : {S T : Divisor P} → Composed H f D E S → Composed H f D E T → S ≡ T
  composed_unique {S} {T} c t = λ i. record { u = same-u i; v = same-v i; n = same_n i }
    where
      open c use {d, monic, shared}

      q : Q d
      q = quotients monic shared

      same-d : d ≡ t.d
      same-d = G.monic_common_divisor_unique F H monic t.monic shared t.shared

      -- the combination that t gives, for d
      other : Shared p f u1 v1 u2 v2 d
      other = record { divides = shared.divides; factor = t.shared.factor; combines = same-d ∙ t.shared.combines }

      u_is : T.u ≡ q.U1 · q.U2
      u_is = u_by_quotients monic shared (t.u_is ∙ ap (λ e. e · e · T.u) (sym same-d))

      same-u : S.u ≡ T.u
      same-u = composed-u c ∙ sym u_is

      composite : Composite p f u1 v1 u2 v2 q T.v
      composite =
          C.ruled-composite L q other T.v t.s (t.s_is ∙ ap (λ e. e · t.s) (sym same-d))
          (subst (λ u. Congruent p u T.v t.s) u_is t.v_is.congruent)

      same-v : S.v ≡ T.v
      same-v =
          V.congruent_small F H
          (subst (λ u. Congruent p u S.v T.v) (sym (composed-u c))
          (C.composites_agree L q shared S.v T.v (composed-composite c) composite))
          c.v_is.smaller (omega (arith, t.v_is.smaller, ap size same-u))

      same_n : S.n ≡ T.n
      same_n = c.n_is ∙ ap (λ e. D.n +ℤ E.n +ℤ pos (degree size e) -ℤ pos 1) same-d ∙ sym t.n_is
