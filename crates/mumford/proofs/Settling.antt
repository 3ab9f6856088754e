-- The sum of valid divisors settles accounts joined: the composite by g = 1 and h = d, a step by g = y + w and h = u.
use Rattle.std.proofs.Common.{◌≡◌, ◌<◌, ◌≢◌, List, [], ◌∷◌, ◌++◌, pos, ◌+ℤ◌, ap, arith}
use Rattle.std.proofs.lemmas.Int.{ints}
use Rattle.algebra.specs.Ring.{Ops, Laws}
use Rattle.algebra.specs.Field.{Field}
use Rattle.algebra.specs.Polynomials.{Polynomials}
use Rattle.algebra.proofs.PolynomialRing as A
use Rattle.algebra.proofs.Size as Z
use Rattle.algebra.proofs.Monic as M
use Rattle.mumford.specs.Functions.{functions, constant, Represents}
use Rattle.mumford.specs.Divisors.{Divisor, degree, Valid}
use Rattle.mumford.specs.Composition.{Quotients}
use Rattle.mumford.specs.Curve.{Curve}
use Rattle.mumford.specs.Growth.{growth}
use Rattle.mumford.specs.Addition.{Composed, Chosen, Reduced, Sum, composed, reduced}
use Rattle.mumford.proofs.Composition.{composition_sets}
use Rattle.mumford.proofs.Reduction.{step-sets}
use Rattle.mumford.proofs.Smooth.{no_common_factor}
use Rattle.mumford.proofs.Growth as G
use Rattle.mumford.proofs.Lines as Y
use Rattle.mumford.proofs.Degrees.{degree_unit, degree-norm-constant}
use Rattle.mumford.proofs.Composed as C
use Rattle.mumford.proofs.Reduced as R
use Rattle.mumford.proofs.Settled.{Settled, one_some, settled_on, settled_joined}

module _ {K : Type 0} {o : Ops K} (F : Field o) {P : Type 0} {p : Ops P} (H : Polynomials o p) {f V : P} (curve : Curve H f V) where
  open p use {nil, unit}
  open H use {size}

  abbrev L : Laws p
  L = A.polynomial_laws F H

  constant_some : (a : P) → a ≢ nil → constant p a ≢ (functions p f).nil
  constant_some a some e = some (ap (λ g. g.0) e)

  -- The composite of D and E settles the two together, by g = 1 and h = d.
  settled_composed : {D E S : Divisor P} → Valid H f D → Valid H f E → Composed H f D E S → Settled F H curve S (D ∷ E ∷ [])
  settled_composed {D} {E} {S} hD hE c =
      record {
        settles =
            record {
              g = (functions p f).unit;
              h = constant p d;
              g_some = one_some F H curve;
              h_some = constant_some d d_some;
              sets =
                  composition_sets L D E q shared S (C.composed-u F H hD hE c) (C.composed-composite F H hD hE c)
                  (no_common_factor F H curve.separable q);
              growths =
                  omega (
                    arith,
                    ints,
                    n_is,
                    G.growth-constant F H curve d,
                    G.growth-constant F H curve unit,
                    degree_unit F H,
                  );
            };
        degrees =
            omega (
              arith,
              degree_unit F H,
              degree-norm-constant F H f unit (Z.unit_some F H),
              degree-norm-constant F H f d d_some,
              C.composed-degree F H hD hE c,
            );
      }
    where
      open c use {d, monic, shared, n_is}

      d_some : d ≢ nil
      d_some = M.monic_some F H d monic

      q : Quotients p f D.u D.v E.u E.v d
      q = C.quotients F H hD hE monic shared

  -- The result of a step settles what the step is taken from, by g = y + w and h = u.
  settled_reduced : {D S : Divisor P} {w : P} → Represents p f D.u D.v → size D.v < size D.u
      → Chosen H V D w → Reduced H f D S w
      → S.n +ℤ growth p size f V (w, unit) ≡ D.n +ℤ pos (degree size D.u)
      → Settled F H curve S (D ∷ [])
  settled_reduced {D} {S} {w} represents smaller chosen r e =
      record {
        settles =
            record {
              g = (w, unit);
              h = constant p D.u;
              g_some = Y.line_some F H curve w;
              h_some = constant_some D.u u_some;
              sets = step-sets L D S (R.reduced-step F H curve represents smaller chosen r);
              growths = omega (arith, ints, e, G.growth-constant F H curve D.u);
            };
        degrees =
            omega (
              arith,
              R.reduced-degree F H curve represents smaller chosen r,
              degree-norm-constant F H f D.u u_some,
            );
      }
    where
      u_some : D.u ≢ nil
      u_some = Z.some_size F H D.u (omega arith)

  module _ {D E : Divisor P} (hD : Valid H f D) (hE : Valid H f E) where
    settled_both : {S : Divisor P} → Sum H f V D E S → Settled F H curve S (D ∷ E ∷ [])
    settled_both (composed c range) = settled_composed hD hE c
    settled_both (reduced {T = T} c out chosen r) =
        let represents = C.composed_represents F H hD hE c in
        settled_on F H curve (settled_composed hD hE c)
        (settled_reduced represents c.v_is.smaller chosen r
        (R.reduced-growth F H curve represents c.v_is.smaller chosen r (C.composed_n_least F H hD hE c)
        (omega (arith, ints, C.composed_n_most F H hD hE c)) out))

    -- The sum of D and E settles an account of D joined to one of E.
    pub settled_sum : {S : Divisor P} {A B : List (Divisor P)} → Sum H f V D E S → Settled F H curve D A → Settled F H curve E B → Settled F H curve S (A ++ B)
    settled_sum sum a b = settled_joined F H curve a b (settled_both sum)
