-- The neutral divisor is valid, and so are negatives and sums of valid divisors; and two divisors have one sum.
use Rattle.std.proofs.Common.{◌≡◌, [], ◌∷◌, refl, subst, arith}
use Rattle.std.proofs.lemmas.Int.{ints}
use Rattle.algebra.specs.Ring.{Ops, Laws, sub}
use Rattle.algebra.specs.Field.{Field}
use Rattle.algebra.specs.Polynomials.{Polynomials}
use Rattle.algebra.proofs.Reify.{by_ring, by_facts, ◌⋆◌, terms}
use Rattle.algebra.proofs.PolynomialRing as A
use Rattle.algebra.proofs.Size as Z
use Rattle.algebra.proofs.Monic as M
use Rattle.mumford.specs.Functions.{Represents}
use Rattle.mumford.specs.Divisors.{Divisor, neutral, negative, InRange, Valid}
use Rattle.mumford.specs.Curve.{Curve}
use Rattle.mumford.specs.Addition.{Chosen, Reduced, Sum, composed, reduced}
use Rattle.mumford.proofs.Degrees.{degree_unit}
use Rattle.mumford.proofs.Composed as C
use Rattle.mumford.proofs.Reduced as R

module _ {K : Type 0} {o : Ops K} (F : Field o) {P : Type 0} {p : Ops P} (H : Polynomials o p) where
  open p use {mul as ◌·◌, neg, nil, unit}
  open H use {size}

  abbrev L : Laws p
  L = A.polynomial_laws F H

  pub neutral_valid : (f : P) → Valid H f (neutral p)
  neutral_valid f =
      let one = Z.size_unit F H in
      let none = Z.size_nil F H in
      record {
        monic = M.monic_unit F H;
        smaller = omega arith;
        range = record { u_most = omega arith; n_least = omega (arith, ints); n_most = omega (arith, ints, degree_unit F H) };
        represents = (sub p f (◌·◌ nil nil), by_ring L (f ∷ []) (search terms depth 60 fits 100000) refl);
      }

  pub negative_valid : {f : P} {D : Divisor P} → Valid H f D → Valid H f (negative p size D)
  negative_valid {f} {D} h =
      record {
        monic = h.monic;
        smaller = omega (arith, h.smaller, Z.size_neg F H D.v);
        range =
            record {
              u_most = h.range.u_most;
              n_least = omega (arith, ints, h.range.n_most);
              n_most = omega (arith, ints, h.range.n_least);
            };
        represents = turned h.represents;
      }
    where
      turned : Represents p f D.u D.v → Represents p f D.u (neg D.v)
      turned (k, e) =
          (k, by_facts L (f ∷ D.u ∷ D.v ∷ k ∷ []) (unit ⋆ e ∷ []) (search terms depth 60 fits 100000) refl)

  pub sum_valid : {f V : P} → Curve H f V → {D E S : Divisor P} → Valid H f D → Valid H f E → Sum H f V D E S → Valid H f S
  sum_valid curve hD hE (composed c range) =
      record {
        monic = C.composed-monic F H hD hE c;
        smaller = c.v_is.smaller;
        range = range;
        represents = C.composed_represents F H hD hE c;
      }
  sum_valid curve hD hE (reduced c out chosen r) =
      R.reduced_valid F H curve (C.composed_represents F H hD hE c) c.v_is.smaller chosen r

  pub sum_unique : {f V : P} → Curve H f V → {D E S T : Divisor P} → Valid H f D → Valid H f E
      → Sum H f V D E S → Sum H f V D E T → S ≡ T
  sum_unique curve hD hE (composed c range) (composed d range') = C.composed_unique F H hD hE c d
  sum_unique curve hD hE (composed c range) (reduced d out chosen r) =
      absurd (out (subst (InRange size) (C.composed_unique F H hD hE c d) range))
  sum_unique curve hD hE (reduced c out chosen r) (composed d range) =
      absurd (out (subst (InRange size) (C.composed_unique F H hD hE d c) range))
  sum_unique {f} {V} curve {T = T} hD hE (reduced c out chosen r) (reduced {w = w} d out' chosen' r') =
      let same = C.composed_unique F H hD hE d c in
      R.reduced_unique F H curve chosen (subst (λ B. Chosen H V B w) same chosen') r (subst (λ B. Reduced H f B T w) same r')
