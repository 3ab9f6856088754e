-- What the calls of a composition give together: each lemma takes what the calls in a row promise and ends in what the
-- function promises.
use Rattle.std.proofs.Common.{◌≡◌, ℕ, ◌+◌, ◌-◌, ◌≤◌, List, [], ◌∷◌, length, ℤ, pos, negsuc, ◌-ℤ◌, refl, ap, arith}
use Rattle.std.proofs.lemmas.Int.{ints}
use Rattle.algebra.specs.Ring.{Ops, Laws}
use Rattle.algebra.proofs.Reify.{by_ring, terms}
use Rattle.fields.specs.Arithmetic.{Arithmetic}
use Rattle.fields.specs.Lawful.{Lawful}
use Rattle.polynomials.specs.Polynomial.{sum, product, quotient, remainder}
use Rattle.polynomials.specs.Proper.{Listed}
use Rattle.polynomials.specs.Ten.{value, Is, Product, Combines}
use Rattle.polynomials.proofs.Lengths.{sum-length}
use Rattle.polynomials.proofs.Listed.{list_path, product_proper, polynomials}
use Rattle.polynomials.proofs.Presentation.{list_laws}
use Rattle.polynomials.proofs.Tens.{value_proper}
use Rattle.methods.specs.declared.curve.Curve.{Curve}
use Rattle.methods.specs.declared.divisor.Divisor.{Divisor}
use Rattle.methods.specs.declared.composition.Cofactors.{Cofactors}
use Rattle.methods.specs.declared.composition.Composition.{Composition}
use Rattle.methods.specs.Curves.{sextic}
use Rattle.methods.specs.Divisors.{u_of, v_of}
use Rattle.methods.specs.Sums.{bezout, Combining, numerator, composed_by}
use Rattle.methods.specs.Steps.{bezout_of, one_more, composite_of, Short}
use Rattle.methods.proofs.Curves.{sextic-length}
use Rattle.methods.proofs.Reading.{u-short, v-short}

-- n from n + 1
pub one_more_is : (n : ℤ) (m : ℕ) → n ≡ pos m -ℤ pos 1 → one_more n ≡ m
one_more_is (pos n) m e = omega (arith, ints, e)
one_more_is (negsuc n) m e = omega (arith, ints, e)

module _ {C : Type 0} {o : Ops C} where
  infixl 75 ◌⊹◌
  infixl 80 ◌·◌
  open o use {add as ◌⊹◌, mul as ◌·◌}

  distributed : Laws o → (x a u b w y : C) → x · (a · u ⊹ b · w) ⊹ y ≡ x · a · u ⊹ x · b · w ⊹ y
  distributed T x a u b w y = by_ring T (x ∷ a ∷ u ∷ b ∷ w ∷ y ∷ []) (search terms depth 60 fits 100000) refl

module _ (K : Arithmetic) (L : Lawful K) where
  distributed_list : (x a u b w y : Listed K)
      → sum K (product K x.0 (sum K (product K a.0 u.0) (product K b.0 w.0))) y.0
      ≡ sum K (sum K (product K (product K x.0 a.0) u.0) (product K (product K x.0 b.0) w.0)) y.0
  unfolding polynomials
  distributed_list x a u b w y = list_path (distributed (list_laws K L) x a u b w y)

  -- The numbers u1 and v1 are read as the polynomials of D, u2 and v2 as those of E.
  module _ (D E : Divisor) (u1 u2 : List ℕ) (U1 : value K u1 ≡ u_of K D) (U2 : value K u2 ≡ u_of K E) where
    u1_most : length (value K u1) ≤ 3
    u1_most = omega (arith, ap length U1, u-short K D)

    u2_most : length (value K u2) ≤ 3
    u2_most = omega (arith, ap length U2, u-short K E)

    -- The composite, from u1·u2 = uu, d·d = dd, the numerator n and its quotient s by d.
    module _ (C : Curve) (z : Cofactors) (few : Short (bezout_of K z)) (c : Composition) (uu dd n s : List ℕ)
        (UU : Product K u1 u2 uu)
        (DD : Product K z.d.codes z.d.codes dd)
        (U : Is K c.u.codes (quotient K (value K uu) (value K dd)))
        (N : value K n ≡ numerator K (sextic K C) (bezout_of K z) (u_of K D) (v_of K D) (u_of K E) (v_of K E))
        (S : Is K s (quotient K (value K n) (value K z.d.codes)))
        (V : Is K c.v.codes (remainder K (value K s) (value K c.u.codes)))
        (M : one_more c.n ≡ D.n + E.n + (length (value K z.d.codes) - 1))
      where
        pub composition_is : composite_of K c ≡ composed_by K (bezout_of K z) (sextic K C) D E
        unfolding composed_by
        composition_is =
            let uu_is = UU.stands (omega (arith, u1_most, u2_most)) in
            let dd_is = DD.stands (omega (arith, few.d)) in
            cc

    module _ (v1 v2 : List ℕ) (V1 : value K v1 ≡ v_of K D) (V2 : value K v2 ≡ v_of K E) where
      v1_most : length (value K v1) ≤ 2
      v1_most = omega (arith, ap length V1, v-short K D)

      v2_most : length (value K v2) ≤ 2
      v2_most = omega (arith, ap length V2, v-short K E)

      module _ (z : Cofactors) (gd gs gt s hs : List ℕ)
          (G : Combines K u1 u2 gd gs gt)
          (S : Is K s (sum K (value K v1) (value K v2)))
          (H : Combines K gd s z.d.codes hs z.e3.codes)
          (E1 : Product K hs gs z.e1.codes)
          (E2 : Product K hs gt z.e2.codes)
        where
          middle_most : length (value K s) ≤ 2
          middle_most = omega (arith, ap length S.stands, sum-length K (value K v1) (value K v2) 2 v1_most v2_most)

          bezout-short : Short (bezout_of K z)
          bezout-short =
              record {
                d = omega (arith, H.short, G.short, middle_most, u1_most, u2_most);
                e1 = omega (arith, E1.short, H.short_first, G.short_first, middle_most, u2_most);
                e2 = omega (arith, E2.short, H.short_first, G.short_second, middle_most, u1_most);
                e3 = omega (arith, H.short_second, G.short, u1_most, u2_most);
              }

          e1_is : value K z.e1.codes ≡ product K (value K hs) (value K gs)
          e1_is = E1.stands (omega (arith, H.short_first, G.short_first, middle_most, u2_most))

          e2_is : value K z.e2.codes ≡ product K (value K hs) (value K gt)
          e2_is = E2.stands (omega (arith, H.short_first, G.short_second, middle_most, u1_most))

          bezout_combining : Combining K D E (bezout_of K z)
          unfolding bezout
          bezout_combining =
              let first = e1_is in
              let second = e2_is in
              let spread =
              distributed_list (value K hs, value_proper K L hs) (value K gs, value_proper K L gs) (value K u1, value_proper K L u1)
              (value K gt, value_proper K L gt) (value K u2, value_proper K L u2)
              (product K (value K z.e3.codes) (value K s), product_proper K L (value K z.e3.codes) (value K s))
              in
              record {
                greatest = cc;
                combined = cc;
                e1_proper = value_proper K L z.e1.codes;
                e2_proper = value_proper K L z.e2.codes;
                e3_proper = value_proper K L z.e3.codes;
              }

          pub bezout_is : Combining K D E (bezout_of K z) × Short (bezout_of K z)
          bezout_is = (bezout_combining, bezout-short)

      -- The numerator, from its products: e1·u1·v2 = p, e2·u2·v1 = q, v1·v2 = r and e3·(r + f) = t.
      module _ (C : Curve) (z : Cofactors) (few : Short (bezout_of K z)) (f p0 p q0 q r s t pq n : List ℕ)
          (F : value K f ≡ sextic K C)
          (P0 : Product K z.e1.codes u1 p0)
          (P : Product K p0 v2 p)
          (Q0 : Product K z.e2.codes u2 q0)
          (Q : Product K q0 v1 q)
          (R : Product K v1 v2 r)
          (S : Is K s (sum K (value K r) (value K f)))
          (T : Product K z.e3.codes s t)
          (PQ : Is K pq (sum K (value K p) (value K q)))
          (N : Is K n (sum K (value K pq) (value K t)))
        where
          last_most : length (value K s) ≤ 7
          last_most =
              omega (
                arith,
                ap length S.stands,
                sum-length K (value K r) (value K f) 7
                    (omega (arith, R.short, v1_most, v2_most)) (omega (arith, ap length F, sextic-length K L C)),
              )

          pub numerator_is : value K n ≡ numerator K (sextic K C) (bezout_of K z) (u_of K D) (v_of K D) (u_of K E) (v_of K E)
          unfolding numerator
          numerator_is =
              let p0_is = P0.stands (omega (arith, few.e1, u1_most)) in
              let p_is = P.stands (omega (arith, P0.short, few.e1, u1_most, v2_most)) in
              let q0_is = Q0.stands (omega (arith, few.e2, u2_most)) in
              let q_is = Q.stands (omega (arith, Q0.short, few.e2, u2_most, v1_most)) in
              let r_is = R.stands (omega (arith, v1_most, v2_most)) in
              let t_is = T.stands (omega (arith, few.e3, last_most)) in
              cc
