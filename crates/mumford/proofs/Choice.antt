-- The w of a reduction step: it is congruent to v modulo u, of degree at most 3, and u divides f − w², which is not 0, with a
-- quotient of degree at most 2.
use Rattle.std.proofs.Common.{◌≡◌, ℕ, ◌+◌ as ◌+ᴺ◌, ◌<◌, ◌≤◌, ◌≢◌, [], ◌∷◌, pos, negsuc, ◌+ℤ◌, ◌≤ℤ◌, sym, refl, ap, ◌∙◌, subst, ap₂, arith}
use Rattle.std.proofs.lemmas.Int.{ints, by_lt_z}
use Rattle.algebra.specs.Ring.{Ops, Laws, sub}
use Rattle.algebra.specs.Field.{Field}
use Rattle.algebra.specs.Divisibility.{Congruent}
use Rattle.algebra.specs.Polynomials.{Polynomials}
use Rattle.algebra.proofs.Reify.{by_ring, by_facts, ◌⋆◌, terms}
use Rattle.algebra.proofs.Elementary as R
use Rattle.algebra.proofs.PolynomialRing as A
use Rattle.algebra.proofs.Size as Z
use Rattle.mumford.specs.Functions.{Represents}
use Rattle.mumford.specs.Divisors.{Divisor, degree, InRange}
use Rattle.mumford.specs.Curve.{Curve}
use Rattle.mumford.specs.Addition.{Remainder, Chosen, plain, below, above, Opposite}
use Rattle.mumford.proofs.Degrees.{size_degree}
use Rattle.mumford.proofs.Remainders.{remainder_unique}
use Rattle.mumford.proofs.Norm as N

module _ {K : Type 0} {o : Ops K} (F : Field o) {P : Type 0} {p : Ops P} (H : Polynomials o p) {f V : P} (C : Curve H f V) where
  infixl 75 ◌+◌ ◌-◌
  infixl 80 ◌·◌
  open p use {add as ◌+◌, mul as ◌·◌, neg, nil, unit}
  open H use {coefficient, size, ends}

  abbrev ◌-◌ : P → P → P
  ◌-◌ = sub p

  abbrev L : Laws p
  L = A.polynomial_laws F H

  -- Each choice of w is congruent to v modulo u, and of degree at most 3.

  pub chosen_congruent : {D : Divisor P} {w : P} → Chosen H V D w → Congruent p D.u w D.v
  chosen_congruent {D} (plain e) = (nil, by_ring L (D.u ∷ D.v ∷ []) (search terms depth 60 fits 100000) refl)
  chosen_congruent {D} (below {r = r} l n m) = go m.congruent
    where
      go : Congruent p D.u r (D.v + V) → Congruent p D.u (neg V + r) D.v
      go (t, e) = (t, by_facts L (D.u ∷ D.v ∷ V ∷ r ∷ t ∷ []) (unit ⋆ e ∷ []) (search terms depth 60 fits 100000) refl)
  chosen_congruent {D} (above {r = r} l n m) = go m.congruent
    where
      go : Congruent p D.u r (D.v - V) → Congruent p D.u (V + r) D.v
      go (t, e) = (t, by_facts L (D.u ∷ D.v ∷ V ∷ r ∷ t ∷ []) (unit ⋆ e ∷ []) (search terms depth 60 fits 100000) refl)

  pub chosen_size : {D : Divisor P} {w : P} → size D.v < size D.u → Chosen H V D w → size w ≤ 4
  chosen_size l (plain e) = omega arith
  chosen_size l (below {r = r} h n m) =
      Z.size_add F H (neg V) r (omega (arith, Z.size_neg F H V, C.V_size)) (omega (arith, m.smaller))
  chosen_size l (above {r = r} h n m) = Z.size_add F H V r (omega (arith, C.V_size)) (omega (arith, m.smaller))

  -- The degree of f − w² is at most deg u + 2. For w = s + r, where s is V or −V, it is f − V² − 2·s·r − r².
  around : {k : ℕ} (s r : P) → s · s ≡ V · V → size s ≤ 4 → size r < k → k ≤ 4 → size (f - (s + r) · (s + r)) ≤ k +ᴺ 2
  around {k} s r e ls lr lk =
      let sr = Z.size_mul_most F H {m = 3} {n = size r} s r ls (omega arith) in
      let rr = Z.size_mul_most F H {m = 2} {n = size r} r r (omega arith) (omega arith) in
      subst (λ a. size a ≤ k +ᴺ 2) identity
      (Z.size_sub F H (f - V · V - (s · r + s · r)) (r · r)
      (Z.size_sub F H (f - V · V) (s · r + s · r) (omega (arith, C.close)) (Z.size_add F H (s · r) (s · r) (omega arith) (omega arith)))
      (omega arith))
    where
      identity : f - V · V - (s · r + s · r) - r · r ≡ f - (s + r) · (s + r)
      identity =
          by_facts L (f ∷ V ∷ s ∷ r ∷ []) (unit ⋆ e ∷ []) (search terms depth 60 fits 100000) refl

  minus-square : neg V · neg V ≡ V · V
  minus-square = by_ring L (V ∷ []) (search terms depth 60 fits 100000) refl

  pub chosen_most : {D : Divisor P} {w : P} → size D.v < size D.u → Chosen H V D w → size (f - w · w) ≤ size D.u +ᴺ 2
  chosen_most {D} l (plain e) =
      Z.size_sub F H f (D.v · D.v) (omega (arith, N.f_size F H C))
      (omega (arith, Z.size_mul_most F H {m = 3} {n = 4} D.v D.v (omega arith) (omega arith)))
  chosen_most l (below {r = r} h n m) =
      around (neg V) r minus-square (omega (arith, Z.size_neg F H V, C.V_size)) m.smaller h
  chosen_most l (above {r = r} h n m) = around V r refl (omega (arith, C.V_size)) m.smaller h

  pub difference_some : (w : P) → f - w · w ≢ nil
  difference_some w z = N.f_no_square F H C w (R.eq_of_sub p L f (w · w) z)

  -- So u divides f − w², which is not 0, and leaves a quotient of degree at most 2.
  pub chosen-quotient : {D : Divisor P} {w : P} → Represents p f D.u D.v → size D.v < size D.u → Chosen H V D w
      → (q : P) × (f - w · w ≡ D.u · q) × (q ≢ nil) × (size q ≤ 3)
  chosen-quotient {D} {w} (k, e) l c = go (chosen_congruent c)
    where
      go : Congruent p D.u w D.v → (q : P) × (f - w · w ≡ D.u · q) × (q ≢ nil) × (size q ≤ 3)
      go (t, h) =
          let q = k - t · (w + D.v) in
          let is : f - w · w ≡ D.u · q =
          by_facts L (f ∷ w ∷ D.u ∷ D.v ∷ k ∷ t ∷ []) (unit ⋆ e ∷ neg (w + D.v) ⋆ h ∷ []) (search terms depth 60 fits 100000) refl
          in
          let sq = Z.cofactor_some F H is (difference_some w) in
          let su = Z.divisor_some F H (q, is) (difference_some w) in
          (q, is, sq, omega (arith, ap size is, Z.size_mul_some F H D.u q su sq, chosen_most l c))

  -- Where a step is due and n is at least −1 and at most 3 − deg u, n is −1 if the x³ coefficient of w is −1, and otherwise
  -- n + deg u is 3.
  pub record Due (D : Divisor P) (w : P) : Type 0 where
    pub at_opposite : Opposite H w → D.n ≡ negsuc 0
    pub at_other : ¬ Opposite H w → D.n +ℤ pos (degree size D.u) ≡ pos 3

  remainder_gone : {a u r : P} → size u ≤ 4 → Remainder H a u r → coefficient r 3 ≡ o.nil
  remainder_gone {r = r} l m = ends r 3 (omega (arith, m.smaller))

  below-opposite : {a u r : P} → size u ≤ 4 → Remainder H a u r → Opposite H (neg V + r)
  below-opposite {r = r} l m =
      A.add_at F H (neg V) r 3
      ∙ ap₂ o.add (A.neg-at F H V 3 ∙ ap o.neg C.V_top) (remainder_gone l m)
      ∙ F.laws.add_nil (o.neg o.unit)

  above_other : {a u r : P} → size u ≤ 4 → Remainder H a u r → ¬ Opposite H (V + r)
  above_other {r = r} l m e = F.two (two o.unit (sym at_3 ∙ e))
    where
      at_3 : coefficient (V + r) 3 ≡ o.unit
      at_3 =
          A.add_at F H V r 3 ∙ ap₂ o.add C.V_top (remainder_gone l m) ∙ F.laws.add_nil o.unit

      two : (c : K) → c ≡ o.neg o.unit → o.add c o.unit ≡ o.nil
      two c h = by_facts F.laws (c ∷ []) (o.unit ⋆ h ∷ []) (search terms depth 60 fits 100000) refl

  pub chosen_due : {D : Divisor P} {w : P} → D.u ≢ nil → negsuc 0 ≤ℤ D.n → (D.n +ℤ pos (degree size D.u)) ≤ℤ pos 3
      → ¬ InRange size D → Chosen H V D w → Due D w
  chosen_due {D} some least most out (plain e) =
      let four = size_degree F H D.u some in
      record { at_opposite = λ _. omega (arith, ints); at_other = λ _. omega (arith, ints) }
  chosen_due {D} some least most out (below l n m) =
      record { at_opposite = λ _. omega (arith, ints); at_other = λ h. absurd (h (below-opposite l m)) }
  chosen_due {D} some least most out (above l n m) =
      record {
        at_opposite = λ h. absurd (above_other l m h);
        at_other =
            λ _.
            by_lt_z (pos 2) (D.n +ℤ pos (degree size D.u)) (λ h. omega (arith, ints))
            (λ h. absurd (out (record { u_most = omega (arith, ints, size_degree F H D.u some); n_least = n; n_most = h })));
      }

  -- There is one choice.
  pub chosen_unique : {D : Divisor P} {w x : P} → Chosen H V D w → Chosen H V D x → w ≡ x
  chosen_unique (plain e) (plain k) = refl
  chosen_unique (plain e) (below l n m) = absurd (omega arith)
  chosen_unique (plain e) (above l n m) = absurd (omega arith)
  chosen_unique (below l n m) (plain e) = absurd (omega arith)
  chosen_unique (below l n m) (below l' n' m') = ap (◌+◌ (neg V)) (remainder_unique F H m m')
  chosen_unique (below l n m) (above l' n' m') = absurd (omega (arith, ints))
  chosen_unique (above l n m) (plain e) = absurd (omega arith)
  chosen_unique (above l n m) (below l' n' m') = absurd (omega (arith, ints))
  chosen_unique (above l n m) (above l' n' m') = ap (◌+◌ V) (remainder_unique F H m m')
