-- Euclid's steps answer a greatest common divisor, and with the cofactors that they answer it is a combination.
use Rattle.std.proofs.Common.{◌≡◌, ℕ, zero, suc, ◌<◌, [], ◌∷◌, length, sym, refl, ap, ◌∙◌, subst, ap₂, arith}
use Rattle.algebra.specs.Ring.{Ops, Laws, sub}
use Rattle.algebra.specs.CommonDivisor.{Greatest}
use Rattle.algebra.specs.Polynomials.{constant}
use Rattle.algebra.proofs.Reify.{by_ring, by_facts, ◌⋆◌, terms}
use Rattle.algebra.proofs.Greatest as G
use Rattle.fields.specs.Arithmetic.{Arithmetic}
use Rattle.fields.specs.Lawful.{Lawful}
use Rattle.fields.proofs.Codes.{Code}
use Rattle.polynomials.specs.Polynomial.{Polynomial, sum, product, multiple, quotient, remainder, Common, step_back, euclid}
use Rattle.polynomials.specs.Proper.{Proper, Listed}
use Rattle.polynomials.proofs.Listed.{list_path, listed_path, none_proper, one_proper, difference_proper, multiple_proper, remainder_proper, polynomials, nil_list}
use Rattle.polynomials.proofs.Presentation.{presentation, list_laws}
use Rattle.polynomials.proofs.Operations.{difference_is, multiple_is}
use Rattle.polynomials.proofs.Remainders.{quotient_of, remainder_of, division, remainder_less}

module _ {C : Type 0} {o : Ops C} (T : Laws o) where
  infixl 75 ◌+◌
  infixl 80 ◌·◌
  open o use {add as ◌+◌, mul as ◌·◌, neg, nil, unit}

  first_alone : (a b : C) → a ≡ unit · a + nil · b
  first_alone a b = by_ring T (a ∷ b ∷ []) (search terms depth 60 fits 100000) refl

  -- with a = q·b + r, a combination of b and r is one of a and b
  stepped_back : (a b q r g f s : C) → a ≡ q · b + r → g ≡ f · b + s · r → g ≡ s · a + sub o f (q · s) · b
  stepped_back a b q r g f s h e =
      by_facts T (a ∷ b ∷ q ∷ r ∷ g ∷ f ∷ s ∷ []) (neg s ⋆ h ∷ unit ⋆ e ∷ []) (search terms depth 60 fits 100000) refl

  scaled : (κ a b g f s : C) → g ≡ f · a + s · b → κ · g ≡ κ · f · a + κ · s · b
  scaled κ a b g f s e = by_facts T (κ ∷ a ∷ b ∷ g ∷ f ∷ s ∷ []) (κ ⋆ e ∷ []) (search terms depth 60 fits 100000) refl

module _ (K : Arithmetic) (L : Lawful K) where
  abbrev P : Ops (Listed K)
  P = polynomials K L

  abbrev T : Laws P
  T = list_laws K L

  -- the divisor and the cofactors are polynomials, and divisor = first·a + second·b
  pub record Bezout (c : Common) (a b : Polynomial) : Type 0 where
    pub divisor : Proper K c.divisor
    pub first : Proper K c.first
    pub second : Proper K c.second
    pub combination : c.divisor ≡ sum K (product K c.first a) (product K c.second b)

  itself : (a b : Listed K) → Bezout (record { divisor = a.0; first = 1 ∷ []; second = [] }) a.0 b.0
  unfolding polynomials
  itself a b =
      record {
        divisor = a.1;
        first = one_proper K L;
        second = none_proper K L;
        combination = list_path (first_alone T a b);
      }

  stepped : (a b : Listed K) (c : Common) → Bezout c b.0 (remainder K a.0 b.0)
      → Bezout (step_back K (quotient K a.0 b.0) c) a.0 b.0
  unfolding polynomials
  stepped a b c h =
      let f : Listed K = (c.first, h.first) in
      let s : Listed K = (c.second, h.second) in
      let q : Listed K = quotient_of K L a b in
      let r : Listed K = remainder_of K L a b in
      record {
        divisor = h.divisor;
        first = h.second;
        second = difference_proper K L h.first (product K q.0 s.0);
        combination =
            list_path
            (stepped_back T a b q r (c.divisor, h.divisor) f s (division K L a b) (listed_path h.combination)
            ∙ ap (λ p. P.add (P.mul s a) (P.mul p b)) (sym (difference_is K L f (P.mul q s))));
      }

  pub euclid-bezout : (n : ℕ) (a b : Polynomial) → Proper K a → Proper K b → Bezout (euclid K n a b) a b
  unfolding euclid
  euclid-bezout zero a b ha hb = itself (a, ha) (b, hb)
  euclid-bezout (suc n) a [] ha hb = itself (a, ha) ([], hb)
  euclid-bezout (suc n) a (b₀ ∷ b) ha hb =
      let r : Polynomial = remainder K a (b₀ ∷ b) in
      stepped (a, ha) (b₀ ∷ b, hb) (euclid K n (b₀ ∷ b) r) (euclid-bezout n (b₀ ∷ b) r hb (remainder_proper K L ha (b₀ ∷ b)))

  -- a constant times all three
  abbrev pub all_multiples : ℕ → Common → Common
  all_multiples k c =
      record {
        divisor = multiple K k c.divisor;
        first = multiple K k c.first;
        second = multiple K k c.second;
      }

  pub multiple-bezout : (k : Code K.size) (c : Common) (a b : Listed K) → Bezout c a.0 b.0
      → Bezout (all_multiples k.0 c) a.0 b.0
  unfolding polynomials
  multiple-bezout k c a b h =
      let κ : Listed K = constant (presentation K L) k in
      let g : Listed K = (c.divisor, h.divisor) in
      let f : Listed K = (c.first, h.first) in
      let s : Listed K = (c.second, h.second) in
      record {
        divisor = multiple_proper K L k.0 c.divisor;
        first = multiple_proper K L k.0 c.first;
        second = multiple_proper K L k.0 c.second;
        combination =
            list_path
            (multiple_is K L k g
            ∙ scaled T κ a b g f s (listed_path h.combination)
            ∙ ap₂ (λ u v. P.add (P.mul u a) (P.mul v b)) (sym (multiple_is K L k f)) (sym (multiple_is K L k s)));
      }

  -- Each step shortens b, so that the last one has b = 0.
  pub euclid_greatest : (n : ℕ) (a b : Polynomial) (ha : Proper K a) (hb : Proper K b) (hg : Proper K (euclid K n a b).divisor)
      → length b < n
      → Greatest P ((a, ha) ∷ (b, hb) ∷ []) ((euclid K n a b).divisor, hg)
  unfolding euclid
  euclid_greatest zero a b ha hb hg l = absurd (omega arith)
  euclid_greatest (suc n) a [] ha hb hg l =
      subst (Greatest P ((a, ha) ∷ ([], hb) ∷ [])) (listed_path refl)
      (G.greatest_last T (a, ha) ([], hb) (listed_path (sym (nil_list K L))))
  euclid_greatest (suc n) a (b₀ ∷ b) ha hb hg l =
      let B : Listed K = (b₀ ∷ b, hb) in
      let r : Listed K = remainder_of K L (a, ha) B in
      let less : length r.0 < length B.0 = remainder_less K L (a, ha) B (omega arith) in
      G.greatest_step T (quotient_of K L (a, ha) B) r (division K L (a, ha) B)
      (euclid_greatest n (b₀ ∷ b) r.0 hb r.1 hg (omega arith))
