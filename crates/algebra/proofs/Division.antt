-- Division with remainder by a polynomial that is not 0: there is one quotient and one remainder.
use mathlib.Core.Path.{◌≡◌, refl, ◌∙◌, ap}
use mathlib.Core.Logic.{◌≢◌}
use mathlib.Core.List.{[], ◌∷◌}
use Prim.Native.Nat.{ℕ, zero, suc, pred, ◌≤◌, ◌<◌}
use native.Mathlib.Omega.{arith}
use Rattle.algebra.specs.Ring.{Ops, Laws, sub}
use Rattle.algebra.specs.Field.{Field}
use Rattle.algebra.specs.Divisibility.{Divides, Congruent}
use Rattle.algebra.specs.Polynomials.{Polynomials, constant, x, tail}
use Rattle.algebra.specs.Division.{Divided}
use Rattle.algebra.proofs.Elementary as R
use Rattle.algebra.proofs.Reify.{by_ring, by_facts, ◌⋆◌, terms}
use Rattle.algebra.proofs.PolynomialRing as A
use Rattle.algebra.proofs.Size as Z

module _ {K : Type 0} {o : Ops K} (F : Field o) {P : Type 0} {p : Ops P} (H : Polynomials o p) where
  open p use {add as ◌+◌, mul as ◌·◌, neg, nil, unit}
  open H use {coefficient, size, top}

  infixl 75 ◌+◌ ◌-◌
  infixl 80 ◌·◌
  abbrev ◌-◌ : P → P → P
  ◌-◌ = sub p

  abbrev L : Laws p
  L = A.polynomial_laws F H

  -- Polynomials that are congruent modulo d and smaller than d are equal.
  pub congruent_small : {d a b : P} → Congruent p d a b → size a < size d → size b < size d → a ≡ b
  congruent_small {d = d} {a = a} {b = b} h la lb =
      let l = Z.size_sub F H {n = pred (size d)} a b (omega arith) (omega arith) in
      R.eq_of_sub p L a b (Z.divides_small F H h (omega arith))

  pub division_unique : {a d : P} (s t : Divided H a d) → (s.quotient ≡ t.quotient) × (s.remainder ≡ t.remainder)
  division_unique {a = a} {d = d} s t = (quotients, remainders)
    where
      open s use {quotient as q, remainder as r, is as e, smaller as l}
      open t use {quotient as q', remainder as r', is as e', smaller as l'}

      remainders : r ≡ r'
      remainders =
          congruent_small (
            q' - q,
            by_facts L (a ∷ d ∷ q ∷ r ∷ q' ∷ r' ∷ []) (neg unit ⋆ e ∷ unit ⋆ e' ∷ []) (search terms depth 60 fits 100000) refl,
          ) l l'

      quotients : q ≡ q'
      quotients =
          Z.regular F H d (Z.some_size F H d (omega arith)) q q'
          (by_facts L (a ∷ d ∷ q ∷ r ∷ q' ∷ r' ∷ []) (neg unit ⋆ e ∷ unit ⋆ e' ∷ neg unit ⋆ remainders ∷ [])
          (search terms depth 60 fits 100000) refl)

  -- d divides a where nothing remains, and only there; in any case a and what remains are congruent.

  pub remainder_divides : {a d : P} (s : Divided H a d) → s.remainder ≡ nil → Divides p d a
  remainder_divides {a = a} {d = d} s e = (q, by_facts L (a ∷ d ∷ q ∷ r ∷ []) (unit ⋆ s.is ∷ unit ⋆ e ∷ []) (search terms depth 60 fits 100000) refl)
    where
      open s use {quotient as q, remainder as r}

  pub remainder_congruent : {a d : P} (s : Divided H a d) → Congruent p d a s.remainder
  remainder_congruent {a = a} {d = d} s = (q, by_facts L (a ∷ d ∷ q ∷ r ∷ []) (unit ⋆ s.is ∷ []) (search terms depth 60 fits 100000) refl)
    where
      open s use {quotient as q, remainder as r}

  pub divides_remainder : {a d : P} (s : Divided H a d) → Divides p d a → s.remainder ≡ nil
  divides_remainder {a = a} {d = d} s (t, e) =
      Z.divides_small F H
      (t - q, by_facts L (a ∷ d ∷ q ∷ r ∷ t ∷ []) (neg unit ⋆ s.is ∷ unit ⋆ e ∷ []) (search terms depth 60 fits 100000) refl)
      s.smaller
    where
      open s use {quotient as q, remainder as r}

  -- Long division by d, of degree m: in a = a0 + x·tail a first the tail is divided, with remainder r; then d goes c times
  -- into s = a0 + x·r, with c the quotient of the coefficients of degree m.
  module _ (d : P) (m : ℕ) (e : size d ≡ suc m) where
    abbrev times_in : P → K
    times_in s = o.mul (coefficient s m) (F.inverse (coefficient d m))

    left_over : (s : P) → size s ≤ suc m → size (s - constant H (times_in s) · d) ≤ m
    left_over s l =
        Z.size_less F H (s - κ · d) (Z.size_sub F H s (κ · d) l most)
        (A.sub_at F H s (κ · d) m
        ∙ ap (sub o (coefficient s m)) (A.constant-at F H (times_in s) d m)
        ∙ cancels (coefficient s m) (coefficient d m) (F.inverse (coefficient d m)) (F.inverse_ok (coefficient d m) (top d m e)))
      where
        κ : P
        κ = constant H (times_in s)

        most : size (κ · d) ≤ suc m
        most =
            omega (arith, Z.size_mul_most F H {m = 0} {n = suc m} κ d (Z.size_constant_most F H (times_in s)) (omega arith))

        cancels : (b c i : K) → o.mul c i ≡ o.unit → sub o b (o.mul (o.mul b i) c) ≡ o.nil
        cancels b c i h =
            by_facts F.laws (b ∷ c ∷ i ∷ []) (o.neg b ⋆ h ∷ []) (search terms depth 60 fits 100000) refl

    bring_down : (a : P) → Divided H (tail H a) d → Divided H a d
    bring_down a t =
        record {
          quotient = constant H (times_in s) + x H · q;
          remainder = s - constant H (times_in s) · d;
          is = whole a0 (x H) (tail H a) (constant H (times_in s)) q r (A.head_tail F H a) t.is;
          smaller = omega (arith, left_over s (Z.size_add F H a0 (x H · r) small next));
        }
      where
        open t use {quotient as q, remainder as r}

        a0 : P
        a0 = constant H (coefficient a 0)

        s : P
        s = a0 + x H · r

        small : size a0 ≤ suc m
        small = omega (arith, Z.size_constant_most F H (coefficient a 0))

        next : size (x H · r) ≤ suc m
        next = omega (arith, Z.size_mul_most F H {m = 1} {n = m} (x H) r (omega (arith, Z.size_x F H)) (omega (arith, t.smaller)))

        whole : (a0 x a' κ q r : P) → a ≡ a0 + x · a' → a' ≡ q · d + r → a ≡ (κ + x · q) · d + (a0 + x · r - κ · d)
        whole a0 x a' κ q r h h' =
            by_facts L (a ∷ d ∷ a0 ∷ x ∷ a' ∷ κ ∷ q ∷ r ∷ []) (unit ⋆ h ∷ x ⋆ h' ∷ []) (search terms depth 60 fits 100000) refl

    divide_from : (n : ℕ) (a : P) → size a ≤ n → Divided H a d
    divide_from zero a l =
        record {
          quotient = nil;
          remainder = a;
          is = by_ring L (a ∷ d ∷ []) (search terms depth 60 fits 100000) refl;
          smaller = omega arith;
        }
    divide_from (suc n) a l = bring_down a (divide_from n (tail H a) (Z.size_tail F H a l))

  pub divide : (a d : P) → d ≢ nil → Divided H a d
  divide a d some =
      let l = Z.size_some F H d some in
      divide_from d (pred (size d)) (omega arith) (size a) a (omega arith)
