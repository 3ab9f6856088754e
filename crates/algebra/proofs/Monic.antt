-- Highest coefficients, and monic polynomials: each polynomial but 0 is a constant times a monic one, and monic
-- polynomials that divide each other are equal.
use mathlib.Core.Path.{◌≡◌, refl, sym, ◌∙◌, ap, ap₂}
use mathlib.Core.Logic.{◌≢◌}
use mathlib.Core.List.{[], ◌∷◌}
use Prim.Native.Nat.{ℕ, zero, suc, pred, ◌≤◌, ◌<◌}
use native.Mathlib.Omega.{arith}
use Rattle.algebra.specs.Ring.{Ops, pow}
use Rattle.algebra.specs.Field.{Field}
use Rattle.algebra.specs.Divisibility.{Divides}
use Rattle.algebra.specs.Polynomials.{Polynomials, constant, x, leading, Monic}
use Rattle.algebra.proofs.Elementary as R
use Rattle.algebra.proofs.Degree as D
use Rattle.algebra.proofs.Reify.{by_facts, ◌⋆◌, terms}
use Rattle.algebra.proofs.PolynomialRing as A
use Rattle.algebra.proofs.Size as Z

module _ {K : Type 0} {o : Ops K} (F : Field o) {P : Type 0} {p : Ops P} (H : Polynomials o p) where
  open p use {add as ◌+◌, mul as ◌·◌, neg, nil, unit}
  open H use {coefficient, size, ends, top}

  infixl 75 ◌+◌
  infixl 80 ◌·◌
  -- The highest coefficient.

  pub leading_at : {d : ℕ} (a : P) → size a ≡ suc d → leading H a ≡ coefficient a d
  unfolding leading
  leading_at a e = ap (λ n. coefficient a (pred n)) e

  pub leading_nil : leading H nil ≡ o.nil
  unfolding leading
  leading_nil = A.nil_at F H (pred (size nil))

  pub leading_some : (a : P) → a ≢ nil → leading H a ≢ o.nil
  unfolding leading
  leading_some a some = let l = Z.size_some F H a some in top a (pred (size a)) (omega arith)

  pub leading-constant : (c : K) → leading H (constant H c) ≡ c
  unfolding leading
  leading-constant c =
      let first : pred (size (constant H c)) ≡ 0 = omega (arith, Z.size_constant_most F H c) in
      ap (coefficient (constant H c)) first ∙ ap (λ s. s 0) (A.constant_is F H c)

  pub leading-neg : (a : P) → leading H (neg a) ≡ o.neg (leading H a)
  unfolding leading
  leading-neg a = ap (λ n. coefficient (neg a) (pred n)) (Z.size_neg F H a) ∙ A.neg-at F H a (pred (size a))

  -- the larger of two keeps its highest coefficient in the sum
  pub leading-add_larger : (a b : P) → size b < size a → leading H (a + b) ≡ leading H a
  unfolding leading
  leading-add_larger a b l =
      let d = pred (size a) in
      ap (λ n. coefficient (a + b) (pred n)) (Z.size_add_larger F H a b l)
      ∙ A.add_at F H a b d
      ∙ ap (o.add (coefficient a d)) (ends b d (omega arith))
      ∙ F.laws.add_nil (coefficient a d)

  pub leading-mul : (a b : P) → leading H (a · b) ≡ o.mul (leading H a) (leading H b)
  leading-mul a b = elim (Z.same? F H a nil) [
    | yes z ↦
        leading_is (ap (λ c. c · b) z ∙ R.nil_mul p (A.polynomial_laws F H) b)
        ∙ sym (ap (λ c. o.mul c (leading H b)) (leading_is z) ∙ R.nil_mul o F.laws (leading H b))
    | no sa ↦ elim (Z.same? F H b nil) [
      | yes z ↦
          leading_is (ap (λ c. a · c) z ∙ R.mul_nil p (A.polynomial_laws F H) a)
          ∙ sym (ap (o.mul (leading H a)) (leading_is z) ∙ R.mul_nil o F.laws (leading H a))
      | no sb ↦ some (Z.size_some F H a sa) (Z.size_some F H b sb)
    ]
  ]
    where
      leading_is : {c : P} → c ≡ nil → leading H c ≡ o.nil
      leading_is e = ap (leading H) e ∙ leading_nil

      some : 0 < size a → 0 < size b → leading H (a · b) ≡ o.mul (leading H a) (leading H b)
      some la lb =
          let m = pred (size a) in
          let n = pred (size b) in
          let ea : size a ≡ suc m = omega arith in
          let eb : size b ≡ suc n = omega arith in
          leading_at (a · b) (Z.size_mul F H a b ea eb)
          ∙ Z.mul-top F H a b (omega arith) (omega arith)
          ∙ sym (ap₂ o.mul (leading_at a ea) (leading_at b eb))

  -- Monic polynomials.

  pub monic_some : (a : P) → Monic H a → a ≢ nil
  monic_some a m e = D.unit_some F (sym m ∙ ap (leading H) e ∙ leading_nil)

  pub monic_unit : Monic H unit
  monic_unit = ap (leading H) (sym (A.constant_unit F H)) ∙ leading-constant o.unit

  pub monic-mul : (a b : P) → Monic H a → Monic H b → Monic H (a · b)
  monic-mul a b ma mb = leading-mul a b ∙ ap₂ o.mul ma mb ∙ F.laws.mul_unit o.unit

  -- the other factor of a monic product
  pub monic_factor : (a b : P) → Monic H a → Monic H (a · b) → Monic H b
  monic_factor a b ma m =
      sym (R.unit_mul o F.laws (leading H b)) ∙ ap (λ c. o.mul c (leading H b)) (sym ma) ∙ sym (leading-mul a b) ∙ m

  pub monic-constant : (a : P) → Monic H a → size a ≤ 1 → a ≡ unit
  monic-constant a m l =
      let e = Z.size_one F H a l in
      e ∙ ap (constant H) (sym (ap (leading H) e ∙ leading-constant (coefficient a 0)) ∙ m) ∙ A.constant_unit F H

  pub monic-x : Monic H (x H)
  monic-x = leading_at (x H) (Z.size_x F H) ∙ ap (λ s. s 1) (A.x_is F H)

  pub monic-power : (n : ℕ) → Monic H (pow p (x H) n)
  monic-power zero = monic_unit
  monic-power (suc n) = monic-mul (x H) (pow p (x H) n) monic-x (monic-power n)

  -- monic polynomials that divide each other are equal
  pub monic-same : {a b : P} → Monic H a → Monic H b → Divides p a b → Divides p b a → a ≡ b
  monic-same {a = a} {b = b} ma mb (t, e) h =
      let sa = monic_some a ma in
      let st = Z.cofactor_some F H e (monic_some b mb) in
      let one = monic-constant t (monic_factor a t ma (sym (ap (leading H) e) ∙ mb))
      (omega (arith, Z.size_divisor F H h sa, ap size e, Z.size_mul_some F H a t sa st))
      in
      sym (e ∙ ap (λ c. a · c) one ∙ (A.polynomial_laws F H).mul_unit a)

  -- A polynomial made monic.

  unfoldable pub monic_of : P → P
  monic_of a = constant H (F.inverse (leading H a)) · a

  pub monic_of-monic : (a : P) → a ≢ nil → Monic H (monic_of a)
  unfolding monic_of
  monic_of-monic a some =
      leading-mul (constant H (F.inverse (leading H a))) a
      ∙ ap (λ c. o.mul c (leading H a)) (leading-constant (F.inverse (leading H a)))
      ∙ F.laws.mul_comm (F.inverse (leading H a)) (leading H a)
      ∙ F.inverse_ok (leading H a) (leading_some a some)

  -- it is a unit times the polynomial, and the other way round
  pub leading_unit : (a : P) → a ≢ nil → constant H (leading H a) · constant H (F.inverse (leading H a)) ≡ unit
  leading_unit a some = Z.constant-inverse F H (leading H a) (leading_some a some)

  pub monic_of_back : (a : P) → a ≢ nil → a ≡ constant H (leading H a) · monic_of a
  unfolding monic_of
  monic_of_back a some = back (constant H (leading H a)) (constant H (F.inverse (leading H a))) (leading_unit a some)
    where
      back : (κ κ' : P) → κ · κ' ≡ unit → a ≡ κ · (κ' · a)
      back κ κ' e = by_facts (A.polynomial_laws F H) (a ∷ κ ∷ κ' ∷ []) (neg a ⋆ e ∷ []) (search terms depth 60 fits 100000) refl

  pub monic_of_size : (a : P) → a ≢ nil → size (monic_of a) ≡ size a
  monic_of_size a some =
      sym (ap size (monic_of_back a some) ∙ Z.size_constant-mul F H (leading H a) (monic_of a) (leading_some a some))
