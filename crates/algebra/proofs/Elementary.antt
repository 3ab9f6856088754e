-- The few facts of commutative rings that the solver's proof rests on.
use mathlib.Core.Path.{◌≡◌, sym, ◌∙◌, ap}
use Rattle.algebra.specs.Ring.{Ops, Laws}

module _ {K : Type 0} (o : Ops K) (L : Laws o) where
  open o use {add as ◌⊕◌, mul as ◌⊗◌, neg, nil, unit}
  open L use {add_comm, add_assoc, add_nil, add_neg, mul_comm, mul_assoc, mul_unit, mul-add}

  infixl 6 ◌⊕◌
  infixl 7 ◌⊗◌
  pub nil_add : (x : K) → nil ⊕ x ≡ x
  nil_add x = add_comm nil x ∙ add_nil x

  pub neg-add_self : (x : K) → neg x ⊕ x ≡ nil
  neg-add_self x = add_comm (neg x) x ∙ add_neg x

  pub add_left_comm : (x y z : K) → x ⊕ (y ⊕ z) ≡ y ⊕ (x ⊕ z)
  add_left_comm x y z = sym (add_assoc x y z) ∙ ap (λ t. t ⊕ z) (add_comm x y) ∙ add_assoc y x z

  pub add_swap : (a b c d : K) → (a ⊕ b) ⊕ (c ⊕ d) ≡ (a ⊕ c) ⊕ (b ⊕ d)
  add_swap a b c d =
      add_assoc a b (c ⊕ d) ∙ ap (λ t. a ⊕ t) (add_left_comm b c d) ∙ sym (add_assoc a c (b ⊕ d))

  pub add-mul : (x y z : K) → (x ⊕ y) ⊗ z ≡ x ⊗ z ⊕ y ⊗ z
  add-mul x y z = mul_comm (x ⊕ y) z ∙ mul-add z x y ∙ (λ i. mul_comm z x i ⊕ mul_comm z y i)

  pub mul_left_comm : (x y z : K) → x ⊗ (y ⊗ z) ≡ y ⊗ (x ⊗ z)
  mul_left_comm x y z = sym (mul_assoc x y z) ∙ ap (λ t. t ⊗ z) (mul_comm x y) ∙ mul_assoc y x z

  pub unit_mul : (x : K) → unit ⊗ x ≡ x
  unit_mul x = mul_comm unit x ∙ mul_unit x

  -- y cancels on the right
  pub add_cancel : (x y : K) → (x ⊕ y) ⊕ neg y ≡ x
  add_cancel x y = add_assoc x y (neg y) ∙ ap (λ t. x ⊕ t) (add_neg y) ∙ add_nil x

  pub cancel_add : (x y : K) → (x ⊕ neg y) ⊕ y ≡ x
  cancel_add x y = add_assoc x (neg y) y ∙ ap (λ t. x ⊕ t) (neg-add_self y) ∙ add_nil x

  -- what is added to x to give zero is its negative
  pub neg_unique : (x y : K) → x ⊕ y ≡ nil → x ≡ neg y
  neg_unique x y e = sym (add_cancel x y) ∙ ap (λ t. t ⊕ neg y) e ∙ nil_add (neg y)

  pub eq_of_sub : (x y : K) → x ⊕ neg y ≡ nil → x ≡ y
  eq_of_sub x y e = sym (cancel_add x y) ∙ ap (λ t. t ⊕ y) e ∙ nil_add y

  pub sub_of_eq : (x y : K) → x ≡ y → x ⊕ neg y ≡ nil
  sub_of_eq x y e = ap (λ t. t ⊕ neg y) e ∙ add_neg y

  pub mul_nil : (x : K) → x ⊗ nil ≡ nil
  mul_nil x =
      sym (add_cancel (x ⊗ nil) (x ⊗ nil))
      ∙ ap (λ t. t ⊕ neg (x ⊗ nil)) (sym (mul-add x nil nil) ∙ ap (λ t. x ⊗ t) (add_nil nil))
      ∙ add_neg (x ⊗ nil)

  pub nil_mul : (x : K) → nil ⊗ x ≡ nil
  nil_mul x = mul_comm nil x ∙ mul_nil x

  pub neg_nil : neg nil ≡ nil
  neg_nil = sym (nil_add (neg nil)) ∙ add_neg nil

  pub neg-neg : (x : K) → neg (neg x) ≡ x
  neg-neg x = sym (neg_unique x (neg x) (add_neg x))

  pub neg-add : (x y : K) → neg (x ⊕ y) ≡ neg x ⊕ neg y
  neg-add x y =
      sym (neg_unique (neg x ⊕ neg y) (x ⊕ y)
      (add_swap (neg x) (neg y) x y ∙ (λ i. neg-add_self x i ⊕ neg-add_self y i) ∙ add_nil nil))

  pub neg-mul : (x y : K) → neg x ⊗ y ≡ neg (x ⊗ y)
  neg-mul x y =
      neg_unique (neg x ⊗ y) (x ⊗ y) (sym (add-mul (neg x) x y) ∙ ap (λ t. t ⊗ y) (neg-add_self x) ∙ nil_mul y)

  pub neg_unit_mul : (x : K) → neg unit ⊗ x ≡ neg x
  neg_unit_mul x = neg-mul unit x ∙ ap neg (unit_mul x)
