-- A lawful field from a ring whose elements its codes stand for.
use Rattle.std.proofs.Common.{◌≡◌, ℕ, ◌<◌, ◌≤◌, ◌≢◌, sym, ap, ◌∙◌, subst, ap₂, arith}
use native.Mathlib.Decide.{dec_lt}
use Rattle.algebra.specs.Ring.{Ops, Laws}
use Rattle.algebra.proofs.Elementary as E
use Rattle.fields.specs.Arithmetic.{Arithmetic}
use Rattle.fields.specs.Lawful.{Abelian, Lawful}

-- The operations on codes are those of the ring o on the elements that the codes stand for; 0 and 1 stand for zero and
-- one, every element but zero has an inverse, and a number that is no code is answered by 0.
pub record Represented (K : Arithmetic) {A : Type 0} (o : Ops A) : Type 0 where
  pub element : (a : ℕ) → a < K.size → A
  pub code : A → ℕ
  pub code_below : (x : A) → code x < K.size
  pub code_element : (a : ℕ) (h : a < K.size) → code (element a h) ≡ a
  pub element_code : (x : A) (h : code x < K.size) → element (code x) h ≡ x
  pub code_zero : code o.nil ≡ 0
  pub code_one : code o.unit ≡ 1
  pub plus_is : (a b : ℕ) (h : a < K.size) (k : b < K.size) → K.plus a b ≡ code (o.add (element a h) (element b k))
  pub times_is : (a b : ℕ) (h : a < K.size) (k : b < K.size) → K.times a b ≡ code (o.mul (element a h) (element b k))
  pub minus_is : (a : ℕ) (h : a < K.size) → K.minus a ≡ code (o.neg (element a h))
  pub plus_outside_left : (a b : ℕ) → K.size ≤ a → K.plus a b ≡ 0
  pub plus_outside_right : (a b : ℕ) → K.size ≤ b → K.plus a b ≡ 0
  pub times_outside_left : (a b : ℕ) → K.size ≤ a → K.times a b ≡ 0
  pub times_outside_right : (a b : ℕ) → K.size ≤ b → K.times a b ≡ 0
  pub minus_outside : (a : ℕ) → K.size ≤ a → K.minus a ≡ 0
  pub inverse_outside : (a : ℕ) → K.size ≤ a → K.inverse a ≡ 0
  pub inverse_of_zero : K.inverse 0 ≡ 0
  pub inverse_code : (a : ℕ) → a < K.size → K.inverse a < K.size
  pub inverse_is : (a : ℕ) (h : a < K.size) (k : K.inverse a < K.size) → element a h ≢ o.nil
      → o.mul (element a h) (element (K.inverse a) k) ≡ o.unit

module _ (K : Arithmetic) {A : Type 0} {o : Ops A} (L : Laws o) (R : Represented K o) (least : 3 ≤ K.size) where
  open R use {element, code, code_below, code_element, element_code, plus_is, times_is, minus_is}

  -- the element of the code of x is x
  read : (x : A) (a : ℕ) (h : a < K.size) → a ≡ code x → element a h ≡ x
  read x a h e =
      let P : ℕ → Type 0 = λ c. (k : c < K.size) → element c k ≡ x in
      subst P (sym e) (λ k. element_code x k) h

  -- One operation of the ring, on codes.
  module _ (op : ℕ → ℕ → ℕ) (opᴬ : A → A → A)
      (is : (a b : ℕ) (h : a < K.size) (k : b < K.size) → op a b ≡ code (opᴬ (element a h) (element b k)))
      (left : (a b : ℕ) → K.size ≤ a → op a b ≡ 0) (right : (a b : ℕ) → K.size ≤ b → op a b ≡ 0) where
    op-code : (a b : ℕ) → op a b < K.size
    op-code a b =
        elim (dec_lt a K.size) [
          | yes h ↦ elim (dec_lt b K.size) [
            | yes k ↦ subst (λ c. c < K.size) (sym (is a b h k)) (code_below (opᴬ (element a h) (element b k)))
            | no k ↦ omega (arith, right a b (omega arith))
          ]
          | no h ↦ omega (arith, left a b (omega arith))
        ]

    op_element : (a b : ℕ) (h : a < K.size) (k : b < K.size) (l : op a b < K.size) → element (op a b) l ≡ opᴬ (element a h) (element b k)
    op_element a b h k l = read (opᴬ (element a h) (element b k)) (op a b) l (is a b h k)

    abelian : (neutral : ℕ) (e : A) → code e ≡ neutral
        → ((x y z : A) → opᴬ (opᴬ x y) z ≡ opᴬ x (opᴬ y z))
        → ((x y : A) → opᴬ x y ≡ opᴬ y x)
        → ((x : A) → opᴬ e x ≡ x)
        → Abelian K.size op neutral
    abelian neutral e en assoc comm neutral_is =
        record {
          answers_code = op-code;
          associative = λ a b c ha hb hc.
              is (op a b) c (op-code a b) hc
              ∙ ap code (ap (λ t. opᴬ t (element c hc)) (op_element a b ha hb (op-code a b)) ∙ assoc (element a ha) (element b hb) (element c hc))
              ∙ sym (is a (op b c) ha (op-code b c) ∙ ap (λ t. code (opᴬ (element a ha) t)) (op_element b c hb hc (op-code b c)));
          commutative = λ a b ha hb. is a b ha hb ∙ ap code (comm (element a ha) (element b hb)) ∙ sym (is b a hb ha);
          unit = λ a ha.
              let hn : neutral < K.size = subst (λ c. c < K.size) en (code_below e) in
              is neutral a hn ha
              ∙ ap (λ t. code (opᴬ t (element a ha))) (read e neutral hn (sym en))
              ∙ ap code (neutral_is (element a ha))
              ∙ code_element a ha;
          outside_left = left;
          outside_right = right;
        }

  sums : Abelian K.size K.plus 0
  sums =
      abelian K.plus o.add plus_is R.plus_outside_left R.plus_outside_right 0 o.nil R.code_zero L.add_assoc L.add_comm
      (E.nil_add o L)

  products : Abelian K.size K.times 1
  products =
      abelian K.times o.mul times_is R.times_outside_left R.times_outside_right 1 o.unit R.code_one L.mul_assoc L.mul_comm
      (E.unit_mul o L)

  minus_code : (a : ℕ) → K.minus a < K.size
  minus_code a =
      elim (dec_lt a K.size) [
        | yes h ↦ subst (λ c. c < K.size) (sym (minus_is a h)) (code_below (o.neg (element a h)))
        | no h ↦ omega (arith, R.minus_outside a (omega arith))
      ]

  inverse_code : (a : ℕ) → K.inverse a < K.size
  inverse_code a =
      elim (dec_lt a K.size) [ yes h ↦ R.inverse_code a h | no h ↦ omega (arith, R.inverse_outside a (omega arith)) ]

  -- only 0 stands for zero
  element_some : (a : ℕ) (h : a < K.size) → a ≢ 0 → element a h ≢ o.nil
  element_some a h some e = some (sym (code_element a h) ∙ ap code e ∙ R.code_zero)

  pub represented_lawful : K.size ≤ 65535 → K.plus 1 1 ≢ 0 → Lawful K
  represented_lawful most two =
      record {
        least_size = least;
        most_size = most;
        sums = sums;
        products = products;
        distributive = λ a b c ha hb hc.
            let add-element = op_element K.plus o.add plus_is R.plus_outside_left R.plus_outside_right in
            let mul-element = op_element K.times o.mul times_is R.times_outside_left R.times_outside_right in
            let hab = products.answers_code a b in
            let hac = products.answers_code a c in
            times_is a (K.plus b c) ha (sums.answers_code b c)
            ∙ ap code (ap (o.mul (element a ha)) (add-element b c hb hc (sums.answers_code b c)) ∙ L.mul-add (element a ha) (element b hb) (element c hc))
            ∙ sym (plus_is (K.times a b) (K.times a c) hab hac ∙ ap code (ap₂ o.add (mul-element a b ha hb hab) (mul-element a c ha hc hac)));
        minus_code = minus_code;
        minus_cancels = λ a ha.
            plus_is a (K.minus a) ha (minus_code a)
            ∙ ap code (ap (o.add (element a ha)) (read (o.neg (element a ha)) (K.minus a) (minus_code a) (minus_is a ha)) ∙ L.add_neg (element a ha))
            ∙ R.code_zero;
        minus_outside = R.minus_outside;
        inverse_code = inverse_code;
        inverse_cancels = λ a ha some.
            times_is a (K.inverse a) ha (inverse_code a)
            ∙ ap code (R.inverse_is a ha (inverse_code a) (element_some a ha some))
            ∙ R.code_one;
        inverse_of_zero = R.inverse_of_zero;
        inverse_outside = R.inverse_outside;
        two_not_zero = two;
      }
