-- The nine elements are a lawful field, and tables stand for its operations: each a computed test over all codes.
use Rattle.std.proofs.Common.{◌≡◌, ℕ, zero, suc, ◌<◌, ◌≤◌, T, eqb, ◌≢◌, List, [], get_or, sym, refl, ◌∙◌, arith}
use native.Mathlib.Decide.{dec_lt}
use Rattle.fields.specs.Lawful.{Abelian, Lawful}
use Rattle.fields.specs.Nine.{nine, entry_of}
use Rattle.fields.proofs.Below.{every₂, equal₁, equal₂, equal₃, code₁, code₂}
use Rattle.fields.proofs.Among.{among-codes, among_outside_left, among_outside_right, only_outside}

-- an operation on two numbers that answers codes to codes, and 0 outside, answers a code everywhere
code_everywhere : (op : ℕ → ℕ → ℕ) → ((a b : ℕ) → 9 ≤ a → op a b ≡ 0) → ((a b : ℕ) → 9 ≤ b → op a b ≡ 0)
    → ((a b : ℕ) → a < 9 → b < 9 → op a b < 9)
    → (a b : ℕ) → op a b < 9
code_everywhere op left right inside a b =
    elim (dec_lt a 9) [
      | yes h ↦ elim (dec_lt b 9) [ yes k ↦ inside a b h k | no k ↦ omega (arith, right a b (omega arith)) ]
      | no h ↦ omega (arith, left a b (omega arith))
    ]

nine-sums : Abelian 9 nine.plus 0
nine-sums =
    let left : (a b : ℕ) → 9 ≤ a → nine.plus a b ≡ 0 = λ a b. among_outside_left 9 a b _ in
    let right : (a b : ℕ) → 9 ≤ b → nine.plus a b ≡ 0 = λ a b. among_outside_right 9 a b _ in
    record {
      answers_code = code_everywhere nine.plus left right (code₂ 9 nine.plus tt);
      associative = equal₃ 9 _ _ tt;
      commutative = equal₂ 9 _ _ tt;
      unit = equal₁ 9 _ _ tt;
      outside_left = left;
      outside_right = right;
    }

nine-products : Abelian 9 nine.times 1
nine-products =
    let left : (a b : ℕ) → 9 ≤ a → nine.times a b ≡ 0 = λ a b. among_outside_left 9 a b _ in
    let right : (a b : ℕ) → 9 ≤ b → nine.times a b ≡ 0 = λ a b. among_outside_right 9 a b _ in
    record {
      answers_code = code_everywhere nine.times left right (code₂ 9 nine.times tt);
      associative = equal₃ 9 _ _ tt;
      commutative = equal₂ 9 _ _ tt;
      unit = equal₁ 9 _ _ tt;
      outside_left = left;
      outside_right = right;
    }

minus_outside : (a : ℕ) → 9 ≤ a → nine.minus a ≡ 0
minus_outside a = only_outside 9 a _

inverse_outside : (a : ℕ) → 9 ≤ a → nine.inverse a ≡ 0
inverse_outside a = only_outside 9 a _

inverse_cancels : (a : ℕ) → a < 9 → a ≢ 0 → nine.times a (nine.inverse a) ≡ 1
inverse_cancels zero h n = absurd (n refl)
inverse_cancels (suc a) h n = equal₁ 8 (λ a. nine.times (suc a) (nine.inverse (suc a))) (λ a. 1) tt a (omega arith)

pub nine_lawful : Lawful nine
nine_lawful =
    record {
      least_size = omega arith;
      most_size = omega arith;
      sums = nine-sums;
      products = nine-products;
      distributive = equal₃ 9 _ _ tt;
      minus_code = λ a. elim (dec_lt a 9) [ yes h ↦ code₁ 9 nine.minus tt a h | no h ↦ omega (arith, minus_outside a (omega arith)) ];
      minus_cancels = equal₁ 9 _ _ tt;
      minus_outside = minus_outside;
      inverse_code = λ a. elim (dec_lt a 9) [ yes h ↦ code₁ 9 nine.inverse tt a h | no h ↦ omega (arith, inverse_outside a (omega arith)) ];
      inverse_cancels = inverse_cancels;
      inverse_of_zero = refl;
      inverse_outside = inverse_outside;
      two_not_zero = λ e. omega arith;
    }

-- A table that has the entries of an operation on codes stands for it everywhere.
table_is : (table : List (List ℕ)) (op : ℕ → ℕ → ℕ) → T (every₂ 9 (λ a b. eqb (get_or (get_or table a []) b 0) (op a b)))
    → ((a b : ℕ) → 9 ≤ a → op a b ≡ 0) → ((a b : ℕ) → 9 ≤ b → op a b ≡ 0)
    → (a b : ℕ) → entry_of table a b ≡ op a b
unfolding entry_of
table_is table op same left right a b =
    let x : ℕ = get_or (get_or table a []) b 0 in
    elim (dec_lt a 9) [
      | yes h ↦ elim (dec_lt b 9) [
        | yes k ↦ among-codes 9 a b x h k ∙ equal₂ 9 (λ a b. get_or (get_or table a []) b 0) op same a b h k
        | no k ↦ among_outside_right 9 a b x (omega arith) ∙ sym (right a b (omega arith))
      ]
      | no h ↦ among_outside_left 9 a b x (omega arith) ∙ sym (left a b (omega arith))
    ]

pub sum_table : (table : List (List ℕ)) → T (every₂ 9 (λ a b. eqb (get_or (get_or table a []) b 0) (nine.plus a b)))
    → (a b : ℕ) → entry_of table a b ≡ nine.plus a b
sum_table table same = table_is table nine.plus same nine-sums.outside_left nine-sums.outside_right

pub product_table : (table : List (List ℕ)) → T (every₂ 9 (λ a b. eqb (get_or (get_or table a []) b 0) (nine.times a b)))
    → (a b : ℕ) → entry_of table a b ≡ nine.times a b
product_table table same = table_is table nine.times same nine-products.outside_left nine-products.outside_right

-- In the words of the field: −x is 2·x, and x⁷ is the inverse of x.
pub negative_is : (x : ℕ) → nine.times 2 x ≡ nine.minus x
negative_is x =
    elim (dec_lt x 9) [
      | yes h ↦ equal₁ 9 (nine.times 2) nine.minus tt x h
      | no h ↦ nine-products.outside_right 2 x (omega arith) ∙ sym (minus_outside x (omega arith))
    ]

abbrev seventh_power : ℕ → ℕ
seventh_power x =
    let cube = nine.times (nine.times x x) x in
    nine.times (nine.times cube cube) x

pub inverse_is : (x : ℕ) → seventh_power x ≡ nine.inverse x
inverse_is x =
    elim (dec_lt x 9) [
      | yes h ↦ equal₁ 9 seventh_power nine.inverse tt x h
      | no h ↦
          let cube = nine.times (nine.times x x) x in
          nine-products.outside_right (nine.times cube cube) x (omega arith) ∙ sym (inverse_outside x (omega arith))
    ]
