-- When code arithmetic is a field: the laws, for all codes below the size.
use Rattle.std.specs.Prelude.{◌≡◌, ℕ, ◌<◌, ◌≤◌, ◌≢◌}
use Rattle.fields.specs.Arithmetic.{Arithmetic}

-- An operation with a neutral code on the codes below q. A number that is no code is answered by 0.
pub record Abelian (q : ℕ) (op : ℕ → ℕ → ℕ) (neutral : ℕ) : Type 0 where
  pub answers_code : (a b : ℕ) → op a b < q
  pub associative : (a b c : ℕ) → a < q → b < q → c < q → op (op a b) c ≡ op a (op b c)
  pub commutative : (a b : ℕ) → a < q → b < q → op a b ≡ op b a
  pub unit : (a : ℕ) → a < q → op neutral a ≡ a
  pub outside_left : (a b : ℕ) → q ≤ a → op a b ≡ 0
  pub outside_right : (a b : ℕ) → q ≤ b → op a b ≡ 0

-- A field in which 1 + 1 is not 0.
pub record Lawful (K : Arithmetic) : Type 0 where
  pub least_size : 3 ≤ K.size
  pub most_size : K.size ≤ 65535
  pub sums : Abelian K.size K.plus 0
  pub products : Abelian K.size K.times 1
  pub distributive : (a b c : ℕ) → a < K.size → b < K.size → c < K.size
      → K.times a (K.plus b c) ≡ K.plus (K.times a b) (K.times a c)
  pub minus_code : (a : ℕ) → K.minus a < K.size
  pub minus_cancels : (a : ℕ) → a < K.size → K.plus a (K.minus a) ≡ 0
  pub minus_outside : (a : ℕ) → K.size ≤ a → K.minus a ≡ 0
  pub inverse_code : (a : ℕ) → K.inverse a < K.size
  pub inverse_cancels : (a : ℕ) → a < K.size → a ≢ 0 → K.times a (K.inverse a) ≡ 1
  pub inverse_of_zero : K.inverse 0 ≡ 0
  pub inverse_outside : (a : ℕ) → K.size ≤ a → K.inverse a ≡ 0
  pub two_not_zero : K.plus 1 1 ≢ 0
