-- A finite field by its codes: how many elements it has, and what its four operations answer to any numbers.
-- The codes are the numbers below the size.
use Rattle.std.specs.Prelude.{ℕ}

pub record Arithmetic : Type 0 where
  pub size : ℕ
  pub plus : ℕ → ℕ → ℕ
  pub times : ℕ → ℕ → ℕ
  pub minus : ℕ → ℕ
  pub inverse : ℕ → ℕ
