-- Which lists of numbers are polynomials over a field: those of codes alone, with no 0 at the end.
use Rattle.std.specs.Prelude.{◌≡◌, ℕ, ◌<◌, slice_index}
use Rattle.fields.specs.Arithmetic.{Arithmetic}
use Rattle.polynomials.specs.Polynomial.{Polynomial, trim}

pub record Proper (K : Arithmetic) (p : Polynomial) : Type 0 where
  pub codes : (k : ℕ) → slice_index p k < K.size
  pub trimmed : trim p ≡ p

-- the polynomials over a field, each as its list
abbrev pub Listed : Arithmetic → Type 0
Listed K = (p : Polynomial) × Proper K p
