-- The field of nine elements: code a + 3·b stands for a + b·i, with a and b modulo 3 and i² = 2.
use Rattle.std.specs.Prelude.{ℕ, ◌+◌, ◌*◌, ◌/◌, ◌%◌, List, [], slice_index, slice_index_or}
use Rattle.fields.specs.Arithmetic.{Arithmetic}
use Rattle.fields.specs.Residues.{only, among}

-- the code of a + b·i
abbrev pub gaussian : ℕ → ℕ → ℕ
gaussian a b = a % 3 + 3 * (b % 3)

-- a and b in a + b·i
abbrev pub real : ℕ → ℕ
real x = x % 3

abbrev pub imaginary : ℕ → ℕ
imaginary x = x / 3

-- (a + b·i)·(a − b·i) = a² − 2·b² = a² + b²
abbrev pub norm_of : ℕ → ℕ
norm_of x = real x * real x + imaginary x * imaginary x

-- The inverse of a + b·i is (a − b·i)/(a² + b²), and 1 and 2 are their own inverses modulo 3.
abbrev pub nine : Arithmetic
nine =
    record {
      size = 9;
      plus = λ x y. among 9 x y (gaussian (real x + real y) (imaginary x + imaginary y));
      times = λ x y. among 9 x y (gaussian (real x * real y + 2 * (imaginary x * imaginary y)) (real x * imaginary y + imaginary x * real y));
      minus = λ x. only 9 x (gaussian (2 * real x) (2 * imaginary x));
      inverse = λ x. only 9 x (gaussian (real x * norm_of x) (2 * imaginary x * norm_of x));
    }

-- what a table of nine by nine has for two codes, and 0 for other numbers
unfoldable pub entry_of : List (List ℕ) → ℕ → ℕ → ℕ
entry_of table a b = among 9 a b (slice_index (slice_index_or table a []) b)
