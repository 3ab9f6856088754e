-- Numbers, curves and divisors in bytes. A code, m or r takes two bytes, low byte first; a register, a degree or n takes one.
use Rattle.std.specs.Prelude.{ℕ, ◌+◌, ◌*◌, ◌/◌, ◌%◌, List, [], ◌∷◌, ◌++◌, slice_index}
use Rattle.methods.specs.declared.curve.Curve.{Curve}
use Rattle.methods.specs.declared.divisor.Divisor.{Divisor}

-- the byte at a place, and the number in the two bytes from a place on
abbrev pub byte_at : List ℕ → ℕ → ℕ
byte_at bytes i = slice_index bytes i

abbrev pub code_at : List ℕ → ℕ → ℕ
code_at bytes i = byte_at bytes i + byte_at bytes (i + 1) * 256

abbrev pub code_bytes : ℕ → List ℕ
code_bytes a = a % 256 ∷ a / 256 % 256 ∷ []

-- A curve takes ten bytes, f4 to f0.
abbrev pub curve_at : List ℕ → Curve
curve_at bytes =
    record {
      f4 = code_at bytes 0;
      f3 = code_at bytes 2;
      f2 = code_at bytes 4;
      f1 = code_at bytes 6;
      f0 = code_at bytes 8;
    }

-- A divisor takes ten bytes: degree, u1, u0, v1, v0, n.
abbrev pub divisor_at : List ℕ → Divisor
divisor_at bytes =
    record {
      degree = byte_at bytes 0;
      u = record { x1 = code_at bytes 1; x0 = code_at bytes 3 };
      v = record { x1 = code_at bytes 5; x0 = code_at bytes 7 };
      n = byte_at bytes 9;
    }

abbrev pub divisor_bytes : Divisor → List ℕ
divisor_bytes D =
    D.degree
    ∷ (code_bytes D.u.x1 ++ (code_bytes D.u.x0 ++ (code_bytes D.v.x1 ++ (code_bytes D.v.x0 ++ (D.n ∷ [])))))
