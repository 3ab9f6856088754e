-- A buffer after bytes were written into it.
use Rattle.std.specs.Prelude.{ℕ, ◌+◌, List, ◌++◌, length, take, drop}

-- the bytes stand from place n on, and all others are as they were
abbrev pub overwritten : List ℕ → ℕ → List ℕ → List ℕ
overwritten buffer n bytes = take n buffer ++ (bytes ++ drop (n + length bytes) buffer)
