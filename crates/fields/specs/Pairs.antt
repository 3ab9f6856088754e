-- Pairs over a field: code a + q·b stands for a + b·t, where t² = r, r is no square below, and q is the size of the field
-- below.
use Rattle.std.specs.Prelude.{◌≡◌, ℕ, zero, suc, ◌+◌, ◌*◌, ◌/◌, ◌%◌, ◌<◌, Bool, false, cond, ◌||◌, Ok, Err, Result, ◌==◌, nat_le, nat_lt}
use Rattle.fields.specs.Arithmetic.{Arithmetic}
use Rattle.fields.specs.Residues.{only, among}
use Rattle.fields.specs.declared.refusal.FieldRefusal.{FieldRefusal}
use Rattle.fields.specs.declared.refusal.FieldRefusal.TheVariants.{Modulus, TooManyElements, TableLength, NotACode, NoInverse, Square}

-- the code of a + b·t
abbrev pub join : ℕ → ℕ → ℕ → ℕ
join q a b = among q a b (a + q * b)

module _ (K : Arithmetic) (q r : ℕ) where
  -- (a + b·t)·(a − b·t) = a² − b²·r, for the code a + q·b
  abbrev pub norm_below : ℕ → ℕ
  norm_below x = K.plus (K.times (x % q) (x % q)) (K.minus (K.times (K.times (x / q) (x / q)) r))

  -- The inverse of a + b·t is (a − b·t)/(a² − b²·r).
  abbrev pub pairs : Arithmetic
  pairs =
      record {
        size = q * q;
        plus = λ x y. among (q * q) x y (join q (K.plus (x % q) (y % q)) (K.plus (x / q) (y / q)));
        times = λ x y.
            among (q * q) x y
            (join q (K.plus (K.times (x % q) (y % q)) (K.times (K.times (x / q) (y / q)) r))
            (K.plus (K.times (x % q) (y / q)) (K.times (x / q) (y % q))));
        minus = λ x. only (q * q) x (join q (K.minus (x % q)) (K.minus (x / q)));
        inverse = λ x.
            only (q * q) x
            (join q (K.times (x % q) (K.inverse (norm_below x))) (K.times (K.minus (x / q)) (K.inverse (norm_below x))));
      }

-- r is the square of a code below n
abbrev pub square_below : Arithmetic → ℕ → ℕ → Bool
square_below K r zero = false
square_below K r (suc n) = K.times n n == r || square_below K r n

-- Whether pairs with t² = r are made over K: 2, 5 and 7, in this order.
abbrev pub pairs_answer : Arithmetic → ℕ → Result (Unit {0}) FieldRefusal
pairs_answer K r =
    cond (nat_le K.size 255)
    (cond (nat_lt r K.size) (cond (square_below K r K.size) (Err Square) (Ok tt)) (Err NotACode))
    (Err TooManyElements)

-- r is the square of an element
abbrev pub Root : Arithmetic → ℕ → ℕ → Type 0
Root K r x = (x < K.size) × (K.times x x ≡ r)

-- In the words of the subject: pairs are made only where r is no square, and refused on 7 only where it is one.
abbrev pub RootTold : Arithmetic → ℕ → Result (Unit {0}) FieldRefusal → Type 0
RootTold K r (Ok _) = (x : ℕ) → ¬ Root K r x
RootTold K r (Err Square) = (x : ℕ) × Root K r x
RootTold K r (Err Modulus) = Unit {0}
RootTold K r (Err TooManyElements) = Unit {0}
RootTold K r (Err TableLength) = Unit {0}
RootTold K r (Err NotACode) = Unit {0}
RootTold K r (Err (NoInverse a)) = Unit {0}
