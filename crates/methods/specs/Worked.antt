-- Sums worked over seven elements on y² = x⁶ + 1, and a product worked over nine.
use Rattle.std.specs.Prelude.{ℕ, Bool, true, ◌&&◌, List, [], ◌∷◌, is_ok, ◌==◌}
use Rattle.fields.specs.Arithmetic.{Arithmetic}
use Rattle.fields.specs.Residues.{residues}
use Rattle.fields.specs.Nine.{nine}
use Rattle.polynomials.specs.Polynomial.{Polynomial}
use Rattle.methods.specs.declared.curve.Curve.{Curve}
use Rattle.methods.specs.declared.divisor.Linear.{Linear}
use Rattle.methods.specs.declared.divisor.Divisor.{Divisor}
use Rattle.methods.specs.Divisors.{divisor_of, entered, neutral, opposite}
use Rattle.methods.specs.Sums.{plus, twice}

abbrev pub seven : Arithmetic
seven = residues 7

abbrev pub x⁶+1 : Curve
x⁶+1 = record { f4 = 0; f3 = 0; f2 = 0; f1 = 0; f0 = 1 }

-- [u; v; n], with u and v by their coefficients, the lowest first
abbrev pub ⟨◌∣◌∣◌⟩ : Polynomial → Polynomial → ℕ → Divisor
⟨ u ∣ v ∣ n ⟩ = divisor_of u v n

infixl 60 ◌⊞◌
abbrev pub ◌⊞◌ : Divisor → Divisor → Divisor
A ⊞ B = plus seven x⁶+1 A B

abbrev pub double : Divisor → Divisor
double A = twice seven x⁶+1 A

abbrev pub minus : Divisor → Divisor
minus A = opposite seven A

-- What is computed, and what it must be.
pub data Case : Type 0 where
  divisor : Divisor → Divisor → Case
  number : ℕ → ℕ → Case

infix 40 ◌is◌
abbrev pub ◌is◌ : Divisor → Divisor → Case
A is B = divisor A B

-- [x² + 6x; 2x + 1; 0]
abbrev pub D : Divisor
D = ⟨ 0 ∷ 6 ∷ 1 ∷ [] ∣ 1 ∷ 2 ∷ [] ∣ 0 ⟩

-- [x² + 2x + 6; x + 1; 0]
abbrev pub E : Divisor
E = ⟨ 6 ∷ 2 ∷ 1 ∷ [] ∣ 1 ∷ 1 ∷ [] ∣ 0 ⟩

-- [x² + 5x + 6; 4; 0]
abbrev pub G : Divisor
G = ⟨ 6 ∷ 5 ∷ 1 ∷ [] ∣ 4 ∷ [] ∣ 0 ⟩

abbrev pub cases : List Case
cases =
    (D ⊞ E is ⟨ 1 ∷ 0 ∷ 1 ∷ [] ∣ [] ∣ 0 ⟩)
    ∷ (double (D ⊞ E) is neutral)
    ∷ (double D is ⟨ 3 ∷ 0 ∷ 1 ∷ [] ∣ 0 ∷ 5 ∷ [] ∣ 0 ⟩)
    ∷ (D ⊞ G is ⟨ 0 ∷ 1 ∷ [] ∣ 6 ∷ [] ∣ 0 ⟩)
    ∷ (minus D ⊞ minus G is ⟨ 0 ∷ 1 ∷ [] ∣ 1 ∷ [] ∣ 1 ⟩)
    ∷ (D ⊞ ⟨ 6 ∷ 1 ∷ [] ∣ 3 ∷ [] ∣ 0 ⟩ is ⟨ 5 ∷ 0 ∷ 1 ∷ [] ∣ 4 ∷ [] ∣ 0 ⟩)
    ∷ (E ⊞ ⟨ 6 ∷ 2 ∷ 1 ∷ [] ∣ 6 ∷ 6 ∷ [] ∣ 0 ⟩ is neutral)
    ∷ (double ⟨ 0 ∷ 1 ∷ [] ∣ 1 ∷ [] ∣ 1 ⟩ is ⟨ 0 ∷ 1 ∷ [] ∣ 6 ∷ [] ∣ 0 ⟩)
    ∷ (double ⟨ 1 ∷ [] ∣ [] ∣ 2 ⟩ is ⟨ 1 ∷ [] ∣ [] ∣ 0 ⟩)
    ∷ number (nine.times 4 5) 1
    ∷ []

abbrev pub same_linear : Linear → Linear → Bool
same_linear a b = a.x1 == b.x1 && a.x0 == b.x0

abbrev pub same_divisor : Divisor → Divisor → Bool
same_divisor A B =
    (A.degree == B.degree) && same_linear A.u B.u && same_linear A.v B.v && A.n == B.n

-- A case is right where what is computed is as stated, and a stated divisor is valid.
abbrev pub right : Case → Bool
right (divisor computed stated) = same_divisor computed stated && is_ok (entered seven x⁶+1 stated)
right (number computed stated) = computed == stated

abbrev pub all_right : List Case → Bool
all_right [] = true
all_right (c ∷ cs) = right c && all_right cs
