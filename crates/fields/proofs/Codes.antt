-- The codes of a lawful field are a field in the sense of algebra, so that the ring solver and the theory of polynomials
-- apply to them.
use Rattle.std.proofs.Common.{◌≡◌, ℕ, suc, ◌<◌, refl, ap, ◌∙◌, arith}
use mathlib.Core.HLevel.{Σ_prop_path, Σ_set, prop→set}
use native.Mathlib.Nat.{ℕ_set}
use native.Mathlib.Bridge.{le_prop}
use native.Mathlib.Decide.{ℕ_discrete}
use Rattle.algebra.specs.Ring.{Ops, Laws}
use Rattle.algebra.specs.Field.{Field}
use Rattle.fields.specs.Arithmetic.{Arithmetic}
use Rattle.fields.specs.Lawful.{Lawful}

-- a number below q, with the proof that it is
abbrev pub Code : ℕ → Type 0
Code q = (a : ℕ) × (a < q)

-- codes are equal where their numbers are
pub code_path : {q : ℕ} {a b : Code q} → a.0 ≡ b.0 → a ≡ b
code_path {q} {a} {b} e = Σ_prop_path (λ (k : ℕ). le_prop {n = suc k} {m = q}) {u = a} {v = b} e

module _ (K : Arithmetic) (L : Lawful K) where
  open L.sums use {answers_code as plus-code, associative as plus_assoc, commutative as plus_comm, unit as zero-plus}
  open L.products use {answers_code as times-code, associative as times-assoc, commutative as times-comm, unit as one-times}

  pub zero-code : 0 < K.size
  zero-code = omega (arith, L.least_size)

  pub one_code : 1 < K.size
  one_code = omega (arith, L.least_size)

  unfoldable pub codes : Ops (Code K.size)
  codes =
      record {
        add = λ a b. (K.plus a.0 b.0, plus-code a.0 b.0);
        mul = λ a b. (K.times a.0 b.0, times-code a.0 b.0);
        neg = λ a. (K.minus a.0, L.minus_code a.0);
        nil = (0, zero-code);
        unit = (1, one_code);
      }

  pub codes_laws : Laws codes
  unfolding codes
  codes_laws =
      record {
        is_set = Σ_set ℕ_set (λ (k : ℕ). prop→set (le_prop {n = suc k} {m = K.size}));
        add_comm = λ a b. code_path (plus_comm a.0 b.0 a.1 b.1);
        add_assoc = λ a b c. code_path (plus_assoc a.0 b.0 c.0 a.1 b.1 c.1);
        add_nil = λ a. code_path (plus_comm a.0 0 a.1 zero-code ∙ zero-plus a.0 a.1);
        add_neg = λ a. code_path (L.minus_cancels a.0 a.1);
        mul_comm = λ a b. code_path (times-comm a.0 b.0 a.1 b.1);
        mul_assoc = λ a b c. code_path (times-assoc a.0 b.0 c.0 a.1 b.1 c.1);
        mul_unit = λ a. code_path (times-comm a.0 1 a.1 one_code ∙ one-times a.0 a.1);
        mul-add = λ a b c. code_path (L.distributive a.0 b.0 c.0 a.1 b.1 c.1);
      }

  pub same? : (a b : Code K.size) → Dec (a ≡ b)
  same? a b = elim (ℕ_discrete a.0 b.0) [ yes e ↦ yes (code_path e) | no n ↦ no (λ e. n (ap (λ (c : Code K.size). c.0) e)) ]

  unfoldable pub field : Field codes
  unfolding codes
  field =
      record {
        laws = codes_laws;
        same? = same?;
        inverse = λ a. (K.inverse a.0, L.inverse_code a.0);
        inverse_ok = λ a some. code_path (L.inverse_cancels a.0 a.1 (λ e. some (code_path e)));
        two = λ e. L.two_not_zero (ap (λ (c : Code K.size). c.0) e);
      }

  pub inverse-number : (a : Code K.size) → (field.inverse a).0 ≡ K.inverse a.0
  unfolding field
  inverse-number a = refl
