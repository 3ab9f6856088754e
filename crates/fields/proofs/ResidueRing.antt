-- The residues modulo m are a commutative ring, for every m above 0, and reading a number modulo m keeps sums and products.
use Rattle.std.proofs.Common.{◌≡◌, ℕ, suc, ◌+◌, ◌-◌, ◌*◌, ◌%◌, ◌<◌, sym, refl, ap, ◌∙◌, add-zero, add_assoc, mod-lt, mod-eq_of_lt, mul_assoc, mul_comm, add_comm, mul-one, mul-add, arith}
use mathlib.Core.HLevel.{Σ_set, prop→set}
use native.Mathlib.Nat.{ℕ_set, mod-mod, mod-add-mod, add-mod-mod, mod_self}
use native.Mathlib.Bridge.{le_prop}
use Rattle.std.proofs.lemmas.Nat.{mul-mod_first, mul-mod_second}
use Rattle.algebra.specs.Ring.{Ops, Laws}
use Rattle.fields.proofs.Codes.{Code, code_path}

module _ (m : ℕ) (some : 0 < m) where
  -- a number modulo m
  unfoldable pub residue : ℕ → Code m
  residue a = (a % m, mod-lt a some)

  unfoldable pub ring : Ops (Code m)
  ring =
      record {
        add = λ a b. ((a.0 + b.0) % m, mod-lt (a.0 + b.0) some);
        mul = λ a b. ((a.0 * b.0) % m, mod-lt (a.0 * b.0) some);
        neg = λ a. ((m - a.0) % m, mod-lt (m - a.0) some);
        nil = (0, some);
        unit = (1 % m, mod-lt 1 some);
      }

  pub ring_laws : Laws ring
  unfolding ring
  ring_laws =
      record {
        is_set = Σ_set ℕ_set (λ (k : ℕ). prop→set (le_prop {n = suc k} {m = m}));
        add_comm = λ a b. code_path (ap (λ t. t % m) (add_comm a.0 b.0));
        add_assoc = λ a b c. code_path (mod-add-mod (a.0 + b.0) m c.0 ∙ ap (λ t. t % m) (add_assoc a.0 b.0 c.0) ∙ sym (add-mod-mod a.0 (b.0 + c.0) m));
        add_nil = λ a. code_path (ap (λ t. t % m) (add-zero a.0) ∙ mod-eq_of_lt a.1);
        add_neg = λ a.
            code_path (add-mod-mod a.0 (m - a.0) m ∙ ap (λ t. t % m) (omega (arith, a.1)) ∙ mod_self m);
        mul_comm = λ a b. code_path (ap (λ t. t % m) (mul_comm a.0 b.0));
        mul_assoc = λ a b c. code_path (mul-mod_first (a.0 * b.0) c.0 m ∙ ap (λ t. t % m) (mul_assoc a.0 b.0 c.0) ∙ sym (mul-mod_second a.0 (b.0 * c.0) m));
        mul_unit = λ a. code_path (mul-mod_second a.0 1 m ∙ ap (λ t. t % m) (mul-one a.0) ∙ mod-eq_of_lt a.1);
        mul-add = λ a b c.
            code_path (mul-mod_second a.0 (b.0 + c.0) m
            ∙ ap (λ t. t % m) (mul-add a.0 b.0 c.0)
            ∙ sym (mod-add-mod (a.0 * b.0) m ((a.0 * c.0) % m) ∙ add-mod-mod (a.0 * b.0) (a.0 * c.0) m));
      }

  -- residues are equal where they leave the same
  pub residue_path : (a b : ℕ) → a % m ≡ b % m → residue a ≡ residue b
  unfolding residue
  residue_path a b e = code_path e

  pub residue-same : (a b : ℕ) → residue a ≡ residue b → a % m ≡ b % m
  unfolding residue
  residue-same a b e = ap (λ (c : Code m). c.0) e

  pub residue-add : (a b : ℕ) → residue (a + b) ≡ ring.add (residue a) (residue b)
  unfolding residue ring
  residue-add a b = code_path (sym (mod-add-mod a m (b % m) ∙ add-mod-mod a b m))

  pub residue-mul : (a b : ℕ) → residue (a * b) ≡ ring.mul (residue a) (residue b)
  unfolding residue ring
  residue-mul a b = code_path (sym (mul-mod_first a (b % m) m ∙ mul-mod_second a b m))

  pub residue-modulus : residue m ≡ ring.nil
  unfolding residue ring
  residue-modulus = code_path (mod_self m)

  pub residue-one : residue 1 ≡ ring.unit
  unfolding residue ring
  residue-one = code_path refl

  -- −a modulo m
  pub residue-neg : (a : ℕ) → residue (m - a % m) ≡ ring.neg (residue a)
  unfolding residue ring
  residue-neg a = code_path refl

  pub residue_mod : (a : ℕ) → residue (a % m) ≡ residue a
  residue_mod a = residue_path (a % m) a (mod-mod a m)
