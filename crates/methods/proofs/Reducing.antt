-- What the calls of a reduction give together, and how long w is.
use Rattle.std.proofs.Common.{◌≡◌, ℕ, zero, suc, ◌-◌, ◌≤◌, true, false, cond, eqb, ◌≢◌, List, length, get_or, ℤ, pos, negsuc, ◌<ℤ◌, ◌≤ℤ◌, refl, ap, ◌∙◌, arith, eq-eqb, ne_eqb}
use Rattle.std.proofs.lemmas.Int.{ints}
use Rattle.std.specs.Int.RustNames.{unsigned_abs}
use native.Mathlib.Decide.{ℕ_discrete}
use Rattle.algebra.specs.Ring.{Ops}
use Rattle.algebra.proofs.Elementary.{neg-neg}
use Rattle.fields.specs.Arithmetic.{Arithmetic}
use Rattle.fields.specs.Lawful.{Lawful}
use Rattle.polynomials.specs.Polynomial.{Polynomial, sum, negative, difference, product, quotient, remainder}
use Rattle.polynomials.specs.Proper.{Proper, Listed}
use Rattle.polynomials.specs.Ten.{value, Is}
use Rattle.polynomials.proofs.Lengths.{sum-length, negative-length}
use Rattle.polynomials.proofs.Listed.{list_path, sum_proper, difference_proper, polynomials}
use Rattle.polynomials.proofs.Presentation.{list_laws}
use Rattle.polynomials.proofs.Operations.{difference_is}
use Rattle.polynomials.proofs.Remainders.{remainder_less}
use Rattle.methods.specs.declared.curve.Curve.{Curve}
use Rattle.methods.specs.declared.divisor.Divisor.{Divisor}
use Rattle.methods.specs.declared.composition.Composition.{Composition}
use Rattle.methods.specs.Curves.{sextic, root}
use Rattle.methods.specs.Divisors.{divisor_of}
use Rattle.methods.specs.Sums.{Composite, Fair, deg, monic, lifted, stepped_by, stepped}
use Rattle.methods.specs.Steps.{one_more, composite_of}

-- v − (−V) is v + V
difference-negative : (K : Arithmetic) (L : Lawful K) {p q : Polynomial} → Proper K p → Proper K q
    → difference K p (negative K q) ≡ sum K p q
unfolding polynomials
difference-negative K L {p} {q} hp hq =
    let a : Listed K = (p, hp) in
    let b : Listed K = (q, hq) in
    let P : Ops (Listed K) = polynomials K L in
    list_path (difference_is K L a (P.neg b) ∙ ap (P.add a) (neg-neg P (list_laws K L) b))

-- n + 1 for an n that is tested
pub one_more-below : (n : ℤ) → n <ℤ pos 0 → one_more n ≡ 0
one_more-below (pos n) h = omega (arith, ints, h)
one_more-below (negsuc n) h = refl

pub one_more-above : (n : ℤ) → pos 0 ≤ℤ n → one_more n ≡ suc (unsigned_abs n)
one_more-above (pos n) h = refl
one_more-above (negsuc n) h = omega (arith, ints, h)

module _ (K : Arithmetic) (V : Polynomial) (c : Composite) where
  -- w in the three cases

  pub lifted_four : length c.u ≡ 5 → c.v ≡ lifted K V c
  unfolding lifted
  lifted_four e = let t : eqb (length c.u) 5 ≡ true = eq-eqb (length c.u) 5 e in rw (lifted, t) refl

  pub lifted-below : length c.u ≢ 5 → c.n+1 ≡ 0 → sum K (negative K V) (remainder K (sum K c.v V) c.u) ≡ lifted K V c
  unfolding lifted
  lifted-below e z = let t : eqb (length c.u) 5 ≡ false = ne_eqb (length c.u) 5 e in rw (lifted, t, z) refl

  pub lifted-above : length c.u ≢ 5 → (n : ℕ) → c.n+1 ≡ suc n → sum K V (remainder K (difference K c.v V) c.u) ≡ lifted K V c
  unfolding lifted
  lifted-above e n z = let t : eqb (length c.u) 5 ≡ false = ne_eqb (length c.u) 5 e in rw (lifted, t, z) refl

  -- the case below with −V in place of V
  pub lifted-turned : Lawful K → Proper K V → Proper K c.v → length c.u ≢ 5 → c.n+1 ≡ 0
      → sum K (negative K V) (remainder K (difference K c.v (negative K V)) c.u) ≡ lifted K V c
  lifted-turned L pV pv e z =
      ap (λ p. sum K (negative K V) (remainder K p c.u)) (difference-negative K L pv pV) ∙ lifted-below e z

  -- so w has a degree of at most 3
  pub lifted-short : Lawful K → Proper K V → length V ≤ 4 → Proper K c.u → Proper K c.v → Fair c → length (lifted K V c) ≤ 4
  lifted-short L pV V-most pu pv fair = at (ℕ_discrete (length c.u) 5) c.n+1 refl
    where
      rest-short : {a : Polynomial} → Proper K a → length c.u ≢ 5 → length (remainder K a c.u) ≤ 4
      rest-short {a} pa e = omega (arith, remainder_less K L (a, pa) (c.u, pu) fair.some, fair.u_most)

      at : Dec (length c.u ≡ 5) → (n : ℕ) → c.n+1 ≡ n → length (lifted K V c) ≤ 4
      at (yes e) n z = omega (arith, ap length (lifted_four e), fair.v_smaller)
      at (no e) zero z =
          omega (
            arith,
            ap length (lifted-below e z),
            sum-length K (negative K V) (remainder K (sum K c.v V) c.u) 4
                (omega (arith, negative-length K V)) (rest-short (sum_proper K L pv pV) e),
          )
      at (no e) (suc n) z =
          omega (
            arith,
            ap length (lifted-above e n z),
            sum-length K V (remainder K (difference K c.v V) c.u) 4 V-most (rest-short (difference_proper K L pv V) e),
          )

module _ (K : Arithmetic) (C : Curve) (c : Composition) where
  -- The step, from the numbers that stand for w, u' and −w, v' and n'.
  pub step_is : (w u o v : List ℕ) (n : ℕ) (D : Divisor)
      → value K w ≡ lifted K (root K C) (composite_of K c)
      → value K u ≡ monic K (quotient K (difference K (sextic K C) (product K (value K w) (value K w))) (value K c.u.codes))
      → Is K o (negative K (value K w))
      → Is K v (remainder K (value K o) (value K u))
      → n ≡ cond (eqb (get_or (value K w) 3 0) (K.minus 1)) (2 - deg (value K u)) 0
      → D ≡ divisor_of (value K u) (value K v) n
      → D ≡ stepped K (sextic K C) (root K C) (composite_of K c)
  unfolding stepped stepped_by
  step_is w u o v n D W U O V N M = cc
