-- The growth of a function over a lawful field is that of the pair of polynomials.
use Rattle.std.proofs.Common.{◌≡◌, ℕ, suc, pred, ◌+◌, ◌-◌, ◌≤◌, true, false, leb, ◌≢◌, [], ◌∷◌, length, ℤ, pos, ◌+ℤ◌, ◌-ℤ◌, sym, refl, ap, ◌∙◌, ap₂, sub-one, arith, le-leb}
use native.Mathlib.Decide.{dec_le}
use borrow.Author.Tests.{lt-leb}
use Rattle.std.proofs.lemmas.Int.{ints}
use Rattle.algebra.specs.Field.{Field}
use Rattle.algebra.specs.Polynomials.{Polynomials}
use Rattle.fields.specs.Arithmetic.{Arithmetic}
use Rattle.fields.specs.Lawful.{Lawful}
use Rattle.fields.proofs.Codes.{codes, field}
use Rattle.polynomials.specs.Polynomial.{Polynomial, is_zero, sum, product}
use Rattle.polynomials.specs.Proper.{Listed}
use Rattle.polynomials.proofs.Listed.{listed_path, polynomials, nil_list}
use Rattle.polynomials.proofs.Presentation.{presentation}
use Rattle.mumford.specs.Functions as M
use Rattle.mumford.specs.Growth as MG
use Rattle.mumford.specs.Growth.{growth_by}
use Rattle.mumford.specs.Curve.{Curve as Curved}
use Rattle.mumford.proofs.Norm as N
use Rattle.mumford.proofs.Growth as G
use Rattle.methods.specs.declared.curve.Curve.{Curve}
use Rattle.methods.specs.Curves.{root, Accepted}
use Rattle.methods.specs.Sums.{deg}
use Rattle.methods.proofs.Curves.{f_of, V_of, curve}
use Rattle.classes.specs.Functions.{Function, Over, zero_function, function_product, conjugate, norm}
use Rattle.classes.specs.Growth.{growth}
use Rattle.classes.proofs.Functions.{lists, listed, ring, lists-mul, lists-conjugate, norm_list, lists_some, listed_some}

-- from the length of b, that of a + b·V, and the degrees of a and of the norm
by_length : (b : Polynomial) (s a n : ℕ)
    → growth_by (length b) s a n
    ≡ elim (is_zero b) as (λ _. ℤ) [
      | true ↦ pos a
      | false ↦ elim (leb (length b) s) [ true ↦ pos (s - 1) | false ↦ pos n -ℤ pos (length b - 1) -ℤ pos 3 ]
    ]
by_length [] s a n = refl
by_length (x ∷ b) s a n = at (dec_le (suc (length b)) s)
  where
    at : (v : Dec (suc (length b) ≤ s))
        → elim v as (λ _. ℤ) [ yes l ↦ pos (pred s) | no l ↦ pos n -ℤ pos (length b + 3) ]
        ≡ elim (leb (suc (length b)) s) as (λ _. ℤ) [ true ↦ pos (s - 1) | false ↦ pos n -ℤ pos (suc (length b) - 1) -ℤ pos 3 ]
    at (yes l) = rw (le-leb (suc (length b)) s l, sub-one)
    at (no l) = rw (lt-leb (suc (length b)) s (omega arith)) (omega (arith, ints))

module _ (K : Arithmetic) (L : Lawful K) (C : Curve) where
  -- the growth of a pair of polynomials
  abbrev pub γ : M.Function (Listed K) → ℤ
  γ = MG.growth (polynomials K L) (presentation K L).size (f_of K L C) (V_of K L C)

  pub growth_list : (g : M.Function (Listed K)) → γ g ≡ growth K C (lists g)
  unfolding polynomials growth MG.growth
  growth_list g =
      let b : Polynomial = g.1.0 in
      let s : Polynomial = sum K g.0.0 (product K b (root K C)) in
      ap₂ (growth_by (length b) (length s)) (sym (sub-one (length g.0.0)))
      (ap (λ p. pred (length p)) (norm_list K L C g) ∙ sym (sub-one (length (norm K C (lists g)))))
      ∙ by_length b (length s) (length g.0.0 - 1) (length (norm K C (lists g)) - 1)

  module _ (accepted : Accepted K C) where
    abbrev F : Field (codes K L)
    F = field K L

    abbrev H : Polynomials (codes K L) (polynomials K L)
    H = presentation K L

    abbrev the_curve : Curved H (f_of K L C) (V_of K L C)
    the_curve = curve K L C accepted

    module _ {g : Function} (hg : Over K g) (g_some : g ≢ zero_function) where
      pub norm_some : norm K C g ≢ []
      norm_some e =
          N.norm_some F H the_curve (listed hg) (listed_some K L C hg g_some)
          (listed_path (norm_list K L C (listed hg) ∙ e ∙ sym (nil_list K L)))

      pub conjugate-growth : growth K C g +ℤ growth K C (conjugate K g) ≡ pos (deg (norm K C g))
      conjugate-growth =
          let x = listed hg in
          rw (← lists-conjugate K L C x, ← growth_list x, ← growth_list (M.conjugate (polynomials K L) x), ← norm_list K L C x, sub-one)
          (G.growth-conjugate F H the_curve x (listed_some K L C hg g_some))

      module _ {h : Function} (hh : Over K h) (h_some : h ≢ zero_function) where
        pub product_some : function_product K C g h ≢ zero_function
        product_some =
            let x = listed hg in
            let y = listed hh in
            rw (← lists-mul K L C x y) (lists_some K L C ((ring K L C).mul x y)
            (N.product_some F H the_curve x y (listed_some K L C hg g_some) (listed_some K L C hh h_some)))

        pub product-growth : growth K C (function_product K C g h) ≡ growth K C g +ℤ growth K C h
        product-growth =
            let x = listed hg in
            let y = listed hh in
            rw (← lists-mul K L C x y, ← growth_list x, ← growth_list y, ← growth_list ((ring K L C).mul x y))
            (G.growth-mul F H the_curve x y (listed_some K L C hg g_some) (listed_some K L C hh h_some))
