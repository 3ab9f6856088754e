-- The functions over a lawful field are the functions on the curve over its ring of polynomials, pairs of lists for pairs of
-- polynomials: sums, products, conjugates and norms agree.
use Rattle.std.proofs.Common.{◌≡◌, ◌≢◌, sym, refl, ap, ◌∙◌}
use Rattle.algebra.specs.Ring.{Ops, Laws}
use Rattle.fields.specs.Arithmetic.{Arithmetic}
use Rattle.fields.specs.Lawful.{Lawful}
use Rattle.polynomials.specs.Proper.{Listed}
use Rattle.polynomials.proofs.Listed.{list_path, listed_path, polynomials}
use Rattle.polynomials.proofs.Presentation.{list_laws}
use Rattle.polynomials.proofs.Operations.{difference_is}
use Rattle.mumford.specs.Functions as M
use Rattle.mumford.proofs.Functions as U
use Rattle.methods.specs.declared.curve.Curve.{Curve}
use Rattle.methods.proofs.Curves.{f_of}
use Rattle.classes.specs.Functions.{Function, Over, zero_function, function_sum, function_product, conjugate, norm}

module _ {K : Arithmetic} where
  -- a pair of polynomials as its pair of lists, and back
  abbrev pub lists : M.Function (Listed K) → Function
  lists g = record { a = g.0.0; b = g.1.0 }

  pub lists-over : (g : M.Function (Listed K)) → Over K (lists g)
  lists-over g = record { a = g.0.1; b = g.1.1 }

  abbrev pub listed : {g : Function} → Over K g → M.Function (Listed K)
  listed {g} h = ((g.a, h.a), (g.b, h.b))

  pub lists_path : {g h : M.Function (Listed K)} → lists g ≡ lists h → g ≡ h
  lists_path e = U.both (listed_path (ap (λ (g : Function). g.a) e)) (listed_path (ap (λ (g : Function). g.b) e))

module _ (K : Arithmetic) (L : Lawful K) (C : Curve) where
  -- the ring of functions on the curve
  abbrev pub ring : Ops (M.Function (Listed K))
  ring = M.functions (polynomials K L) (f_of K L C)

  pub ring_laws : Laws ring
  ring_laws = U.function_laws (list_laws K L) (f_of K L C)

  pub lists_nil : lists ring.nil ≡ zero_function
  unfolding polynomials
  lists_nil = refl

  pub lists-add : (g h : M.Function (Listed K)) → lists (ring.add g h) ≡ function_sum K (lists g) (lists h)
  unfolding polynomials function_sum
  lists-add g h = refl

  pub lists-mul : (g h : M.Function (Listed K)) → lists (ring.mul g h) ≡ function_product K C (lists g) (lists h)
  unfolding polynomials function_product
  lists-mul g h = refl

  pub lists-conjugate : (g : M.Function (Listed K)) → lists (M.conjugate (polynomials K L) g) ≡ conjugate K (lists g)
  unfolding polynomials conjugate
  lists-conjugate g = refl

  pub norm_list : (g : M.Function (Listed K)) → (M.norm (polynomials K L) (f_of K L C) g).0 ≡ norm K C (lists g)
  unfolding polynomials norm
  norm_list g = sym (list_path (difference_is K L (P.mul g.0 g.0) (P.mul (P.mul g.1 g.1) (f_of K L C))))
    where
      P : Ops (Listed K)
      P = polynomials K L

  -- to be another function than 0
  pub lists_some : (g : M.Function (Listed K)) → g ≢ ring.nil → lists g ≢ zero_function
  lists_some g some e = some (lists_path (e ∙ sym lists_nil))

  pub listed_some : {g : Function} (h : Over K g) → g ≢ zero_function → listed h ≢ ring.nil
  listed_some h some e = some (ap lists e ∙ lists_nil)

  -- Sums and products of functions over the field are functions over it.

  pub sum_over : {g h : Function} → Over K g → Over K h → Over K (function_sum K g h)
  sum_over g h = rw (← lists-add (listed g) (listed h)) (lists-over (ring.add (listed g) (listed h)))

  pub product-over : {g h : Function} → Over K g → Over K h → Over K (function_product K C g h)
  product-over g h = rw (← lists-mul (listed g) (listed h)) (lists-over (ring.mul (listed g) (listed h)))

  pub conjugate-over : {g : Function} → Over K g → Over K (conjugate K g)
  conjugate-over g = rw (← lists-conjugate (listed g)) (lists-over (M.conjugate (polynomials K L) (listed g)))
