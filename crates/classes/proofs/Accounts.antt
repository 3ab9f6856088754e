-- The sums of products of an account are those over the pairs of polynomials, so a divisor settles an account where its pair of
-- polynomials does.
use Rattle.std.proofs.Common.{◌≡◌, List, [], ◌∷◌, map, pos, ◌+ℤ◌, ◌-ℤ◌, sym, refl, ap, ◌∙◌, subst, ap₂}
use Rattle.algebra.specs.Ring.{Ops}
use Rattle.fields.specs.Arithmetic.{Arithmetic}
use Rattle.fields.specs.Lawful.{Lawful}
use Rattle.polynomials.specs.Proper.{Listed}
use Rattle.polynomials.proofs.Listed.{polynomials}
use Rattle.polynomials.proofs.Presentation.{presentation}
use Rattle.mumford.specs.Functions as M
use Rattle.mumford.specs.Divisors as divisors
use Rattle.mumford.specs.Divisors.{Members}
use Rattle.mumford.specs.Accounts as theory
use Rattle.mumford.specs.Settling as S
use Rattle.methods.specs.declared.curve.Curve.{Curve}
use Rattle.methods.specs.declared.divisor.Divisor.{Divisor}
use Rattle.methods.proofs.Curves.{f_of, V_of}
use Rattle.methods.proofs.Representations.{mumford_of}
use Rattle.classes.specs.Functions.{Function, function_sum}
use Rattle.classes.specs.Settling.{Sums, none, more, Product, Multiple, excess, Settles}
use Rattle.classes.proofs.Functions.{lists, listed, lists-over, lists_nil, lists-add, lists-mul, lists_some, ring, ring_laws}
use Rattle.classes.proofs.Growth.{growth_list}
use Rattle.classes.proofs.Members.{member_listed, member_lists}

-- an account, by the polynomials of its divisors
abbrev pub account_of : (K : Arithmetic) → Lawful K → List Divisor → List (divisors.Divisor (Listed K))
account_of K L = map (mumford_of K L)

module _ (K : Arithmetic) (L : Lawful K) (C : Curve) where
  abbrev F : Type 0
  F = M.Function (Listed K)

  abbrev R : Ops F
  R = ring K L C

  -- the products of an account with the factor g
  abbrev Terms : F → List Divisor → F → Type 0
  Terms g A = theory.Multiple R g (theory.Product R (Members (polynomials K L)) (account_of K L A))

  product-lists : (g : F) (A : List Divisor) (z : F) → Terms g A z → Product K C (lists g) A (lists z)
  product-lists g [] z (p, _, e) = (lists p, lists-over p, ap lists e ∙ lists-mul K L C g p)
  product-lists g (D ∷ A) z (p, (a, q, m, r, e'), e) = (
    lists a,
    member_lists K L D a m,
    subst (λ (x : Function). Product K C x A (lists z)) (lists-mul K L C g a)
        (product-lists (R.mul g a) A z (q, r, e ∙ ap (R.mul g) e' ∙ sym ((ring_laws K L C).mul_assoc g a q))),
  )

  product-listed : (g : F) (A : List Divisor) (x : Function) → Product K C (lists g) A x → (z : F) × Terms g A z × (x ≡ lists z)
  product-listed g [] x (c, over, e) = (R.mul g (listed over), (listed over, tt, refl), e ∙ sym (lists-mul K L C g (listed over)))
  product-listed g (D ∷ A) x (a, m, r) =
      let a' : F = listed m.over in
      let (z, (q, s, e), e') = product-listed (R.mul g a') A x (rw (lists-mul K L C g a') r) in
      (z, (R.mul a' q, (a', q, member_listed K L D m, s, refl), e ∙ (ring_laws K L C).mul_assoc g a' q), e')

  multiple-lists : (h : F) (D : Divisor) (z : F) → theory.Multiple R h (Members (polynomials K L) (mumford_of K L D)) z
      → Multiple K C (lists h) D (lists z)
  multiple-lists h D z (m, t, e) = (lists m, member_lists K L D m t, ap lists e ∙ lists-mul K L C h m)

  multiple-listed : (h : F) (D : Divisor) (x : Function) → Multiple K C (lists h) D x
      → (z : F) × theory.Multiple R h (Members (polynomials K L) (mumford_of K L D)) z × (x ≡ lists z)
  multiple-listed h D x (m, t, e) =
      let m' : F = listed t.over in
      (R.mul h m', (m', member_listed K L D t, refl), e ∙ sym (lists-mul K L C h m'))

  sums-lists : {S : F → Type 0} {T : Function → Type 0} → ((z : F) → S z → T (lists z))
      → (z : F) → theory.Sums R S z → Sums K T (lists z)
  sums-lists {T = T} h _ theory.none = subst (Sums K T) (sym (lists_nil K L C)) none
  sums-lists {T = T} h _ (theory.more {x = x} {y = y} s r) =
      subst (Sums K T) (sym (lists-add K L C x y)) (more (h x s) (sums-lists h y r))

  sums-listed : {S : F → Type 0} {T : Function → Type 0} → ((x : Function) → T x → (z : F) × S z × (x ≡ lists z))
      → (x : Function) → Sums K T x → (z : F) × theory.Sums R S z × (x ≡ lists z)
  sums-listed h _ none = (R.nil, theory.none, sym (lists_nil K L C))
  sums-listed h _ (more {x = x} {y = y} s r) =
      let (a, sa, ea) = h x s in
      let (b, sb, eb) = sums-listed h y r in
      (R.add a b, theory.more sa sb, ap₂ (function_sum K) ea eb ∙ sym (lists-add K L C a b))

  excess_is : (A : List Divisor) → S.excess (account_of K L A) ≡ excess A
  excess_is [] = refl
  excess_is (D ∷ A) = ap (λ z. pos D.n -ℤ pos 1 +ℤ z) (excess_is A)

  pub settles_lists : {D : Divisor} {A : List Divisor}
      → S.Settles (polynomials K L) (presentation K L).size (f_of K L C) (V_of K L C) (mumford_of K L D) (account_of K L A)
      → Settles K C D A
  settles_lists {D} {A} s =
      record {
        g = lists s.g;
        h = lists s.h;
        g_over = lists-over s.g;
        h_over = lists-over s.h;
        g_some = lists_some K L C s.g s.g_some;
        h_some = lists_some K L C s.h s.h_some;
        within =
            λ x t.
            let (z, t', e) = sums-listed (product-listed s.g A) x t in
            subst (Multiple K C (lists s.h) D) (sym e) (multiple-lists s.h D z (s.sets.within z t'));
        reached =
            λ x m.
            let (z, m', e) = multiple-listed s.h D x m in
            subst (Sums K (Product K C (lists s.g) A)) (sym e) (sums-lists (product-lists s.g A) z (s.sets.reached z m'));
        growths =
            rw (← excess_is A, ← growth_list K L C s.h, ← growth_list K L C s.g) s.growths;
      }
