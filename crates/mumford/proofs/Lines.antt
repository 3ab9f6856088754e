-- The growth of y + w with w of degree at most 3, the function of a reduction step.
use Rattle.std.proofs.Common.{◌≡◌, pred, ◌≤◌, ◌≢◌, [], ◌∷◌, pos, ◌-ℤ◌, sym, refl, ap, ◌∙◌, arith}
use native.Mathlib.Decide.{dec_le}
use Rattle.std.proofs.lemmas.Int.{ints}
use Rattle.algebra.specs.Ring.{Ops, Laws}
use Rattle.algebra.specs.Field.{Field}
use Rattle.algebra.specs.Polynomials.{Polynomials}
use Rattle.algebra.proofs.Elementary as R
use Rattle.algebra.proofs.Reify.{by_facts, ◌⋆◌, terms}
use Rattle.algebra.proofs.PolynomialRing as A
use Rattle.algebra.proofs.Size as Z
use Rattle.mumford.specs.Functions.{functions, norm}
use Rattle.mumford.specs.Divisors.{degree}
use Rattle.mumford.specs.Curve.{Curve}
use Rattle.mumford.specs.Growth.{growth}
use Rattle.mumford.proofs.Growth as G

module _ {K : Type 0} {o : Ops K} (F : Field o) {P : Type 0} {p : Ops P} (H : Polynomials o p) {f V : P} (C : Curve H f V) where
  infixl 75 ◌+◌
  infixl 80 ◌·◌
  open p use {add as ◌+◌, mul as ◌·◌, neg, unit}
  open H use {coefficient, size, ends}

  abbrev L : Laws o
  L = F.laws

  abbrev minus_one : K
  minus_one = o.neg o.unit

  pub line_some : (w : P) → (w, unit) ≢ (functions p f).nil
  line_some w e = Z.unit_some F H (ap (λ g. g.1) e)

  -- The growth of w + b·y for b = 1 and b = −1, where V does not cancel in w + b·V.
  ahead : (w b : P) (s : K) → size b ≡ 1 → size w ≤ 4 → size (b · V) ≤ 4 → coefficient (b · V) 3 ≡ s
      → o.add (coefficient w 3) s ≢ o.nil
      → growth p size f V (w, b) ≡ pos 3
  ahead w b s one lw lb top some = G.growth_ahead F H C w b one (omega (arith, exact)) ∙ ap (λ n. pos (pred n)) exact
    where
      t : P
      t = w + b · V

      t-top : coefficient t 3 ≡ o.add (coefficient w 3) s
      t-top = A.add_at F H w (b · V) 3 ∙ ap (o.add (coefficient w 3)) top

      most : size t ≤ 4
      most = Z.size_add F H w (b · V) lw lb

      exact : size t ≡ 4
      exact = elim (dec_le (size t) 3) [ yes l ↦ absurd (some (sym t-top ∙ ends t 3 l)) | no l ↦ omega (arith, most) ]

  unit_V : unit · V ≡ V
  unit_V = R.unit_mul p (A.polynomial_laws F H) V

  minus-V : neg unit · V ≡ neg V
  minus-V = R.neg_unit_mul p (A.polynomial_laws F H) V

  pub line_ahead : (w : P) → size w ≤ 4 → coefficient w 3 ≢ minus_one → growth p size f V (w, unit) ≡ pos 3
  line_ahead w l other =
      ahead w unit o.unit (Z.size_unit F H) l (omega (arith, ap size unit_V, C.V_size))
      (ap (λ a. coefficient a 3) unit_V ∙ C.V_top)
      (λ e. other (R.neg_unique o L (coefficient w 3) o.unit e))

  two : (c : K) → c ≡ minus_one → o.add c minus_one ≡ o.nil → o.add o.unit o.unit ≡ o.nil
  two c e h =
      by_facts L (c ∷ []) (o.unit ⋆ e ∷ minus_one ⋆ h ∷ []) (search terms depth 60 fits 100000) refl

  -- Where V cancels in w + V it does not in w − V, and the norm says what is left.
  pub line-behind : (w : P) → size w ≤ 4 → coefficient w 3 ≡ minus_one
      → growth p size f V (w, unit) ≡ pos (degree size (norm p f (w, unit))) -ℤ pos 3
  line-behind w l opposite =
      let other =
      ahead w (neg unit) minus_one (Z.size_neg F H unit ∙ Z.size_unit F H) l
      (omega (arith, ap size minus-V, Z.size_neg F H V, C.V_size))
      (ap (λ a. coefficient a 3) minus-V ∙ A.neg-at F H V 3 ∙ ap o.neg C.V_top)
      (λ e. F.two (two (coefficient w 3) opposite e))
      in
      omega (arith, ints, G.growth-conjugate F H C (w, unit) (line_some w))
