-- Polynomials near x^n·√f: V₀ = V, and V₍ₙ₊₁₎ = x·Vₙ + c with the constant c that cancels one more coefficient.
use Rattle.std.proofs.Common.{◌≡◌, ℕ, zero, suc, ◌+◌ as ◌+ᴺ◌, ◌≤◌, [], ◌∷◌, refl, ap, ◌∙◌, subst, ap₂, arith}
use Rattle.algebra.specs.Ring.{Ops, Laws, sub, pow}
use Rattle.algebra.specs.Field.{Field}
use Rattle.algebra.specs.Polynomials.{Polynomials, constant, x}
use Rattle.algebra.proofs.Reify.{by_ring, by_facts, ◌⋆◌, terms}
use Rattle.algebra.proofs.PolynomialRing as A
use Rattle.algebra.proofs.Size as Z
use Rattle.mumford.specs.Curve.{Curve}

module _ {K : Type 0} {o : Ops K} (F : Field o) {P : Type 0} {p : Ops P} (H : Polynomials o p) (f V : P) where
  infixl 80 ◌·◌
  open p use {add as ◌+◌, mul as ◌·◌}

  abbrev pub power : ℕ → P
  power n = pow p (x H) n

  -- how far v is from a root of x^(2n)·f
  abbrev pub defect : ℕ → P → P
  defect n v = sub p (v · v) (power n · power n · f)

  abbrev half : K
  half = F.inverse (o.add o.unit o.unit)

  abbrev correction : ℕ → P → K
  correction n v = o.neg (o.mul half (H.coefficient (defect n v) (suc (suc n))))

  abbrev pub approx : ℕ → P
  approx zero = V
  approx (suc n) = ◌+◌ (x H · approx n) (constant H (correction n (approx n)))

module _ {K : Type 0} {o : Ops K} (F : Field o) {P : Type 0} {p : Ops P} (H : Polynomials o p) {f V : P} (C : Curve H f V) where
  infixl 75 ◌+◌ ◌-◌
  infixl 80 ◌·◌
  open p use {add as ◌+◌, mul as ◌·◌, neg, nil, unit}
  open H use {coefficient, size}

  abbrev ◌-◌ : P → P → P
  ◌-◌ = sub p

  abbrev L : Laws p
  L = A.polynomial_laws F H

  -- x^n, Vₙ, Vₙ² − x^(2n)·f, and the constant that follows
  abbrev X : ℕ → P
  X n = power F H f V n

  abbrev W : ℕ → P
  W n = approx F H f V n

  abbrev E : ℕ → P
  E n = defect F H f V n (W n)

  abbrev c : ℕ → K
  c n = correction F H f V n (W n)

  abbrev κ : ℕ → P
  κ n = constant H (c n)

  constant_gone : (d : K) (k : ℕ) → coefficient (constant H d) (suc k) ≡ o.nil
  constant_gone d k = ap (λ s. s (suc k)) (A.constant_is F H d)

  x_size : {n : ℕ} (a : P) → size a ≤ n → size (x H · a) ≤ suc n
  x_size a l = omega (arith, Z.size_mul_most F H {m = 1} (x H) a (omega (arith, Z.size_x F H)) l)

  pub approx_size : (n : ℕ) → size (W n) ≡ 4 +ᴺ n
  approx_size zero = C.V_size
  approx_size (suc n) =
      let shifted = Z.size_mul F H {m = 1} {n = 3 +ᴺ n} (x H) (W n) (Z.size_x F H) (omega (arith, approx_size n)) in
      omega (arith, Z.size_add_larger F H (x H · W n) (κ n) (omega (arith, Z.size_constant_most F H (c n))))

  approx-top : (n : ℕ) → coefficient (W n) (suc (suc (suc n))) ≡ o.unit
  approx-top zero = C.V_top
  approx-top (suc n) =
      let m : ℕ = suc (suc (suc n)) in
      A.add_at F H (x H · W n) (κ n) (suc m)
      ∙ ap₂ o.add (A.x-at F H (W n) m ∙ approx-top n) (constant_gone (c n) m)
      ∙ F.laws.add_nil o.unit

  -- Vₙ begins as x^n·V does ..
  near_zero : (V : P) → nil ≡ V - unit · V
  near_zero V = by_ring L (V ∷ []) (search terms depth 60 fits 100000) refl

  near_step : (x v c p V : P) → x · (v - p · V) + c ≡ x · v + c - x · p · V
  near_step x v c p V = by_ring L (x ∷ v ∷ c ∷ p ∷ V ∷ []) (search terms depth 60 fits 100000) refl

  pub approx_near : (n : ℕ) → size (W n - X n · V) ≤ n
  approx_near zero = omega (arith, ap size (near_zero V), Z.size_nil F H)
  approx_near (suc n) =
      subst (λ a. size a ≤ suc n) (near_step (x H) (W n) (κ n) (X n) V)
      (Z.size_add F H (x H · (W n - X n · V)) (κ n) (x_size (W n - X n · V) (approx_near n))
      (omega (arith, Z.size_constant_most F H (c n))))

  -- .. and its square as x^(2n)·f does.
  defect-zero : (V f : P) → neg (f - V · V) ≡ V · V - unit · unit · f
  defect-zero V f = by_ring L (V ∷ f ∷ []) (search terms depth 60 fits 100000) refl

  defect-step : (x v c p f : P)
      → x · (x · (v · v - p · p · f)) + (c · (x · v) + c · (x · v) + c · c) ≡ (x · v + c) · (x · v + c) - x · p · (x · p) · f
  defect-step x v c p f = by_ring L (x ∷ v ∷ c ∷ p ∷ f ∷ []) (search terms depth 60 fits 100000) refl

  -- the correction of the defect e, where h is 1/2 and l the leading coefficient 1: e + 2·(−h·e)·l = 0
  cancels : (e h l : K) → o.mul (o.add o.unit o.unit) h ≡ o.unit → l ≡ o.unit
      → let c = o.neg (o.mul h e) in
      o.add e (o.add (o.add (o.mul c l) (o.mul c l)) (o.mul c o.nil)) ≡ o.nil
  cancels e h l hh hl =
      by_facts F.laws (e ∷ h ∷ l ∷ []) (o.neg e ⋆ hh ∷ o.neg (o.mul (o.add h h) e) ⋆ hl ∷ [])
      (search terms depth 60 fits 100000) refl

  module _ (n : ℕ) (close : size (E n) ≤ 3 +ᴺ n) where
    -- the defect that follows is x²·e + 2·t + c²
    abbrev t : P
    t = κ n · (x H · W n)

    abbrev square : P
    square = κ n · κ n

    abbrev next : P
    next = x H · (x H · E n) + (t + t + square)

    abbrev m : ℕ
    m = suc (suc (suc n))

    κ-times : {k : ℕ} (a : P) → size a ≤ k → size (κ n · a) ≤ k
    κ-times a l = omega (arith, Z.size_mul_most F H {m = 0} (κ n) a (Z.size_constant_most F H (c n)) l)

    next_size : size next ≤ suc (suc m)
    next_size =
        let ht = κ-times (x H · W n) (x_size {n = 4 +ᴺ n} (W n) (omega (arith, approx_size n))) in
        let hs = κ-times (κ n) (Z.size_constant_most F H (c n)) in
        Z.size_add F H (x H · (x H · E n)) (t + t + square)
        (omega (arith, x_size (x H · E n) (x_size (E n) close)))
        (Z.size_add F H (t + t) square (Z.size_add F H t t (omega arith) (omega arith)) (omega arith))

    t-top : coefficient t (suc m) ≡ o.mul (c n) (coefficient (W n) m)
    t-top = A.constant-at F H (c n) (x H · W n) (suc m) ∙ ap (o.mul (c n)) (A.x-at F H (W n) m)

    square-top : coefficient square (suc m) ≡ o.mul (c n) o.nil
    square-top = A.constant-at F H (c n) (κ n) (suc m) ∙ ap (o.mul (c n)) (constant_gone (c n) m)

    next-top : coefficient next (suc m) ≡ o.nil
    next-top =
        A.add_at F H (x H · (x H · E n)) (t + t + square) (suc m)
        ∙ ap₂ o.add (A.x-at F H (x H · E n) m ∙ A.x-at F H (E n) (suc (suc n)))
        (A.add_at F H (t + t) square (suc m)
        ∙ ap₂ o.add (A.add_at F H t t (suc m) ∙ ap₂ o.add t-top t-top) square-top)
        ∙ cancels (coefficient (E n) (suc (suc n))) (half F H f V) (coefficient (W n) m)
        (F.inverse_ok (o.add o.unit o.unit) F.two) (approx-top n)

    next_close : size (E (suc n)) ≤ suc m
    next_close =
        subst (λ a. size a ≤ suc m) (defect-step (x H) (W n) (κ n) (X n) f) (Z.size_less F H next next_size next-top)

  pub approx_close : (n : ℕ) → size (E n) ≤ 3 +ᴺ n
  approx_close zero =
      omega (arith, C.close, Z.size_neg F H (f - V · V), ap size (defect-zero V f))
  approx_close (suc n) = omega (arith, next_close n (approx_close n))
