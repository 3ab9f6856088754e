-- The norm a² − b²·f of a function that is not 0 is not 0.
--
-- From a² = b²·f and b ≠ 0 it would follow that one of a ± b·V has a smaller degree than b, since their product is
-- b²·(f − V²) and their difference 2·b·V. With b' = a + b·V, say, and a' = f·b + V·a it is a'² = b'²·f again, so that
-- b' = 0 by induction on the degree, and then b²·(f − V²) = 0.
use Rattle.std.proofs.Common.{◌≡◌, ℕ, zero, suc, ◌+◌ as ◌+ᴺ◌, ◌<◌, ◌≤◌, max, ◌≢◌, [], ◌∷◌, sym, refl, ap, ◌∙◌, arith}
use native.Mathlib.Decide.{dec_le, dec_lt}
use Rattle.algebra.specs.Ring.{Ops, Laws, sub}
use Rattle.algebra.specs.Field.{Field}
use Rattle.algebra.specs.Polynomials.{Polynomials}
use Rattle.algebra.proofs.Reify.{by_ring, by_facts, ◌⋆◌, terms}
use Rattle.algebra.proofs.Elementary as R
use Rattle.algebra.proofs.PolynomialRing as A
use Rattle.algebra.proofs.Size as Z
use Rattle.algebra.proofs.Squarefree as Q
use Rattle.mumford.specs.Functions.{Function, functions, norm}
use Rattle.mumford.specs.Curve.{Curve}
use Rattle.mumford.proofs.Functions.{both, norm-mul}

module _ {K : Type 0} {o : Ops K} (F : Field o) {P : Type 0} {p : Ops P} (H : Polynomials o p) {f V : P} (C : Curve H f V) where
  infixl 75 ◌+◌ ◌-◌
  infixl 80 ◌·◌
  open p use {add as ◌+◌, mul as ◌·◌, neg, nil, unit}
  open H use {size}

  abbrev ◌-◌ : P → P → P
  ◌-◌ = sub p

  abbrev L : Laws p
  L = A.polynomial_laws F H

  abbrev N : P → P → P
  N a b = norm p f (a, b)

  f_again : (f V : P) → V · V + (f - V · V) ≡ f
  f_again f V = by_ring L (f ∷ V ∷ []) (search terms depth 60 fits 100000) refl

  pub f_size : size f ≡ 7
  f_size =
      let square = Z.size_mul F H V V C.V_size C.V_size in
      omega (arith, Z.size_add_larger F H (V · V) (f - V · V) (omega (arith, C.close)), ap size (f_again f V))

  pub f_no_square : (v : P) → f ≢ v · v
  f_no_square = Q.not_square F H C.separable (omega (arith, f_size))

  -- The identities.
  next-norm : (a b f V : P) → a · a - b · b · f ≡ nil
      → (b · f + a · V) · (b · f + a · V) - (a + b · V) · (a + b · V) · f ≡ nil
  next-norm a b f V e =
      by_facts L (a ∷ b ∷ f ∷ V ∷ []) (V · V - f ⋆ e ∷ []) (search terms depth 60 fits 100000) refl

  next-none : (a b f V : P) → a · a - b · b · f ≡ nil → a + b · V ≡ nil → b · b · (f - V · V) ≡ nil
  next-none a b f V e h =
      by_facts L (a ∷ b ∷ f ∷ V ∷ []) (neg unit ⋆ e ∷ a - b · V ⋆ h ∷ []) (search terms depth 60 fits 100000) refl

  two_values : (a b f V : P) → a · a - b · b · f ≡ nil → (a + b · V) · (a + neg b · V) ≡ b · b · (f - V · V)
  two_values a b f V e =
      by_facts L (a ∷ b ∷ f ∷ V ∷ []) (unit ⋆ e ∷ []) (search terms depth 60 fits 100000) refl

  values_apart : (a b V : P) → a + b · V - (a + neg b · V) ≡ b · V + b · V
  values_apart a b V = by_ring L (a ∷ b ∷ V ∷ []) (search terms depth 60 fits 100000) refl

  norm-neg : (a b f : P) → a · a - neg b · neg b · f ≡ a · a - b · b · f
  norm-neg a b f = by_ring L (a ∷ b ∷ f ∷ []) (search terms depth 60 fits 100000) refl

  square-none : (a b f : P) → a · a - b · b · f ≡ nil → b ≡ nil → a · a ≡ nil
  square-none a b f e h =
      by_facts L (a ∷ b ∷ f ∷ []) (unit ⋆ e ∷ b · f ⋆ h ∷ []) (search terms depth 60 fits 100000) refl

  -- what is to be shown, of all b below n
  abbrev None : ℕ → Type 0
  None n = (a b : P) → size b ≤ n → N a b ≡ nil → b ≡ nil

  -- a + b·V cannot be small
  not_small : {n : ℕ} (a b : P) → None n → size b ≡ suc n → N a b ≡ nil → n < size (a + b · V)
  not_small {n} a b ih hb e =
      elim (dec_lt n (size (a + b · V))) [
        | yes l ↦ l
        | no l ↦
            let none : a + b · V ≡ nil = ih (b · f + a · V) (a + b · V) (omega arith) (next-norm a b f V e) in
            let some : b ≢ nil = Z.some_size F H b (omega arith) in
            absurd (Z.mul_some F H (b · b) (f - V · V) (Z.mul_some F H b b some some)
            (λ z. f_no_square V (R.eq_of_sub p L f (V · V) z)) (next-none a b f V e none))
      ]

  -- Not both of a + b·V and a − b·V are large, and neither is small.
  no_size : {n : ℕ} (a b : P) → None n → size b ≡ suc n → N a b ≢ nil
  no_size {n} a b ih hb e =
      let s = a + b · V in
      let t = a + neg b · V in
      let hs : n < size s = not_small a b ih hb e in
      let ht : n < size t = not_small a (neg b) ih (Z.size_neg F H b ∙ hb) (norm-neg a b f ∙ e) in
      let bV = Z.size_mul F H {m = n} {n = 3} b V hb C.V_size in
      let apart = Z.size_twice F H (b · V) in
      let wide = Z.size_sub F H {n = max (size s) (size t)} s t (omega arith) (omega arith) in
      let square = Z.size_mul F H {m = n} {n = n} b b hb hb in
      let narrow = Z.size_mul_most F H {m = n +ᴺ n} {n = 3} (b · b) (f - V · V) (omega arith) C.close in
      omega (
        arith,
        ap size (values_apart a b V),
        ap size (two_values a b f V e),
        Z.size_mul_some F H s t (Z.some_size F H s (omega arith)) (Z.some_size F H t (omega arith)),
      )

  descent : (n : ℕ) → None n
  descent zero a b hb e = Z.size_none F H b (omega arith)
  descent (suc n) a b hb e =
      elim (dec_le (size b) n) [
        | yes l ↦ descent n a b l e
        | no l ↦ absurd (no_size a b (descent n) (omega arith) e)
      ]

  pub norm_some : (g : Function P) → g ≢ (functions p f).nil → norm p f g ≢ nil
  norm_some (a, b) some e =
      let none : b ≡ nil = descent (size b) a b (omega arith) e in
      elim (Z.same? F H a nil) [
        | yes z ↦ some (both z none)
        | no z ↦ Z.mul_some F H a a z z (square-none a b f e none)
      ]

  norm_nil : norm p f (functions p f).nil ≡ nil
  norm_nil = by_ring L (f ∷ []) (search terms depth 60 fits 100000) refl

  -- There are no zero divisors among the functions.
  pub function_some : (g : Function P) → norm p f g ≢ nil → g ≢ (functions p f).nil
  function_some g some e = some (ap (norm p f) e ∙ norm_nil)

  pub product_some : (g h : Function P) → g ≢ (functions p f).nil → h ≢ (functions p f).nil
      → (functions p f).mul g h ≢ (functions p f).nil
  product_some g h sg sh =
      function_some ((functions p f).mul g h)
      (λ e. Z.mul_some F H (norm p f g) (norm p f h) (norm_some g sg) (norm_some h sh) (sym (norm-mul L f g h) ∙ e))
