-- The growth of functions. With x^n·a + b·Vₙ for x^n·(a + b·y) the degree is n + the growth, for all large n; so growths add
-- up over products, and those of a function and its conjugate make the degree of the norm.
use Rattle.std.proofs.Common.{◌≡◌, ℕ, zero, suc, pred, ◌+◌ as ◌+ᴺ◌, ◌<◌, ◌≤◌, ◌≢◌, [], ◌∷◌, ℤ, pos, ◌+ℤ◌, ◌-ℤ◌, sym, refl, ap, ◌∙◌, arith}
use native.Mathlib.Decide.{dec_le}
use Rattle.std.proofs.lemmas.Int.{ints}
use Rattle.algebra.specs.Ring.{Ops, Laws, sub}
use Rattle.algebra.specs.Field.{Field}
use Rattle.algebra.specs.Polynomials.{Polynomials}
use Rattle.algebra.proofs.Reify.{by_ring, by_facts, ◌⋆◌, terms}
use Rattle.algebra.proofs.PolynomialRing as A
use Rattle.algebra.proofs.Size as Z
use Rattle.mumford.specs.Functions.{Function, functions, constant, conjugate, norm}
use Rattle.mumford.specs.Divisors.{degree}
use Rattle.mumford.specs.Curve.{Curve}
use Rattle.mumford.specs.Growth.{growth, growth_by}
use Rattle.mumford.proofs.Functions.{both, norm_is, norm-conjugate}
use Rattle.mumford.proofs.Approximation as T
use Rattle.mumford.proofs.Norm as N

module _ {K : Type 0} {o : Ops K} (F : Field o) {P : Type 0} {p : Ops P} (H : Polynomials o p) {f V : P} (C : Curve H f V) where
  infixl 75 ◌+◌ ◌-◌
  infixl 80 ◌·◌
  open p use {add as ◌+◌, mul as ◌·◌, neg, nil}
  open H use {size}

  abbrev ◌-◌ : P → P → P
  ◌-◌ = sub p

  abbrev L : Laws p
  L = A.polynomial_laws F H

  -- x^n and Vₙ
  abbrev X : ℕ → P
  X n = T.power F H f V n

  abbrev W : ℕ → P
  W n = T.approx F H f V n

  -- a + b·y at y = Vₙ/x^n, times x^n
  abbrev value : ℕ → Function P → P
  value n g = X n · g.0 + g.1 · W n

  -- the degree of the value is n + z, for all large n
  abbrev Tends : Function P → ℤ → Type 0
  Tends g z = (m : ℕ) × ((n : ℕ) → m ≤ n → pos (size (value n g)) ≡ pos (suc n) +ℤ z)

  -- The identities, for q = x^n and w = Vₙ.
  value_flat : (q a b w : P) → b ≡ nil → q · a + b · w ≡ q · a
  value_flat q a b w e =
      by_facts L (q ∷ a ∷ b ∷ w ∷ []) (w ⋆ e ∷ []) (search terms depth 60 fits 100000) refl

  value_near : (q a b w V : P) → q · a + b · w ≡ q · (a + b · V) + b · (w - q · V)
  value_near q a b w V = by_ring L (q ∷ a ∷ b ∷ w ∷ V ∷ []) (search terms depth 60 fits 100000) refl

  covalue_near : (q a b w V : P) → q · a - b · w ≡ neg (b · (q · V + q · V + (w - q · V))) + q · (a + b · V)
  covalue_near q a b w V = by_ring L (q ∷ a ∷ b ∷ w ∷ V ∷ []) (search terms depth 60 fits 100000) refl

  values_times : (q a b w f : P)
      → (q · a + b · w) · (q · a - b · w) ≡ q · q · (a · a - b · b · f) + neg (b · b · (w · w - q · q · f))
  values_times q a b w f = by_ring L (q ∷ a ∷ b ∷ w ∷ f ∷ []) (search terms depth 60 fits 100000) refl

  product_near : (q a b c d w f : P)
      → q · (q · (a · c + b · d · f) + (a · d + b · c) · w)
      ≡ (q · a + b · w) · (q · c + d · w) + neg (b · d · (w · w - q · q · f))
  product_near q a b c d w f =
      by_ring L (q ∷ a ∷ b ∷ c ∷ d ∷ w ∷ f ∷ []) (search terms depth 60 fits 100000) refl

  X-times : (n : ℕ) {m : ℕ} (a : P) → size a ≡ suc m → size (X n · a) ≡ suc (n +ᴺ m)
  X-times n a e = Z.size_mul F H (X n) a (Z.size_power F H n) e

  -- Where b is 0, a decides.
  value-constant : (n : ℕ) (a b : P) → b ≡ nil → a ≢ nil → size (value n (a, b)) ≡ n +ᴺ size a
  value-constant n a b e some =
      omega (
        arith,
        ap size (value_flat (X n) a b (W n) e),
        Z.size_some F H a some,
        X-times n {m = pred (size a)} a (omega (arith, Z.size_some F H a some)),
      )

  -- Where a + b·V is not small, it decides.
  value_ahead : (n : ℕ) (a b : P) {d : ℕ} → size b ≡ suc d → d < size (a + b · V) → size (value n (a, b)) ≡ n +ᴺ size (a + b · V)
  value_ahead n a b {d} hb l =
      let large = X-times n {m = pred (size (a + b · V))} (a + b · V) (omega arith) in
      let small = Z.size_mul_most F H {m = d} {n = n} b (W n - X n · V) (omega arith) (T.approx_near F H C n) in
      omega (
        arith,
        ap size (value_near (X n) a b (W n) V),
        Z.size_add_larger F H (X n · (a + b · V)) (b · (W n - X n · V)) (omega arith),
      )

  -- Where it is small, a − b·V is not, and the product of the two decides.
  module _ (n : ℕ) (a b : P) {d : ℕ} (hb : size b ≡ suc d) (hs : size (a + b · V) ≤ d) where
    abbrev covalue : P
    covalue = X n · a - b · W n

    covalue_size : size covalue ≡ d +ᴺ n +ᴺ 4
    covalue_size =
        let q = X n · V in
        let shifted = X-times n V C.V_size in
        let twice = Z.size_twice F H q in
        let near = Z.size_add_larger F H (q + q) (W n - q) (omega (arith, T.approx_near F H C n)) in
        let large = Z.size_mul F H {m = d} {n = n +ᴺ 3} b (q + q + (W n - q)) hb (omega arith) in
        let small = Z.size_mul_most F H {m = n} {n = d} (X n) (a + b · V) (omega (arith, Z.size_power F H n)) hs in
        omega (
          arith,
          ap size (covalue_near (X n) a b (W n) V),
          Z.size_neg F H (b · (q + q + (W n - q))),
          Z.size_add_larger F H (neg (b · (q + q + (W n - q)))) (X n · (a + b · V))
              (omega (arith, Z.size_neg F H (b · (q + q + (W n - q))))),
        )

    value-behind : norm p f (a, b) ≢ nil → d +ᴺ d +ᴺ 3 ≤ n → size (value n (a, b)) +ᴺ d +ᴺ 3 ≡ n +ᴺ size (norm p f (a, b))
    value-behind some l =
        let m = norm p f (a, b) in
        let r = W n · W n - X n · X n · f in
        let hm = Z.size_some F H m some in
        let X² = X-times n {m = n} (X n) (Z.size_power F H n) in
        let large = Z.size_mul F H {m = n +ᴺ n} {n = pred (size m)} (X n · X n) m X² (omega arith) in
        let b² = Z.size_mul F H {m = d} {n = d} b b hb hb in
        let small = Z.size_mul_most F H {m = d +ᴺ d} {n = 3 +ᴺ n} (b · b) r (omega arith) (T.approx_close F H C n) in
        let product =
        Z.size_add_larger F H (X n · X n · m) (neg (b · b · r)) (omega (arith, Z.size_neg F H (b · b · r)))
        in
        let same = ap size (values_times (X n) a b (W n) f) in
        let there : value n (a, b) · covalue ≢ nil = Z.some_size F H (value n (a, b) · covalue) (omega arith) in
        omega (
          arith,
          covalue_size,
          Z.size_mul_some F H (value n (a, b)) covalue (Z.divisor_some F H (covalue, refl) there)
              (Z.cofactor_some F H {u = value n (a, b)} refl there),
        )

  pub conjugate_some : (g : Function P) → g ≢ (functions p f).nil → conjugate p g ≢ (functions p f).nil
  conjugate_some g some =
      N.function_some F H C (conjugate p g) (λ e. N.norm_some F H C g some (sym (norm-conjugate L f g) ∙ e))

  abbrev G : Function P → ℤ
  G = growth p size f V

  -- The approximations tend to the growth.
  growth_tends : (g : Function P) → g ≢ (functions p f).nil → Tends g (G g)
  unfolding growth
  growth_tends (a, b) some = by_size (size b) refl
    where
      s : ℕ
      s = size (a + b · V)

      m : P
      m = norm p f (a, b)

      by_size : (k : ℕ) → size b ≡ k → Tends (a, b) (growth_by k s (pred (size a)) (pred (size m)))
      by_size zero e =
          let none : b ≡ nil = Z.size_none F H b e in
          let there : a ≢ nil = λ z. some (both z none) in
          (0, λ n _. omega (arith, ints, value-constant n a b none there, Z.size_some F H a there))
      by_size (suc d) e =
          elim (dec_le (suc d) s) as
          (λ v. Tends (a, b) (elim v [ yes l ↦ pos (pred s) | no l ↦ pos (pred (size m)) -ℤ pos (d +ᴺ 3) ])) [
            | yes l ↦ (0, λ n _. omega (arith, ints, value_ahead n a b e l))
            | no l ↦
                let there : m ≢ nil = N.norm_some F H C (a, b) some in
                let back : suc (pred (size m)) ≡ size m = omega (arith, Z.size_some F H m there) in
                (d +ᴺ d +ᴺ 3, λ n h. omega (arith, ints, value-behind n a b e (omega arith) there h))
          ]

  -- The values of two functions multiply, up to what is too small to count. So growths add up.
  values_product : (n : ℕ) (g h : Function P) → 0 < size (value n g) → 0 < size (value n h)
      → size g.1 +ᴺ size h.1 +ᴺ 5 +ᴺ n ≤ size (value n g) +ᴺ size (value n h)
      → n +ᴺ 1 +ᴺ size (value n ((functions p f).mul g h)) ≡ size (value n g) +ᴺ size (value n h)
  values_product n (a, b) (c, d) hg hh l =
      let r = W n · W n - X n · X n · f in
      let s = value n (a, b) in
      let t = value n (c, d) in
      let v = value n ((functions p f).mul (a, b) (c, d)) in
      let bd = Z.size_mul_most F H {m = size b} {n = size d} b d (omega arith) (omega arith) in
      let small = Z.size_mul_most F H {m = size b +ᴺ size d} (b · d) r (omega arith) (T.approx_close F H C n) in
      let large = Z.size_mul_some F H s t (Z.some_size F H s hg) (Z.some_size F H t hh) in
      let product = Z.size_add_larger F H (s · t) (neg (b · d · r)) (omega (arith, Z.size_neg F H (b · d · r))) in
      let same = ap size (product_near (X n) a b c d (W n) f) in
      let there : X n · v ≢ nil = Z.some_size F H (X n · v) (omega arith) in
      omega (
        arith,
        Z.size_power F H n,
        Z.size_mul_some F H (X n) v (Z.divisor_some F H (v, refl) there) (Z.cofactor_some F H {u = X n} refl there),
      )

  tends_product : (g h : Function P) (y z t : ℤ) → Tends g y → Tends h z → Tends ((functions p f).mul g h) t → t ≡ y +ℤ z
  tends_product g h y z t (l, s) (m, r) (i, q) =
      let n : ℕ = size g.1 +ᴺ size h.1 +ᴺ 5 +ᴺ l +ᴺ m +ᴺ i in
      -- y is at least −l − 1, and z at least −m − 1
      let y≥ = s l (omega arith) in
      let z≥ = r m (omega arith) in
      let sn = s n (omega arith) in
      let rn = r n (omega arith) in
      let qn = q n (omega arith) in
      omega (arith, ints, values_product n g h (omega (arith, ints)) (omega (arith, ints)) (omega (arith, ints)))

  pub growth-mul : (g h : Function P) → g ≢ (functions p f).nil → h ≢ (functions p f).nil
      → G ((functions p f).mul g h) ≡ G g +ℤ G h
  growth-mul g h sg sh =
      tends_product g h (G g) (G h) (G ((functions p f).mul g h)) (growth_tends g sg) (growth_tends h sh)
      (growth_tends ((functions p f).mul g h) (N.product_some F H C g h sg sh))

  -- The growth of a polynomial is its degree.
  pub growth-constant : (a : P) → G (constant p a) ≡ pos (degree size a)
  unfolding growth
  growth-constant a =
      ap (λ b. growth_by b (size (a + nil · V)) (degree size a) (degree size (norm p f (a, nil)))) (Z.size_nil F H)

  pub growth-conjugate : (g : Function P) → g ≢ (functions p f).nil
      → G g +ℤ G (conjugate p g) ≡ pos (degree size (norm p f g))
  growth-conjugate g some =
      sym (growth-mul g (conjugate p g) some (conjugate_some g some))
      ∙ ap G (norm_is L f g)
      ∙ growth-constant (norm p f g)

  -- The growth of b·y + a, where V does not cancel.
  pub growth_ahead : (a b : P) {d : ℕ} → size b ≡ suc d → d < size (a + b · V) → G (a, b) ≡ pos (pred (size (a + b · V)))
  unfolding growth
  growth_ahead a b {d} e l = ap (λ k. growth_by k s (pred (size a)) (pred (size (norm p f (a, b))))) e ∙ taken (dec_le (suc d) s)
    where
      s : ℕ
      s = size (a + b · V)

      taken : (v : Dec (suc d ≤ s)) → elim v as (λ _. ℤ) [ yes l ↦ pos (pred s) | no l ↦ pos (pred (size (norm p f (a, b)))) -ℤ pos (d +ᴺ 3) ] ≡ pos (pred s)
      taken (yes _) = refl
      taken (no n) = absurd (n l)
