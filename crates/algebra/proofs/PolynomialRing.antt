-- The polynomials over a field, however they are presented, are a commutative ring: the ring solver works in them. What
-- the coefficients of their sums and products are; constants, the unknown, and each polynomial
-- as a constant and a multiple of the unknown.
use mathlib.Core.Path.{◌≡◌, refl, sym, ◌∙◌, ap, ap₂, fun_ext}
use mathlib.Core.HLevel.{collapsible→set}
use mathlib.Core.List.{[], ◌∷◌}
use Prim.Native.Nat.{ℕ, zero, suc}
use native.Mathlib.Decide.{dec_lt}
use native.Mathlib.Omega.{arith}
use Rattle.algebra.specs.Ring.{Ops, Laws, sub}
use Rattle.algebra.specs.Field.{Field}
use Rattle.algebra.specs.Series as series-of
use Rattle.algebra.specs.Series.{series, Below}
use Rattle.algebra.specs.Polynomials.{Polynomials, constant, x, tail}
use Rattle.algebra.proofs.Elementary as R
use Rattle.algebra.proofs.Reify.{by_ring, terms}
use Rattle.algebra.proofs.Series as S
use Rattle.algebra.proofs.Degree as D

module _ {K : Type 0} {o : Ops K} (F : Field o) {P : Type 0} {p : Ops P} (H : Polynomials o p) where
  open p use {add as ◌+◌, mul as ◌·◌, neg, nil, unit}
  open H use {coefficient, same, ends, make, made, made_ends, add_is, mul_is, neg_is, nil_is, unit_is}

  infixl 75 ◌+◌
  infixl 80 ◌·◌
  abbrev L : Laws o
  L = F.laws

  abbrev SL : Laws (series o)
  SL = S.series_laws L

  open series o use {add as ◌⊞◌, mul as ◌⊠◌}

  infixl 75 ◌⊞◌
  infixl 80 ◌⊠◌
  -- Each law holds since it holds of the coefficients.

  abbrev sums : {r s : ℕ → K} (a b : P) → coefficient a ≡ r → coefficient b ≡ s → coefficient (a + b) ≡ r ⊞ s
  sums a b e f = add_is a b ∙ ap₂ ◌⊞◌ e f

  abbrev products : {r s : ℕ → K} (a b : P) → coefficient a ≡ r → coefficient b ≡ s → coefficient (a · b) ≡ r ⊠ s
  products a b e f = mul_is a b ∙ ap₂ ◌⊠◌ e f

  pub polynomial_laws : Laws p
  polynomial_laws =
      record {
        is_set = collapsible→set (λ a b e. same a b (ap coefficient e))
            (λ a b e f. ap (same a b) (SL.is_set (coefficient a) (coefficient b) (ap coefficient e) (ap coefficient f)));
        add_comm = λ a b. same (a + b) (b + a) (add_is a b ∙ SL.add_comm (coefficient a) (coefficient b) ∙ sym (add_is b a));
        add_assoc = λ a b c.
            same (a + b + c) (a + (b + c))
            (sums (a + b) c (add_is a b) refl
            ∙ SL.add_assoc (coefficient a) (coefficient b) (coefficient c)
            ∙ sym (sums a (b + c) refl (add_is b c)));
        add_nil = λ a. same (a + nil) a (sums a nil refl nil_is ∙ SL.add_nil (coefficient a));
        add_neg = λ a. same (a + neg a) nil (sums a (neg a) refl (neg_is a) ∙ SL.add_neg (coefficient a) ∙ sym nil_is);
        mul_comm = λ a b. same (a · b) (b · a) (mul_is a b ∙ SL.mul_comm (coefficient a) (coefficient b) ∙ sym (mul_is b a));
        mul_assoc = λ a b c.
            same (a · b · c) (a · (b · c))
            (products (a · b) c (mul_is a b) refl
            ∙ SL.mul_assoc (coefficient a) (coefficient b) (coefficient c)
            ∙ sym (products a (b · c) refl (mul_is b c)));
        mul_unit = λ a. same (a · unit) a (products a unit refl unit_is ∙ SL.mul_unit (coefficient a));
        mul-add = λ a b c.
            same (a · (b + c)) (a · b + a · c)
            (products a (b + c) refl (add_is b c)
            ∙ SL.mul-add (coefficient a) (coefficient b) (coefficient c)
            ∙ sym (sums (a · b) (a · c) (mul_is a b) (mul_is a c)));
      }

  -- Coefficients.

  -- polynomials with the same coefficients are equal
  pub same_at : (a b : P) → ((k : ℕ) → coefficient a k ≡ coefficient b k) → a ≡ b
  same_at a b h = same a b (fun_ext h)

  pub add_at : (a b : P) (k : ℕ) → coefficient (a + b) k ≡ o.add (coefficient a k) (coefficient b k)
  add_at a b k = ap (λ s. s k) (add_is a b) ∙ S.add_at L (coefficient a) (coefficient b) k

  pub neg-at : (a : P) (k : ℕ) → coefficient (neg a) k ≡ o.neg (coefficient a k)
  neg-at a k = ap (λ s. s k) (neg_is a) ∙ S.neg-at L (coefficient a) k

  pub sub_at : (a b : P) (k : ℕ) → coefficient (sub p a b) k ≡ sub o (coefficient a k) (coefficient b k)
  sub_at a b k = add_at a (neg b) k ∙ ap (o.add (coefficient a k)) (neg-at b k)

  pub nil_at : (k : ℕ) → coefficient nil k ≡ o.nil
  nil_at k = ap (λ s. s k) nil_is ∙ S.nil_at L k

  -- the coefficients of a row that ends before n
  pub make_is : {n : ℕ} {s : ℕ → K} → Below o n s → coefficient (make n s) ≡ s
  make_is {n = n} {s = s} b = fun_ext at
    where
      at : (k : ℕ) → coefficient (make n s) k ≡ s k
      at k = elim (dec_lt k n) [ yes l ↦ made n s k l | no l ↦ made_ends n s k (omega arith) ∙ sym (b.gone k (omega arith)) ]

  -- Constants.

  pub constant_is : (c : K) → coefficient (constant H c) ≡ series-of.constant o c
  unfolding constant
  constant_is c = make_is (D.constant-below F c)

  pub constant_unit : constant H o.unit ≡ unit
  constant_unit = same (constant H o.unit) unit (constant_is o.unit ∙ sym (unit_is ∙ S.unit_is L))

  pub constant-at : (c : K) (a : P) (k : ℕ) → coefficient (constant H c · a) k ≡ o.mul c (coefficient a k)
  constant-at c a k = ap (λ s. s k) (products (constant H c) a (constant_is c) refl) ∙ S.constant-at L c (coefficient a) k

  pub constant-add : (c d : K) → constant H c + constant H d ≡ constant H (o.add c d)
  constant-add c d = same_at (constant H c + constant H d) (constant H (o.add c d)) at
    where
      plus : (k : ℕ) → o.add (series-of.constant o c k) (series-of.constant o d k) ≡ series-of.constant o (o.add c d) k
      plus zero = refl
      plus (suc k) = L.add_nil o.nil

      at : (k : ℕ) → coefficient (constant H c + constant H d) k ≡ coefficient (constant H (o.add c d)) k
      at k =
          add_at (constant H c) (constant H d) k
          ∙ ap₂ (λ r s. o.add (r k) (s k)) (constant_is c) (constant_is d)
          ∙ plus k
          ∙ sym (ap (λ s. s k) (constant_is (o.add c d)))

  pub constant-mul : (c d : K) → constant H c · constant H d ≡ constant H (o.mul c d)
  constant-mul c d = same_at (constant H c · constant H d) (constant H (o.mul c d)) at
    where
      times : (k : ℕ) → o.mul c (series-of.constant o d k) ≡ series-of.constant o (o.mul c d) k
      times zero = refl
      times (suc k) = R.mul_nil o L c

      at : (k : ℕ) → coefficient (constant H c · constant H d) k ≡ coefficient (constant H (o.mul c d)) k
      at k =
          constant-at c (constant H d) k
          ∙ ap (λ s. o.mul c (s k)) (constant_is d)
          ∙ times k
          ∙ sym (ap (λ s. s k) (constant_is (o.mul c d)))

  -- 2 is invertible
  pub half : (h : P) × (h + h ≡ unit)
  half =
      let two = o.add o.unit o.unit in
      let h = F.inverse two in
      (constant H h, constant-add h h ∙ ap (constant H) (twice h ∙ F.inverse_ok two F.two) ∙ constant_unit)
    where
      twice : (c : K) → o.add c c ≡ o.mul (o.add o.unit o.unit) c
      twice c = by_ring L (c ∷ []) (search terms depth 60 fits 100000) refl

  -- The unknown.

  pub x_is : coefficient (x H) ≡ series-of.x o
  unfolding x
  x_is = make_is (D.x-degree F).below

  pub x-at : (a : P) (k : ℕ) → coefficient (x H · a) (suc k) ≡ coefficient a k
  x-at a k = ap (λ s. s (suc k)) (products (x H) a x_is refl) ∙ S.x-at L (coefficient a) k

  pub x-first : (a : P) → coefficient (x H · a) 0 ≡ o.nil
  x-first a =
      ap (λ s. s 0) (products (x H) a x_is refl)
      ∙ S.mul-none L (series-of.x o) (coefficient a) 0
      (λ i j e.
      let first : i ≡ 0 = omega arith in
      ap (λ n. o.mul (series-of.x o n) (coefficient a j)) first ∙ R.nil_mul o L (coefficient a j))

  -- Each polynomial is a0 + x·tail a.

  pub tail_at : (a : P) (k : ℕ) → coefficient (tail H a) k ≡ coefficient a (suc k)
  unfolding tail
  tail_at a k = ap (λ s. s k) (make_is (record { gone = λ n l. ends a (suc n) (omega arith) }))

  pub head_tail : (a : P) → a ≡ constant H (coefficient a 0) + x H · tail H a
  head_tail a = same_at a (constant H (coefficient a 0) + x H · tail H a) at
    where
      at : (k : ℕ) → coefficient a k ≡ coefficient (constant H (coefficient a 0) + x H · tail H a) k
      at zero =
          sym (add_at (constant H (coefficient a 0)) (x H · tail H a) 0
          ∙ ap₂ o.add (ap (λ s. s 0) (constant_is (coefficient a 0))) (x-first (tail H a))
          ∙ L.add_nil (coefficient a 0))
      at (suc k) =
          sym (add_at (constant H (coefficient a 0)) (x H · tail H a) (suc k)
          ∙ ap₂ o.add (ap (λ s. s (suc k)) (constant_is (coefficient a 0))) (x-at (tail H a) k ∙ tail_at a k)
          ∙ R.nil_add o L (coefficient a (suc k)))
