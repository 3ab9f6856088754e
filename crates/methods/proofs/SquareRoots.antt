-- The polynomial part of the square root of a monic sextic without an x⁵ term.
use Rattle.std.proofs.Common.{◌≡◌, ℕ, ◌≤◌, [], ◌∷◌, refl, ap, ◌∙◌, arith}
use Rattle.algebra.specs.Ring.{Ops, Laws, sub}
use Rattle.algebra.specs.Field.{Field}
use Rattle.algebra.specs.Series.{series}
use Rattle.algebra.specs.Polynomials.{Polynomials}
use Rattle.algebra.proofs.Reify.{by_facts, ◌⋆◌, terms}
use Rattle.algebra.proofs.PolynomialRing as A
use Rattle.algebra.proofs.Size as Z

-- The coefficients of f − V² from x³ to x⁶ are 0, for V = x³ + h·f4·x + h·f3 with the coefficients v0, v1, ..
module _ {C : Type 0} {o : Ops C} (T : Laws o) where
  infixl 75 ◌+◌
  infixl 80 ◌·◌
  open o use {add as ◌+◌, mul as ◌·◌, neg, nil, unit}

  at_6 : {f6 v3 : C} → f6 ≡ unit → v3 ≡ unit → sub o f6 (v3 · v3) ≡ nil
  at_6 {f6} {v3} f third =
      by_facts T (f6 ∷ v3 ∷ []) (unit ⋆ f ∷ neg (v3 + unit) ⋆ third ∷ []) (search terms depth 60 fits 100000) refl

  at_5 : {f5 v0 v1 v2 v3 v4 v5 : C} → f5 ≡ nil → v2 ≡ nil → v4 ≡ nil → v5 ≡ nil
      → sub o f5 (v0 · v5 + (v1 · v4 + (v2 · v3 + (v3 · v2 + (v4 · v1 + v5 · v0))))) ≡ nil
  at_5 {f5} {v0} {v1} {v2} {v3} {v4} {v5} f second fourth fifth =
      by_facts T (f5 ∷ v0 ∷ v1 ∷ v2 ∷ v3 ∷ v4 ∷ v5 ∷ [])
      (unit ⋆ f ∷ neg (v0 + v0) ⋆ fifth ∷ neg (v1 + v1) ⋆ fourth ∷ neg (v3 + v3) ⋆ second ∷ [])
      (search terms depth 60 fits 100000) refl

  at_4 : {h f4 v0 v1 v2 v3 v4 : C} → h + h ≡ unit → v1 ≡ f4 · h → v2 ≡ nil → v3 ≡ unit → v4 ≡ nil
      → sub o f4 (v0 · v4 + (v1 · v3 + (v2 · v2 + (v3 · v1 + v4 · v0)))) ≡ nil
  at_4 {h} {f4} {v0} {v1} {v2} {v3} {v4} halves first second third fourth =
      by_facts T (h ∷ f4 ∷ v0 ∷ v1 ∷ v2 ∷ v3 ∷ v4 ∷ [])
      (neg f4 ⋆ halves ∷ neg (v0 + v0) ⋆ fourth ∷ neg (v1 + v1) ⋆ third ∷ neg v2 ⋆ second ∷ neg (unit + unit) ⋆ first ∷ [])
      (search terms depth 60 fits 100000) refl

  at_3 : {h f3 v0 v1 v2 v3 : C} → h + h ≡ unit → v0 ≡ f3 · h → v2 ≡ nil → v3 ≡ unit
      → sub o f3 (v0 · v3 + (v1 · v2 + (v2 · v1 + v3 · v0))) ≡ nil
  at_3 {h} {f3} {v0} {v1} {v2} {v3} halves last second third =
      by_facts T (h ∷ f3 ∷ v0 ∷ v1 ∷ v2 ∷ v3 ∷ [])
      (neg f3 ⋆ halves ∷ neg (v0 + v0) ⋆ third ∷ neg (v1 + v1) ⋆ second ∷ neg (unit + unit) ⋆ last ∷ [])
      (search terms depth 60 fits 100000) refl

module _ {K : Type 0} {o : Ops K} (F : Field o) {P : Type 0} {p : Ops P} (H : Polynomials o p) where
  infixl 80 ◌·◌
  open p use {mul as ◌·◌}
  open H use {coefficient, size, ends, mul_is}

  -- f = x⁶ + f4·x⁴ + f3·x³ + .. and V = x³ + h·f4·x + h·f3, where h is 1/2
  pub record Halved (h : K) (f V : P) : Type 0 where
    pub halves : o.add h h ≡ o.unit
    pub f_size : size f ≤ 7
    pub f_6 : coefficient f 6 ≡ o.unit
    pub f_5 : coefficient f 5 ≡ o.nil
    pub V_size : size V ≤ 4
    pub V_3 : coefficient V 3 ≡ o.unit
    pub V_2 : coefficient V 2 ≡ o.nil
    pub V_1 : coefficient V 1 ≡ o.mul (coefficient f 4) h
    pub V_0 : coefficient V 0 ≡ o.mul (coefficient f 3) h

  -- f − V² has a degree of at most 2
  pub halved_close : {h : K} {f V : P} → Halved h f V → size (sub p f (V · V)) ≤ 3
  unfolding series
  halved_close {h} {f} {V} e =
      let most = Z.size_mul_most F H {m = 3} {n = 4} V V e.V_size e.V_size in
      let top = Z.mul-top F H {m = 3} {n = 3} V V e.V_size e.V_size in
      Z.size_less F H r
      (Z.size_less F H r
      (Z.size_less F H r
      (Z.size_less F H r (Z.size_sub F H f (V · V) e.f_size (omega arith))
      (A.sub_at F H f (V · V) 6 ∙ ap (sub o (coefficient f 6)) top ∙ at_6 F.laws e.f_6 e.V_3))
      (at 5 ∙ at_5 F.laws e.f_5 e.V_2 fourth fifth))
      (at 4 ∙ at_4 F.laws e.halves e.V_1 e.V_2 e.V_3 fourth))
      (at 3 ∙ at_3 F.laws e.halves e.V_0 e.V_2 e.V_3)
    where
      r : P
      r = sub p f (V · V)

      fourth : coefficient V 4 ≡ o.nil
      fourth = ends V 4 e.V_size

      fifth : coefficient V 5 ≡ o.nil
      fifth = ends V 5 (omega (arith, e.V_size))

      at : (k : ℕ) → coefficient r k ≡ sub o (coefficient f k) ((series o).mul (coefficient V) (coefficient V) k)
      at k = A.sub_at F H f (V · V) k ∙ ap (λ s. sub o (coefficient f k) (s k)) (mul_is V V)
