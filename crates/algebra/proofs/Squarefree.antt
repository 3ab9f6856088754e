-- A polynomial that is coprime to its derivative has no repeated factor, and is no square.
use mathlib.Core.Path.{◌≡◌, refl, sym, ◌∙◌, ap}
use mathlib.Core.Logic.{◌≢◌}
use mathlib.Core.List.{[], ◌∷◌}
use Prim.Native.Nat.{◌<◌}
use native.Mathlib.Omega.{arith}
use Rattle.algebra.specs.Ring.{Ops}
use Rattle.algebra.specs.Field.{Field}
use Rattle.algebra.specs.Divisibility.{Divides, Coprime}
use Rattle.algebra.specs.Polynomials.{Polynomials, derivative}
use Rattle.algebra.proofs.Reify.{by_facts, ◌⋆◌, terms}
use Rattle.algebra.proofs.PolynomialRing as A
use Rattle.algebra.proofs.Size as Z
use Rattle.algebra.proofs.Derivative as D

module _ {K : Type 0} {o : Ops K} (F : Field o) {P : Type 0} {p : Ops P} (H : Polynomials o p) where
  open p use {add as ◌+◌, mul as ◌·◌, neg, unit}
  open H use {size}

  infixl 75 ◌+◌
  infixl 80 ◌·◌
  module _ {f : P} (separable : Coprime p f (derivative H f)) where
    -- what divides f twice divides 1 ..
    pub square_divides_unit : {a : P} → Divides p (a · a) f → Divides p a unit
    square_divides_unit {a = a} (z, e) =
        let (s, t, h) = separable in
        go s t h (derivative H a) (derivative H z) (derivative H (a · a)) (D.derivative-mul F H a a)
        (ap (derivative H) e ∙ D.derivative-mul F H (a · a) z)
      where
        go : (s t : P) → s · f + t · derivative H f ≡ unit → (a' z' q' : P) → q' ≡ a' · a + a · a'
            → derivative H f ≡ q' · z + a · a · z'
            → Divides p a unit
        go s t h a' z' q' square rule = (
          s · (a · z) + t · ((a' + a') · z + a · z'),
          by_facts (A.polynomial_laws F H) (s ∷ t ∷ a ∷ z ∷ a' ∷ z' ∷ q' ∷ f ∷ derivative H f ∷ [])
              (neg unit ⋆ h ∷ s ⋆ e ∷ t ⋆ rule ∷ t · z ⋆ square ∷ []) (search terms depth 60 fits 100000) refl,
        )

    -- .. and so is a constant
    pub square-divisor_size : {a : P} → Divides p (a · a) f → size a ≡ 1
    square-divisor_size {a = a} h = let (κ, e) = square_divides_unit h in Z.unit_size F H a κ (sym e)

    pub not_square : 1 < size f → (v : P) → f ≢ v · v
    not_square l v e =
        let one = square-divisor_size {a = v} (unit, e ∙ sym ((A.polynomial_laws F H).mul_unit (v · v))) in
        omega (arith, ap size e, Z.size_mul F H {m = 0} {n = 0} v v one one)
