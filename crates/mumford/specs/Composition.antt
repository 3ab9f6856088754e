-- Composition of two divisors with the Mumford representations (u1, v1) and (u2, v2), in any commutative ring.
use Rattle.std.specs.Prelude.{◌≡◌, [], ◌∷◌}
use Rattle.algebra.specs.Ring.{Ops, sub}
use Rattle.algebra.specs.Divisibility.{Regular, Congruent}
use Rattle.algebra.specs.CommonDivisor.{Greatest}

module _ {P : Type 0} (o : Ops P) (f u1 v1 u2 v2 : P) where
  infixl 75 ◌+◌
  infixl 80 ◌·◌
  open o use {add as ◌+◌, mul as ◌·◌}

  -- d = e1·u1 + e2·u2 + e3·(v1 + v2) is the greatest common divisor of the three.
  abbrev pub Shared : P → Type 0
  Shared d = Greatest o (u1 ∷ u2 ∷ v1 + v2 ∷ []) d

  -- d times the v of the rules: e1·u1·v2 + e2·u2·v1 + e3·(v1·v2 + f)
  abbrev pub numerator : {d : P} → Shared d → P
  numerator g = g.factor 0 · u1 · v2 + g.factor 1 · u2 · v1 + g.factor 2 · (v1 · v2 + f)

  -- A common divisor d of u1, u2 and v1 + v2 with all the quotients.
  pub record Quotients (d : P) : Type 0 where
    pub U1 : P
    pub U2 : P
    pub β : P
    pub α : P
    pub k1 : P
    pub k2 : P
    pub first : u1 ≡ d · U1
    pub second : u2 ≡ d · U2
    pub middle : v1 + v2 ≡ d · β
    pub cross : f + v1 · v2 ≡ d · α
    pub valid1 : sub o f (v1 · v1) ≡ u1 · k1
    pub valid2 : sub o f (v2 · v2) ≡ u2 · k2
    pub cancel : Regular o d

  -- What characterises v modulo u = U1·U2, whatever e1, e2 and e3 are.
  pub record Composite {d : P} (c : Quotients d) (v : P) : Type 0 where
    pub at1 : Congruent o (c.U1 · c.U2) (c.U1 · v) (c.U1 · v2)
    pub at2 : Congruent o (c.U1 · c.U2) (c.U2 · v) (c.U2 · v1)
    pub at3 : Congruent o (c.U1 · c.U2) (c.β · v) c.α
