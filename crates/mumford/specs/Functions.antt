-- Functions on the curve y² = f over a commutative ring P: pairs (a, b), read a + b·y. Assumes nothing of P.
use Rattle.algebra.specs.Ring.{Ops, sub}
use Rattle.algebra.specs.Divisibility.{Divides}

abbrev pub Function : Type 0 → Type 0
Function P = P × P

-- The sum and the product of functions, with y² replaced by f.
abbrev pub functions : {P : Type 0} → Ops P → P → Ops (Function P)
functions o f =
    record {
      add = λ g h. (o.add g.0 h.0, o.add g.1 h.1);
      mul =
          λ g h. (
            o.add (o.mul g.0 h.0) (o.mul (o.mul g.1 h.1) f),
            o.add (o.mul g.0 h.1) (o.mul g.1 h.0),
          );
      neg = λ g. (o.neg g.0, o.neg g.1);
      nil = (o.nil, o.nil);
      unit = (o.unit, o.nil);
    }

-- a polynomial as a function
abbrev pub constant : {P : Type 0} → Ops P → P → Function P
constant o a = (a, o.nil)

-- y ↦ −y
abbrev pub conjugate : {P : Type 0} → Ops P → Function P → Function P
conjugate o g = (g.0, o.neg g.1)

-- the product of a function and its conjugate, a polynomial: a² − b²·f
abbrev pub norm : {P : Type 0} → Ops P → P → Function P → P
norm o f g = sub o (o.mul g.0 g.0) (o.mul (o.mul g.1 g.1) f)

-- u divides f − v²: what makes a pair (u, v) a divisor's
abbrev pub Represents : {P : Type 0} → Ops P → P → P → P → Type 0
Represents o f u v = Divides o u (sub o f (o.mul v v))

-- a + b·y is a member of the ideal of (u, v) where u divides a + b·v
abbrev pub Member : {P : Type 0} → Ops P → P → P → Function P → Type 0
Member o u v g = Divides o u (o.add g.0 (o.mul g.1 v))
