-- A commutative ring with a square root of one of its elements adjoined: pairs (a, b), read a + b·√r.
use Rattle.algebra.specs.Ring.{Ops, sub}

-- (a + b·√r)·(c + d·√r) = a·c + b·d·r + (a·d + b·c)·√r
abbrev pub quadratic : {P : Type 0} → Ops P → P → Ops (P × P)
quadratic o r =
    record {
      add = λ g h. (o.add g.0 h.0, o.add g.1 h.1);
      mul =
          λ g h. (
            o.add (o.mul g.0 h.0) (o.mul (o.mul g.1 h.1) r),
            o.add (o.mul g.0 h.1) (o.mul g.1 h.0),
          );
      neg = λ g. (o.neg g.0, o.neg g.1);
      nil = (o.nil, o.nil);
      unit = (o.unit, o.nil);
    }

-- (a + b·√r)·(a − b·√r) = a² − b²·r
abbrev pub norm : {P : Type 0} → Ops P → P → P × P → P
norm o r g = sub o (o.mul g.0 g.0) (o.mul (o.mul g.1 g.1) r)
