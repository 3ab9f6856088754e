-- A field in which equality is decided and 2 is not 0.
use Rattle.std.specs.Prelude.{◌≡◌, ◌≢◌}
use Rattle.algebra.specs.Ring.{Ops, Laws}

pub record Field {K : Type 0} (o : Ops K) : Type 0 where
  pub laws : Laws o
  pub same? : (x y : K) → Dec (x ≡ y)
  pub inverse : K → K
  pub inverse_ok : (x : K) → x ≢ o.nil → o.mul x (inverse x) ≡ o.unit
  pub two : o.add o.unit o.unit ≢ o.nil
