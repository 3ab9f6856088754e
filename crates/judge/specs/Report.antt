-- What a report says of a field.
use Rattle.std.specs.Prelude.{◌≡◌, ◌+◌, ◌-◌, ◌/◌}
use Rattle.fields.specs.Arithmetic.{Arithmetic}
use Rattle.judge.specs.declared.report.Report.{Report}

-- Every code but 0 is a unit; −1 is what 1 takes to come to 0, and 1/2 is what comes to 1 with itself.
pub record Reported (K : Arithmetic) (r : Report) : Type 0 where
  pub elements : r.elements ≡ K.size
  pub units : r.units + 1 ≡ K.size
  pub minus_one : K.plus 1 r.minus_one ≡ 0
  pub half : K.plus r.half r.half ≡ 1
  pub product : r.product ≡ K.times (K.size / 2) (K.size - K.size / 2)
