-- Each turn sends one call to both calculators.
use Rattle.std.proofs.Common.{◌<◌, length, refl, arith}
use Rattle.calculator.proofs.Loops.{one_more}
use Rattle.calculator.proofs.agreement.compare.Goals as goal

pub loop-comparison-preserved : goal.loop-comparison-preserved
loop-comparison-preserved g c =
    let more : c.loop-comparison.comparison-index < length c.loop-comparison.comparisons = omega arith in (
      one_more _ _ more c.loop-comparison.invariant.0 refl
          c.send-comparison.ensures.answer c.send-comparison.ensures.left,
      one_more _ _ more c.loop-comparison.invariant.1 refl
          c.send-comparison-in-loop-comparison.ensures.answer c.send-comparison-in-loop-comparison.ensures.left,
    )
