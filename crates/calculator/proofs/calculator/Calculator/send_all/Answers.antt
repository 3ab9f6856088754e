-- Each turn sends one call.
use Rattle.std.proofs.Common.{◌<◌, length, refl, arith}
use Rattle.calculator.proofs.Loops.{one_more}
use Rattle.calculator.proofs.calculator.Calculator.send_all.Goals as goal

pub loop-exchange-preserved : goal.loop-exchange-preserved
loop-exchange-preserved g c =
    let more : c.loop-exchange.exchange-index < length c.loop-exchange.exchanges = omega arith in
    one_more _ _ more c.loop-exchange.invariant refl c.send-exchange.ensures.answer c.send-exchange.ensures.left
