-- The calculator is on its way through the calls.
use Rattle.calculator.proofs.Loops.{Halfway}
use Rattle.calculator.proofs.calculator.Calculator.send_all.Given as goal

abbrev pub invariant-loop-exchange : goal.invariant-loop-exchange
invariant-loop-exchange g l =
    Halfway g.F.Field g.M.Method.answers (λ x. x.call) (λ x. x.answer) l.initial.exchanges l.exchange-index
    l.initial.self l.self l.exchanges
