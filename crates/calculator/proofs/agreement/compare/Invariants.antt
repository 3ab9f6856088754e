-- Both calculators are on their way through the same calls.
use Rattle.calculator.proofs.Loops.{Halfway}
use Rattle.calculator.proofs.agreement.compare.Given as goal

abbrev pub invariant-loop-comparison : goal.invariant-loop-comparison
invariant-loop-comparison g l =
    Halfway g.F.Field g.M.Method.answers (λ x. x.call) (λ x. x.first) l.initial.comparisons l.comparison-index
    l.initial.one l.one l.comparisons
    × Halfway g.G.Field g.N.Method.answers (λ x. x.call) (λ x. x.second) l.initial.comparisons l.comparison-index
    l.initial.other l.other l.comparisons
