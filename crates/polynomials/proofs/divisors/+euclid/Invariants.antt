-- Each call has a step less to go.
use Rattle.polynomials.proofs.divisors.+euclid.Given as goal

abbrev pub decreases-euclid : goal.decreases-euclid
decreases-euclid g l = l.steps
