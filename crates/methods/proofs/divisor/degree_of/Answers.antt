-- Ten codes are at most ten coefficients.
use Rattle.std.proofs.Common.{◌≡◌, ℕ, ◌<◌, ◌≤◌, List, [], ◌∷◌, length, Option, unwrap_or, rules, arith}
use Rattle.fields.specs.Arithmetic.{Arithmetic}
use Rattle.polynomials.specs.Polynomial.{Polynomial, degree}
use Rattle.polynomials.specs.Ten.{value}
use Rattle.polynomials.proofs.Tens.{value-length}
use Rattle.methods.proofs.divisor.degree_of.Goals as goal

degree_below : (p : Polynomial) → length p ≤ 10 → unwrap_or (degree p) 0 < 10
degree_below [] h = omega arith
degree_below (a ∷ p) h = omega arith

below_ten : (K : Arithmetic) (c : List ℕ) (d : Option ℕ) (n : ℕ) → length c ≡ 10 → d ≡ degree (value K c) → n ≡ unwrap_or d 0 → n < 10
below_ten K c d n ten D N =
    let below = degree_below (value K c) (omega (arith, value-length K c)) in
    let same : n ≡ unwrap_or (degree (value K c)) 0 = cc in
    omega arith

pub overflow_cast-result : goal.overflow_cast-result
overflow_cast-result g c =
    let below = below_ten _ c.args.p.codes _ _ (search rules) c.degree.ensures c.unwrap_or.ensures in
    omega arith

pub returns-clause-within : goal.returns-clause-within
returns-clause-within g c = below_ten _ c.args.p.codes _ _ (search rules) c.degree.ensures c.unwrap_or.ensures
