-- All codes above the highest that is not 0 are 0.
use Rattle.std.proofs.Common.{◌≡◌, ℕ, ◌-◌, ◌<◌, ◌≤◌, ◌≢◌, get_or, arith, rules}
use native.Mathlib.Decide.{dec_lt}
use lib.ListN.{get_or-eq_default}
use Rattle.polynomials.proofs.Coefficients.{counted}
use Rattle.polynomials.proofs.codes.Polynomial.count.Goals as goal

pub returns-clause-value : goal.returns-clause-value
returns-clause-value c =
    let p = c.args.self.codes in
    let n = c.map_or.result in
    let above : (k : ℕ) → n ≤ k → k < 10 → get_or p k 0 ≡ 0 = λ k l m. search rules in
    let top : 0 < n → get_or p (n - 1) 0 ≢ 0 = λ l z. search rules in
    counted p n (λ k l. elim (dec_lt k 10) [ yes m ↦ above k l m | no m ↦ get_or-eq_default p 0 (omega arith) ]) top
