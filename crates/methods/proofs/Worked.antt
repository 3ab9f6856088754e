-- The worked cases are right: they are computed.
use Rattle.std.proofs.Common.{◌≡◌, true, refl}
use Rattle.fields.specs.Residues.{inverse_modulo, inverses}
use Rattle.polynomials.specs.Polynomial.{sum, negative, difference, product, multiple, quotient, remainder, euclid, gcd}
use Rattle.polynomials.specs.Ten.{value}
use Rattle.methods.specs.Curves.{sextic, root}
use Rattle.methods.specs.Divisors.{u_of, v_of, divisor_of, on_curve, entered, opposite}
use Rattle.methods.specs.Sums.{bezout, numerator, composed_by, composed, lifted, stepped_by, stepped, reduced, plus, twice}
use Rattle.methods.specs.Worked.{cases, all_right}

pub worked : all_right cases ≡ true
unfolding inverse_modulo inverses sum negative difference product multiple quotient remainder euclid gcd value sextic root u_of v_of divisor_of on_curve entered opposite bezout numerator composed_by composed lifted stepped_by stepped reduced plus twice
worked = refl
