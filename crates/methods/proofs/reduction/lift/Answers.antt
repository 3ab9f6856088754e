-- The three cases of w.
use Rattle.std.proofs.Common.{◌≢◌, length, pos, ◌<ℤ◌, ◌≤ℤ◌, arith}
use Rattle.std.proofs.lemmas.Int.{ints}
use Rattle.polynomials.proofs.Tens.{value_proper}
use Rattle.methods.specs.Curves.{root}
use Rattle.methods.specs.Steps.{composite_of}
use Rattle.methods.proofs.Curves.{root_proper}
use Rattle.methods.proofs.Reducing.{one_more-below, one_more-above, lifted_four, lifted-turned, lifted-above}
use Rattle.methods.proofs.reduction.lift.Goals as goal
use Rattle.methods.proofs.reduction.lift.Goals.{then-c-lt0, else-c-lt0}

pub returns-then-degree_of-eq4 : goal.returns-then-degree_of-eq4
returns-then-degree_of-eq4 g c L =
    let K = g.F.Field.meaning c.args.field.now in
    lifted_four K (root K c.args.curve) (composite_of K c.args.c) (omega (arith, c.degree_of.ensures.value, c.if-degree_of-eq4.true))

pub returns : goal.returns
returns g c L =
    let K = g.F.Field.meaning c.args.field.now in
    let V = root K c.args.curve in
    let S = composite_of K c.args.c in
    let few : length S.u ≢ 5 = omega (arith, c.degree_of.ensures.value) in
    let d = (c.difference.ensures L).stands in
    let r = (c.divide.ensures.remainder L).stands in
    let s = (c.sum.ensures L).stands in
    elim c.if-c-lt0.branch [
      | then-c-lt0 w ↦
          let m = (w.negative-part.ensures L).stands in
          let own = root_proper K L c.args.curve in
          let below : c.args.c.n <ℤ pos 0 = grind (arith, ints) in
          let e = lifted-turned K V S L own (value_proper K L c.args.c.v.codes) few (one_more-below _ below) in
          cc
      | else-c-lt0 w ↦
          let above : pos 0 ≤ℤ c.args.c.n = grind (arith, ints) in
          let e = lifted-above K V S few _ (one_more-above _ above) in
          cc
    ]
