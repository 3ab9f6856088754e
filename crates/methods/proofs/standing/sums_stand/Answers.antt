-- The theorems, one by one.
use Rattle.methods.proofs.Theorems.{root_part, composition_well_defined, composites_fair, steps_valid, sums_valid, doubles_valid, negatives_valid}
use Rattle.methods.proofs.standing.sums_stand.Goals as goal

pub returns : goal.returns
returns c =
    record {
      root = root_part;
      composition = composition_well_defined;
      composites = composites_fair;
      steps = steps_valid;
      sums = sums_valid;
      doubles = doubles_valid;
      negatives = negatives_valid;
    }
