use Rattle.classes.specs.Settling.{built_neutral, built_alone, built_sum}
use Rattle.classes.proofs.sums_settle.Goals as goal
use Rattle.classes.proofs.Built.{built_valid, built_settles}

pub returns : goal.returns
returns c =
    record {
      neutral = λ K C L accepted. built_settles K L C accepted built_neutral;
      alone = λ K C L accepted D valid. built_settles K L C accepted (built_alone valid);
      sum =
          λ K C L accepted D E hD hE.
          let built = built_sum (built_alone hD) (built_alone hE) in
          (built_valid K L C accepted built, built_settles K L C accepted built);
    }
