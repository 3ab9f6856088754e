use Rattle.classes.specs.Settling.{built_sum, built_double, built_negative}
use Rattle.classes.proofs.built_settles.Goals as goal
use Rattle.classes.proofs.Built.{built_valid, built_settles}

pub returns : goal.returns
returns c =
    record {
      built = λ K C L accepted D account b. (built_valid K L C accepted b, built_settles K L C accepted b);
      steps =
          λ K C L accepted D E A B a b. (
            built_settles K L C accepted (built_sum a b),
            built_settles K L C accepted (built_double a),
            built_settles K L C accepted (built_negative a),
          );
    }
