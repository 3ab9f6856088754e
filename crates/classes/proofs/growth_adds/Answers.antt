use Rattle.classes.proofs.growth_adds.Goals as goal
use Rattle.classes.proofs.Functions.{sum_over, product-over}
use Rattle.classes.proofs.Growth.{norm_some, conjugate-growth, product_some, product-growth}

pub returns : goal.returns
returns c =
    record {
      functions = λ K C L accepted g h hg hh. (sum_over K L C hg hh, product-over K L C hg hh);
      product =
          λ K C L accepted g h hg hh g_some h_some.
          (product_some K L C accepted hg g_some hh h_some, product-growth K L C accepted hg g_some hh h_some);
      conjugate = λ K C L accepted g hg g_some. (norm_some K L C accepted hg g_some, conjugate-growth K L C accepted hg g_some);
    }
