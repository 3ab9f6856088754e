use Rattle.classes.proofs.members_are_ideals.Goals as goal
use Rattle.classes.proofs.Members.{member_sum, member_product}

pub returns : goal.returns
returns c K C L accepted D valid =
    (λ m n hm hn. member_sum K L C D hm hn, λ m c hm hc. member_product K L C D valid hm hc)
