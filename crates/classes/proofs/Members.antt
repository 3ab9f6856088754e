-- The members of a divisor are those of its polynomials u and v; they are closed under sums, and those of a valid divisor
-- under multiplication by any function.
use Rattle.algebra.specs.Ring.{Ops}
use Rattle.fields.specs.Arithmetic.{Arithmetic}
use Rattle.fields.specs.Lawful.{Lawful}
use Rattle.polynomials.specs.Proper.{Listed}
use Rattle.polynomials.proofs.Listed.{list_path, listed_path, polynomials}
use Rattle.polynomials.proofs.Presentation.{list_laws}
use Rattle.mumford.specs.Functions as M
use Rattle.mumford.specs.Divisors.{Members}
use Rattle.mumford.proofs.Members.{members_closed, members_ideal}
use Rattle.methods.specs.declared.curve.Curve.{Curve}
use Rattle.methods.specs.declared.divisor.Divisor.{Divisor}
use Rattle.methods.specs.Divisors.{Valid}
use Rattle.methods.proofs.Curves.{f_of}
use Rattle.methods.proofs.Representations.{mumford_of, valid_mumford}
use Rattle.classes.specs.Functions.{Function, Over, function_sum, function_product}
use Rattle.classes.specs.Settling.{Member}
use Rattle.classes.proofs.Functions.{lists, listed, lists-over, lists-add, lists-mul, ring}

module _ (K : Arithmetic) (L : Lawful K) where
  abbrev P : Ops (Listed K)
  P = polynomials K L

  pub member_listed : (D : Divisor) {m : Function} (h : Member K D m) → Members P (mumford_of K L D) (listed h.over)
  unfolding polynomials
  member_listed D h = ((h.cofactor, h.cofactor_over), listed_path h.divisible)

  pub member_lists : (D : Divisor) (m : M.Function (Listed K)) → Members P (mumford_of K L D) m → Member K D (lists m)
  unfolding polynomials
  member_lists D m (t, e) =
      record { over = lists-over m; cofactor = t.0; cofactor_over = t.1; divisible = list_path e }

  module _ (C : Curve) (D : Divisor) where
    pub member_sum : {m n : Function} → Member K D m → Member K D n → Member K D (function_sum K m n)
    member_sum hm hn =
        let x = listed hm.over in
        let y = listed hn.over in
        rw (← lists-add K L C x y) (member_lists D ((ring K L C).add x y)
        ((members_closed (list_laws K L) (f_of K L C) _ _).add_in x y (member_listed D hm) (member_listed D hn)))

    pub member_product : Valid K C D → {m c : Function} → Member K D m → Over K c → Member K D (function_product K C m c)
    member_product valid hm hc =
        let x = listed hm.over in
        let y = listed hc in
        rw (← lists-mul K L C x y) (member_lists D ((ring K L C).mul x y)
        ((members_ideal (list_laws K L) (valid_mumford K L C D valid).represents).times x y (member_listed D hm)))
