-- Reification: a value of a ring is read back as syntax by `search`, so that an equation is written once, as the goal.
--
--   by-ring L (x ∷ y ∷ []) (search terms depth 60 fits 100000) refl : a ≡ b
--
-- where a and b are built from x and y by the ring's operations. From hypotheses h and k, with certificates c and d:
--
--   by-facts L (x ∷ y ∷ []) (c ⋆ h ∷ d ⋆ k ∷ []) (search terms depth 60 fits 100000) refl : a ≡ b
--
-- where a − b is c · (the difference of h's sides) + d · (the difference of k's sides). The depth has to exceed the
-- number of variables by a dozen; a larger one costs nothing.
use mathlib.Core.Path.{◌≡◌, refl, sym, ◌∙◌, ap, ap₂}
use mathlib.Core.List.{List, [], ◌∷◌}
use Prim.Native.Nat.{ℕ, zero, suc}
use lib.IntN.{pos}
use Rattle.algebra.specs.Ring.{Ops, Laws}
use Rattle.algebra.proofs.Expression.{Expr, var, plus, times, minus, none, one, look, eval, ◌:-◌}
use Rattle.algebra.proofs.NormalForm.{con, norm}
use Rattle.algebra.proofs.Solver.{Given, combine, solve_from}

-- where a value stands in a row
pub data At {K : Type 0} : List K → K → Type 0 where
  here : {x : K} {xs : List K} → At (x ∷ xs) x
  there : {x y : K} {xs : List K} → At xs x → At (y ∷ xs) x

abbrev pub place : {K : Type 0} {ρ : List K} {a : K} → At ρ a → ℕ
place here = zero
place (there p) = suc (place p)

-- how a value is built from those of the row
pub data Reads {K : Type 0} (o : Ops K) (ρ : List K) : K → Type 0 where
  is_add : {a b : K} → Reads o ρ a → Reads o ρ b → Reads o ρ (o.add a b)
  is_mul : {a b : K} → Reads o ρ a → Reads o ρ b → Reads o ρ (o.mul a b)
  is_neg : {a : K} → Reads o ρ a → Reads o ρ (o.neg a)
  is_nil : Reads o ρ o.nil
  is_unit : Reads o ρ o.unit
  is_var : {a : K} → At ρ a → Reads o ρ a

abbrev pub expr : {K : Type 0} {o : Ops K} {ρ : List K} {a : K} → Reads o ρ a → Expr
expr (is_add r s) = plus (expr r) (expr s)
expr (is_mul r s) = times (expr r) (expr s)
expr (is_neg r) = minus (expr r)
expr is_nil = none
expr is_unit = one
expr (is_var p) = var (place p)

place_ok : {K : Type 0} (z : K) {ρ : List K} {a : K} (p : At ρ a) → look z ρ (place p) ≡ a
place_ok z here = refl
place_ok z (there p) = place_ok z p

pub expr_ok : {K : Type 0} {o : Ops K} {ρ : List K} {a : K} (r : Reads o ρ a) → eval o ρ (expr r) ≡ a
expr_ok {o = o} (is_add r s) = ap₂ o.add (expr_ok r) (expr_ok s)
expr_ok {o = o} (is_mul r s) = ap₂ o.mul (expr_ok r) (expr_ok s)
expr_ok {o = o} (is_neg r) = ap o.neg (expr_ok r)
expr_ok is_nil = refl
expr_ok is_unit = refl
expr_ok {o = o} (is_var p) = place_ok o.nil p

infix 70 ◌⋆◌
-- a hypothesis with the factor that it enters a certificate with
pub record Fact (K : Type 0) : Type 0 where
  pub factor : K
  pub left : K
  pub right : K
  pub holds : left ≡ right

abbrev pub ◌⋆◌ : {K : Type 0} → K → {a b : K} → a ≡ b → Fact K
◌⋆◌ c {a} {b} h = record { factor = c; left = a; right = b; holds = h }

pub data Facts {K : Type 0} (o : Ops K) (ρ : List K) : List (Fact K) → Type 0 where
  no_fact : Facts o ρ []
  fact : {h : Fact K} {hs : List (Fact K)} → Reads o ρ h.factor → Reads o ρ h.left → Reads o ρ h.right → Facts o ρ hs → Facts o ρ (h ∷ hs)

-- the terms of an equation and of the hypotheses that it follows from
pub data Terms {K : Type 0} (o : Ops K) (ρ : List K) (hs : List (Fact K)) : K → K → Type 0 where
  terms_of : {a b : K} → Reads o ρ a → Reads o ρ b → Facts o ρ hs → Terms o ρ hs a b

pub ruleset terms = (terms_of, fact, no_fact, is_add, is_mul, is_neg, is_nil, is_unit, is_var, here, there)

abbrev pub givens : {K : Type 0} {o : Ops K} {ρ : List K} {hs : List (Fact K)} → Facts o ρ hs → List (Given o ρ)
givens no_fact = []
givens (fact {h = h} c l r rest) =
    record { factor = expr c; left = expr l; right = expr r; holds = expr_ok l ∙ h.holds ∙ sym (expr_ok r) } ∷ givens rest

-- the equation's difference, less what the hypotheses make of it
abbrev pub remains : {K : Type 0} {o : Ops K} {ρ : List K} {hs : List (Fact K)} {a b : K} → Terms o ρ hs a b → Expr
remains (terms_of r s t) = expr r :- expr s :- combine (givens t)

pub by_facts : {K : Type 0} {o : Ops K} (L : Laws o) (ρ : List K) (hs : List (Fact K)) {a b : K} (t : Terms o ρ hs a b)
    → norm (remains t) ≡ con (pos 0)
    → a ≡ b
by_facts {o = o} L ρ hs (terms_of r s t) z =
    sym (expr_ok r) ∙ solve_from o L ρ (givens t) (expr r) (expr s) z ∙ expr_ok s

pub by_ring : {K : Type 0} {o : Ops K} (L : Laws o) (ρ : List K) {a b : K} (t : Terms o ρ [] a b)
    → norm (remains t) ≡ con (pos 0)
    → a ≡ b
by_ring L ρ t z = by_facts L ρ [] t z
