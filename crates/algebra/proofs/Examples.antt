-- How the solver is used, on the resultant of two quadratic polynomials.
use mathlib.Core.Path.{◌≡◌, refl}
use mathlib.Core.List.{[], ◌∷◌}
use Rattle.algebra.specs.Ring.{Ops, Laws, sub, pow}
use Rattle.algebra.proofs.Expression.{var, syntax}
use Rattle.algebra.proofs.Solver.{solve}
use Rattle.algebra.proofs.Reify.{by_ring, by_facts, ◌⋆◌, terms}

-- Formulas that statements speak of are written over any operations: at a ring's they are its values, and at `syntax`
-- what the solver reads.
--
-- x² + a·x + b
abbrev quadratic : {C : Type 0} → Ops C → C → C → C → C
quadratic o a b x = o.add (pow o x 2) (o.add (o.mul a x) b)

-- The resultant of x² + a·x + b and x² + A·x + B is b·z1² − (b − B)·z2, with z1 = a − A and z2 = a·z1 − (b − B).
abbrev z2 : {C : Type 0} → Ops C → C → C → C → C → C
z2 o a b A B = sub o (o.mul a (sub o a A)) (sub o b B)

abbrev resultant : {C : Type 0} → Ops C → C → C → C → C → C
resultant o a b A B =
    let z1 = sub o a A in
    sub o (o.mul b (o.mul z1 z1)) (o.mul (sub o b B) (z2 o a b A B))

-- z1·x + z2: the inverse of the second modulo the first, times the resultant
abbrev inverse : {C : Type 0} → Ops C → C → C → C → C → C → C
inverse o a b A B x = o.add (o.mul (sub o a A) x) (z2 o a b A B)

-- inverse · second − (inverse − z1²) · first
abbrev combination : {C : Type 0} → Ops C → C → C → C → C → C → C
combination o a b A B x =
    let z1 = sub o a A in
    let w = inverse o a b A B x in
    sub o (o.mul w (quadratic o A B x)) (o.mul (sub o w (o.mul z1 z1)) (quadratic o a b x))

module _ {K : Type 0} (o : Ops K) (L : Laws o) where
  -- The equation is written once, as the goal, and `search` reads its two sides back.
  combination_is : (a b A B x : K) → combination o a b A B x ≡ resultant o a b A B
  combination_is a b A B x = by_ring L (a ∷ b ∷ A ∷ B ∷ x ∷ []) (search terms depth 60 fits 100000) refl

  -- From hypotheses, each with its factor: a common root makes the resultant zero.
  common_root : (a b A B x : K) → quadratic o a b x ≡ o.nil → quadratic o A B x ≡ o.nil → resultant o a b A B ≡ o.nil
  common_root a b A B x h k =
      let z1 = sub o a A in
      let w = inverse o a b A B x in
      by_facts L (a ∷ b ∷ A ∷ B ∷ x ∷ []) (w ⋆ k ∷ sub o (o.mul z1 z1) w ⋆ h ∷ []) (search terms depth 60 fits 100000) refl

  -- For formulas too large for `search`: the two sides as syntax. The statement computes to the equation in the ring.
  combination_is_too : (a b A B x : K) → combination o a b A B x ≡ resultant o a b A B
  combination_is_too a b A B x =
      solve o L (a ∷ b ∷ A ∷ B ∷ x ∷ [])
      (combination syntax (var 0) (var 1) (var 2) (var 3) (var 4)) (resultant syntax (var 0) (var 1) (var 2) (var 3)) refl
