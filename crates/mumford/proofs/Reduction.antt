-- The reduction step: (y + w)·I(u, v) = u·I(u', v'), where w ≡ v modulo u, f − w² = u·κ·u' with a unit κ, and v' ≡ −w
-- modulo u'. Nothing is asked of f.
use Rattle.std.proofs.Common.{List, [], ◌∷◌, sym, refl, ◌∙◌, subst}
use Rattle.algebra.specs.Ring.{Ops, Laws, sub}
use Rattle.algebra.proofs.Reify.{◌⋆◌, by_facts, terms}
use Rattle.mumford.specs.Functions.{Function, functions, constant, Represents, Member}
use Rattle.mumford.specs.Divisors.{Divisor, Members}
use Rattle.mumford.specs.Reduction.{Step}
use Rattle.mumford.specs.Accounts.{Multiple, Product, SameSets}
use Rattle.mumford.proofs.Functions.{both, function_laws}
use Rattle.mumford.proofs.Sums.{single, sums_in, multiple-closed}
use Rattle.mumford.proofs.Members.{members_closed, members_ideal, member_along, congruent_sym}

module _ {P : Type 0} {o : Ops P} (L : Laws o) {f w : P} (D E : Divisor P) (step : Step o f D.u D.v E.u E.v w) where
  infixl 75 ◌+◌ ◌-◌
  infixl 80 ◌·◌
  open o use {add as ◌+◌, mul as ◌·◌, neg, unit}
  open D use {u, v}
  open E use {u as u', v as v'}
  open step use {κ, κ⁻¹, is_unit, near, quotient, opposite}

  abbrev ◌-◌ : P → P → P
  ◌-◌ = sub o

  abbrev s : P
  s = near.0

  abbrev s' : P
  s' = opposite.0

  abbrev constants : List P
  constants = f ∷ u ∷ v ∷ u' ∷ v' ∷ w ∷ κ ∷ κ⁻¹ ∷ s ∷ s' ∷ []

  pub before_valid : Represents o f u v
  before_valid = (
    κ · u' + s · (w + v),
    by_facts L constants (unit ⋆ quotient ∷ w + v ⋆ near.1 ∷ []) (search terms depth 60 fits 100000) refl,
  )

  pub after_valid : Represents o f u' v'
  after_valid = (
    u · κ + s' · (w - v'),
    by_facts L constants (unit ⋆ quotient ∷ w - v' ⋆ opposite.1 ∷ []) (search terms depth 60 fits 100000) refl,
  )

  abbrev y+w : Function P
  y+w = (w, unit)

  abbrev F : Ops (Function P)
  F = functions o f

  abbrev LF : Laws F
  LF = function_laws L f

  -- (y + w)·(a + b·y) = u·m for a member a + b·y of (u, v): with a + b·w = u·t, m = t·w + b·κ·u' + t·y.
  forth : (p : Function P) → Member o u v p → Multiple F (constant o u) (Member o u' v') (F.mul y+w p)
  forth p d = go p (member_along L near p d)
    where
      go : (p : Function P) → Member o u w p → Multiple F (constant o u) (Member o u' v') (F.mul y+w p)
      go (a, b) (t, e) = (
        (t · w + b · (κ · u'), t),
        (
          κ · b + t · s',
          by_facts L (a ∷ b ∷ t ∷ constants) (t ⋆ opposite.1 ∷ []) (search terms depth 60 fits 100000) refl,
        ),
        both
            (by_facts L (a ∷ b ∷ t ∷ constants) (w ⋆ e ∷ b ⋆ quotient ∷ []) (search terms depth 60 fits 100000) refl)
            (by_facts L (a ∷ b ∷ t ∷ constants) (unit ⋆ e ∷ []) (search terms depth 60 fits 100000) refl),
      )

  -- u·m = (y + w)·p for a member m = a + b·y of (u', v'): with a − b·w = u'·t, p = u·b + κ⁻¹·t·(y − w).
  back : (m : Function P) → Member o u' v' m → Multiple F y+w (Member o u v) (F.mul (constant o u) m)
  back m e = go m (member_along L (congruent_sym L opposite) m e)
    where
      go : (m : Function P) → Member o u' (neg w) m → Multiple F y+w (Member o u v) (F.mul (constant o u) m)
      go (a, b) (t, e) = (
        (u · b - κ⁻¹ · t · w, κ⁻¹ · t),
        (
          b - κ⁻¹ · t · s,
          by_facts L (a ∷ b ∷ t ∷ constants) (neg (κ⁻¹ · t) ⋆ near.1 ∷ []) (search terms depth 60 fits 100000) refl,
        ),
        both
            (by_facts L (a ∷ b ∷ t ∷ constants)
            (neg (κ⁻¹ · t) ⋆ quotient ∷ neg (t · u · u') ⋆ is_unit ∷ u ⋆ e ∷ [])
            (search terms depth 60 fits 100000) refl)
            (by_facts L (a ∷ b ∷ t ∷ constants) [] (search terms depth 60 fits 100000) refl),
      )

  pub step-sets : SameSets F (Members o) y+w (constant o u) E (D ∷ [])
  step-sets =
      record {
        within = sums_in LF (multiple-closed LF (constant o u) (members_closed L f u' v')) term;
        reached =
            λ x (m, M, e).
            let (p, d, k) = back m M in
            single LF x (p, (p, F.unit, d, tt, sym (LF.mul_unit p)), e ∙ k);
      }
    where
      term : (x : Function P) → Multiple F y+w (Product F (Members o) (D ∷ [])) x → Multiple F (constant o u) (Members o E) x
      term x (p, (a, c, d, _, e), k) =
          let (m, M, l) = forth p (subst (Members o D) (sym e) ((members_ideal L (before_valid)).times a c d)) in
          (m, M, k ∙ l)
