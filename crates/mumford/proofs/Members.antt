-- The members of a divisor are an ideal; they depend on v modulo u alone, and those of the negative are their conjugates.
use Rattle.std.proofs.Common.{◌≡◌, [], ◌∷◌, refl}
use Rattle.algebra.specs.Ring.{Ops, Laws}
use Rattle.algebra.specs.Divisibility.{Congruent}
use Rattle.algebra.proofs.Reify.{by_ring, ◌⋆◌, by_facts, terms}
use Rattle.mumford.specs.Functions.{Function, functions, constant, conjugate, Represents, Member}
use Rattle.mumford.proofs.Sums.{Closed, Ideal}

module _ {P : Type 0} {o : Ops P} (L : Laws o) where
  infixl 75 ◌+◌
  infixl 80 ◌·◌
  open o use {add as ◌+◌, mul as ◌·◌, neg, nil, unit}

  pub member_along : {u v w : P} → Congruent o u v w → (g : Function P) → Member o u w g → Member o u v g
  member_along {u} {v} {w} (s, h) (a, b) (t, e) = (
    t + b · s,
    by_facts L (u ∷ v ∷ w ∷ s ∷ a ∷ b ∷ t ∷ []) (unit ⋆ e ∷ b ⋆ h ∷ []) (search terms depth 60 fits 100000) refl,
  )

  pub congruent_sym : {u v w : P} → Congruent o u v w → Congruent o u w v
  congruent_sym {u} {v} {w} (s, h) =
      (neg s, by_facts L (u ∷ v ∷ w ∷ s ∷ []) (neg unit ⋆ h ∷ []) (search terms depth 60 fits 100000) refl)

  -- (1, v) has every function as a member.
  pub all_members : {u : P} (v : P) → u ≡ unit → (g : Function P) → Member o u v g
  all_members {u} v e g =
      let s = g.0 + g.1 · v in
      (s, by_facts L (u ∷ s ∷ []) (neg s ⋆ e ∷ []) (search terms depth 60 fits 100000) refl)

  -- u itself and y − v are members of (u, v).
  pub member_u : (u v : P) → Member o u v (constant o u)
  member_u u v = (unit, by_ring L (u ∷ v ∷ []) (search terms depth 60 fits 100000) refl)

  pub member_y : (u v : P) → Member o u v (neg v, unit)
  member_y u v = (nil, by_ring L (u ∷ v ∷ []) (search terms depth 60 fits 100000) refl)

  pub members_closed : (f u v : P) → Closed (functions o f) (Member o u v)
  members_closed f u v =
      record {
        nil_in = (nil, by_ring L (u ∷ v ∷ []) (search terms depth 60 fits 100000) refl);
        add_in =
            λ (a, b) (a', b') (t, e) (t', e'). (
              t + t',
              by_facts L (u ∷ v ∷ a ∷ b ∷ a' ∷ b' ∷ t ∷ t' ∷ []) (unit ⋆ e ∷ unit ⋆ e' ∷ []) (search terms depth 60 fits 100000) refl,
            );
      }

  -- (a + b·y)·(c + c'·y) has a·c + b·c'·f + (a·c' + b·c)·v = (a + b·v)·(c + c'·v) + b·c'·(f − v²).
  pub members_ideal : {f u v : P} → Represents o f u v → Ideal (functions o f) (Member o u v)
  members_ideal {f} {u} {v} (k, h) =
      record {
        closed = members_closed f u v;
        times =
            λ (a, b) (c, c') (t, e). (
              t · (c + c' · v) + b · c' · k,
              by_facts L (u ∷ v ∷ a ∷ b ∷ c ∷ c' ∷ t ∷ k ∷ f ∷ []) (c + c' · v ⋆ e ∷ b · c' ⋆ h ∷ [])
                  (search terms depth 60 fits 100000) refl,
            );
      }

  pub member_conjugate : (u v : P) (g : Function P) → Member o u v g → Member o u (neg v) (conjugate o g)
  member_conjugate u v (a, b) (t, e) =
      (t, by_facts L (u ∷ v ∷ a ∷ b ∷ t ∷ []) (unit ⋆ e ∷ []) (search terms depth 60 fits 100000) refl)

  pub conjugate_member : (u v : P) (g : Function P) → Member o u (neg v) g → Member o u v (conjugate o g)
  conjugate_member u v (a, b) (t, e) =
      (t, by_facts L (u ∷ v ∷ a ∷ b ∷ t ∷ []) (unit ⋆ e ∷ []) (search terms depth 60 fits 100000) refl)
