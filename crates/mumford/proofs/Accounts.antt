-- Accounts in any commutative ring: the sets of the empty account, of an account of one divisor, of a joined account and of
-- a negated one.
use Rattle.std.proofs.Common.{◌≡◌, List, [], ◌∷◌, ◌++◌, map, sym, refl, ap, ◌∙◌, subst}
use Rattle.algebra.specs.Ring.{Ops, Laws}
use Rattle.algebra.proofs.Reify.{by_ring, by_facts, ◌⋆◌, terms}
use Rattle.mumford.specs.Accounts.{Sums, none, more, Multiple, Product, SameSets}
use Rattle.mumford.proofs.Sums.{Closed, Ideal, single, sums-closed, sums_in, sums_into, sums_into2, multiple-closed}

module _ {R : Type 0} {o : Ops R} (L : Laws o) {D : Type 0} (Members : D → R → Type 0) where
  infixl 80 ◌·◌
  open o use {mul as ◌·◌, neg, unit}

  abbrev Products : List D → R → Type 0
  Products = Product o Members

  -- the products of an account with the factor g, and their sums
  abbrev Terms : R → List D → R → Type 0
  Terms g A = Multiple o g (Products A)

  abbrev Span : R → List D → R → Type 0
  Span g A = Sums o (Terms g A)

  -- a product times anything
  absorb : (A : List D) (c p : R) → Products A p → Products A (c · p)
  absorb [] c p _ = tt
  absorb (E ∷ A) c p (a, q, m, r, e) =
      (a, c · q, m, absorb A c q r, by_facts L (a ∷ c ∷ p ∷ q ∷ []) (c ⋆ e ∷ []) (search terms depth 60 fits 100000) refl)

  -- The products of a joined account are the products of one product of each.
  join : (A B : List D) (p q : R) → Products A p → Products B q → Products (A ++ B) (p · q)
  join [] B p q _ s = absorb B p q s
  join (E ∷ A) B p q (a, p', m, r, e) s =
      (a, p' · q, m, join A B p' q r s, by_facts L (a ∷ p ∷ p' ∷ q ∷ []) (q ⋆ e ∷ []) (search terms depth 60 fits 100000) refl)

  split : (A B : List D) (x : R) → Products (A ++ B) x → (p : R) × (q : R) × Products A p × Products B q × (x ≡ p · q)
  split [] B x s = (unit, x, tt, s, by_ring L (x ∷ []) (search terms depth 60 fits 100000) refl)
  split (E ∷ A) B x (a, y, m, r, e) =
      let (p, q, s, t, k) = split A B y r in
      (a · p, q, (a, p, m, s, refl), t, eq a y p q x e k)
    where
      eq : (a y p q x : R) → x ≡ a · y → y ≡ p · q → x ≡ a · p · q
      eq a y p q x e k = by_facts L (a ∷ p ∷ q ∷ x ∷ y ∷ []) (unit ⋆ e ∷ a ⋆ k ∷ []) (search terms depth 60 fits 100000) refl

  pub sets_empty : (E : D) → ((x : R) → Members E x) → SameSets o Members unit unit E []
  sets_empty E all =
      record {
        within = λ x _. (x, all x, by_ring L (x ∷ []) (search terms depth 60 fits 100000) refl);
        reached = λ x _. single L x (x, tt, by_ring L (x ∷ []) (search terms depth 60 fits 100000) refl);
      }

  -- A divisor whose members are an ideal has the sets of the account that it makes alone.
  pub sets-one : (E : D) → Ideal o (Members E) → SameSets o Members unit unit E (E ∷ [])
  sets-one E i =
      record {
        within = sums_in L (multiple-closed L unit i.closed) term;
        reached = λ x w. single L x (w.0, (w.0, unit, w.1, tt, sym (L.mul_unit w.0)), w.2);
      }
    where
      term : (x : R) → Terms unit (E ∷ []) x → Multiple o unit (Members E) x
      term x (p, (a, c, m, _, e), k) = (p, subst (Members E) (sym e) (i.times a c m), k)

  factors : (h h0 m x : R) → x ≡ h · h0 · m → h · (h0 · m) ≡ x
  factors h h0 m x e = by_facts L (h ∷ h0 ∷ m ∷ x ∷ []) (neg unit ⋆ e ∷ []) (search terms depth 60 fits 100000) refl

  -- Where F has the sets of E alone, it has those of the accounts that E has.
  pub sets-on : {E F : D} {A : List D} {g h g0 h0 : R}
      → Closed o (Members F)
      → SameSets o Members g h E A
      → SameSets o Members g0 h0 F (E ∷ [])
      → SameSets o Members (g · g0) (h · h0) F A
  sets-on {E} {F} {A} {g} {h} {g0} {h0} cF s s0 =
      record {
        within = sums_in L (multiple-closed L (h · h0) cF) term;
        reached =
            λ x (m, M, e).
            subst (Span (g · g0) A) (factors h h0 m x e)
            (sums_into L (sums-closed L) h back (h0 · m) (s0.reached (h0 · m) (m, M, refl)));
      }
    where
      inward : (g h g0 h0 x p m n : R) → x ≡ g · g0 · p → g · p ≡ h · m → g0 · (m · unit) ≡ h0 · n → x ≡ h · h0 · n
      inward g h g0 h0 x p m n a b c =
          by_facts L (g ∷ h ∷ g0 ∷ h0 ∷ x ∷ p ∷ m ∷ n ∷ []) (unit ⋆ a ∷ g0 ⋆ b ∷ h ⋆ c ∷ []) (search terms depth 60 fits 100000) refl

      term : (x : R) → Terms (g · g0) A x → Multiple o (h · h0) (Members F) x
      term x (p, r, e) =
          let (m, M, k) = s.within (g · p) (single L (g · p) (p, r, refl)) in
          let (n, N, l) = s0.within (g0 · (m · unit)) (single L (g0 · (m · unit)) (m · unit, (m, unit, M, tt, refl), refl)) in
          (n, N, inward g h g0 h0 x p m n e k l)

      outward : (h g0 m c z p : R) → z ≡ g0 · p → p ≡ m · c → g0 · c · (h · m) ≡ h · z
      outward h g0 m c z p a b =
          by_facts L (h ∷ g0 ∷ m ∷ c ∷ z ∷ p ∷ []) (neg h ⋆ a ∷ neg (h · g0) ⋆ b ∷ []) (search terms depth 60 fits 100000) refl

      regroup : (g g0 c x p : R) → x ≡ g · p → g0 · c · x ≡ g · g0 · (c · p)
      regroup g g0 c x p a = by_facts L (g ∷ g0 ∷ c ∷ x ∷ p ∷ []) (g0 · c ⋆ a ∷ []) (search terms depth 60 fits 100000) refl

      back : (z : R) → Terms g0 (E ∷ []) z → Span (g · g0) A (h · z)
      back z (p, (m, c, M, _, e), k) =
          subst (Span (g · g0) A) (outward h g0 m c z p k e)
          (sums_into L (sums-closed L) (g0 · c)
          (λ x (q, r, l). single L (g0 · c · x) (c · q, absorb A c q r, regroup g g0 c x q l))
          (h · m) (s.reached (h · m) (m, M, refl)))

  -- Where F has the sets of D1 and D2 together, it has those of an account of D1 joined to one of D2.
  pub sets-joined : {D1 D2 F : D} {A B : List D} {g1 h1 g2 h2 g0 h0 : R}
      → Closed o (Members F)
      → SameSets o Members g1 h1 D1 A
      → SameSets o Members g2 h2 D2 B
      → SameSets o Members g0 h0 F (D1 ∷ D2 ∷ [])
      → SameSets o Members (g1 · g2 · g0) (h1 · h2 · h0) F (A ++ B)
  sets-joined {D1} {D2} {F} {A} {B} {g1} {h1} {g2} {h2} {g0} {h0} cF s1 s2 s0 =
      record {
        within = sums_in L (multiple-closed L h cF) term;
        reached =
            λ x (m, M, e).
            subst (Span g (A ++ B)) (factors (h1 · h2) h0 m x e)
            (sums_into L (sums-closed L) (h1 · h2) back (h0 · m) (s0.reached (h0 · m) (m, M, refl)));
      }
    where
      g : R
      g = g1 · g2 · g0

      h : R
      h = h1 · h2 · h0

      inward : (x p q r m1 m2 m : R)
          → x ≡ g1 · g2 · g0 · r → r ≡ p · q → g1 · p ≡ h1 · m1 → g2 · q ≡ h2 · m2 → g0 · (m1 · (m2 · unit)) ≡ h0 · m
          → x ≡ h1 · h2 · h0 · m
      inward x p q r m1 m2 m a b c d e =
          by_facts L (g1 ∷ h1 ∷ g2 ∷ h2 ∷ g0 ∷ h0 ∷ x ∷ p ∷ q ∷ r ∷ m1 ∷ m2 ∷ m ∷ [])
          (unit ⋆ a ∷ g1 · g2 · g0 ⋆ b ∷ g2 · g0 · q ⋆ c ∷ h1 · m1 · g0 ⋆ d ∷ h1 · h2 ⋆ e ∷ [])
          (search terms depth 60 fits 100000) refl

      term : (x : R) → Terms g (A ++ B) x → Multiple o h (Members F) x
      term x (r, s, e) =
          let (p, q, pA, qB, k) = split A B r s in
          let (m1, M1, k1) = s1.within (g1 · p) (single L (g1 · p) (p, pA, refl)) in
          let (m2, M2, k2) = s2.within (g2 · q) (single L (g2 · q) (q, qB, refl)) in
          let n = m1 · (m2 · unit) in
          let (m, M, k0) = s0.within (g0 · n) (single L (g0 · n) (n, (m1, m2 · unit, M1, (m2, unit, M2, tt, refl), refl), refl)) in
          (m, M, inward x p q r m1 m2 m e k k1 k2 k0)

      outward : (z p m1 p' m2 c : R) → z ≡ g0 · p → p ≡ m1 · p' → p' ≡ m2 · c → g0 · c · (h1 · m1 · (h2 · m2)) ≡ h1 · h2 · z
      outward z p m1 p' m2 c a b d =
          by_facts L (h1 ∷ h2 ∷ g0 ∷ z ∷ p ∷ m1 ∷ p' ∷ m2 ∷ c ∷ [])
          (neg (h1 · h2) ⋆ a ∷ neg (h1 · h2 · g0) ⋆ b ∷ neg (h1 · h2 · g0 · m1) ⋆ d ∷ []) (search terms depth 60 fits 100000) refl

      regroup : (c x y p q : R) → x ≡ g1 · p → y ≡ g2 · q → g0 · c · (x · y) ≡ g1 · g2 · g0 · (c · (p · q))
      regroup c x y p q a b =
          by_facts L (g1 ∷ g2 ∷ g0 ∷ c ∷ x ∷ y ∷ p ∷ q ∷ []) (g0 · c · y ⋆ a ∷ g0 · c · g1 · p ⋆ b ∷ []) (search terms depth 60 fits 100000) refl

      back : (z : R) → Terms g0 (D1 ∷ D2 ∷ []) z → Span g (A ++ B) (h1 · h2 · z)
      back z (p, (m1, p', M1, (m2, c, M2, _, e2), e1), e0) =
          subst (Span g (A ++ B)) (outward z p m1 p' m2 c e0 e1 e2)
          (sums_into2 L (sums-closed L) (g0 · c)
          (λ x y (q, Q, k) (r, S, l).
          single L (g0 · c · (x · y)) (c · (q · r), absorb (A ++ B) c (q · r) (join A B q r Q S), regroup c x y q r k l))
          (h1 · m1) (h2 · m2) (s1.reached (h1 · m1) (m1, M1, refl)) (s2.reached (h2 · m2) (m2, M2, refl)))

-- Conjugation: a map of the ring that keeps sums and products and undoes itself, and takes the members
-- of a divisor to those of its negative.
pub record Conjugation {R : Type 0} (o : Ops R) {D : Type 0} (Members : D → R → Type 0) (bar : R → R) (minus : D → D) : Type 0 where
  pub bar_nil : bar o.nil ≡ o.nil
  pub bar_add : (x y : R) → bar (o.add x y) ≡ o.add (bar x) (bar y)
  pub bar_mul : (x y : R) → bar (o.mul x y) ≡ o.mul (bar x) (bar y)
  pub bar_bar : (x : R) → bar (bar x) ≡ x
  pub there_to : (E : D) (x : R) → Members E x → Members (minus E) (bar x)
  pub back_to : (E : D) (x : R) → Members (minus E) x → Members E (bar x)

module _ {R : Type 0} {o : Ops R} (L : Laws o) {D : Type 0} {Members : D → R → Type 0} {bar : R → R} {minus : D → D}
    (c : Conjugation o Members bar minus) where
  infixl 80 ◌·◌
  open o use {mul as ◌·◌}
  open c use {bar_nil, bar_add, bar_mul, bar_bar, there_to, back_to}

  there-product : (A : List D) (p : R) → Product o Members A p → Product o Members (map minus A) (bar p)
  there-product [] p _ = tt
  there-product (E ∷ A) p (a, q, m, r, e) = (bar a, bar q, there_to E a m, there-product A q r, ap bar e ∙ bar_mul a q)

  back_product : (A : List D) (p : R) → Product o Members (map minus A) p → Product o Members A (bar p)
  back_product [] p _ = tt
  back_product (E ∷ A) p (a, q, m, r, e) = (bar a, bar q, back_to E a m, back_product A q r, ap bar e ∙ bar_mul a q)

  sums_bar : {S T : R → Type 0} → ((x : R) → S x → T (bar x)) → (x : R) → Sums o S x → Sums o T (bar x)
  sums_bar {T = T} h _ none = subst (Sums o T) (sym bar_nil) none
  sums_bar {T = T} h _ (more {x = x} {y = y} s r) = subst (Sums o T) (sym (bar_add x y)) (more (h x s) (sums_bar h y r))

  pub sets-negative : {E : D} {A : List D} {g h : R}
      → Closed o (Members (minus E))
      → SameSets o Members g h E A
      → SameSets o Members (bar g) (bar h) (minus E) (map minus A)
  sets-negative {E} {A} {g} {h} cE s =
      record {
        within = sums_in L (multiple-closed L (bar h) cE) term;
        reached =
            λ x (m, M, e).
            subst (Sums o (Multiple o (bar g) (Product o Members (map minus A)))) (shift h m x e)
            (sums_bar back (h · bar m) (s.reached (h · bar m) (bar m, back_to E m M, refl)));
      }
    where
      shift : (k m x : R) → x ≡ bar k · m → bar (k · bar m) ≡ x
      shift k m x e = bar_mul k (bar m) ∙ ap (◌·◌ (bar k)) (bar_bar m) ∙ sym e

      term : (x : R) → Multiple o (bar g) (Product o Members (map minus A)) x → Multiple o (bar h) (Members (minus E)) x
      term x (p, r, e) =
          let (m, M, k) = s.within (g · bar p) (single L (g · bar p) (bar p, back_product A p r, refl)) in
          (bar m, there_to E m M, sym (shift g p x e) ∙ ap bar k ∙ bar_mul h m)

      back : (x : R) → Multiple o g (Product o Members A) x → Multiple o (bar g) (Product o Members (map minus A)) (bar x)
      back x (p, r, e) = (bar p, there-product A p r, ap bar e ∙ bar_mul g p)
