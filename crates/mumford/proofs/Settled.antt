-- What is carried from account to account. It is more than settling: the norms of g and h have the degrees that the account
-- and the divisor ask for, which turns the equation of growths into that of the conjugates. What settles so the empty account,
-- an account of one divisor, a joined account and a negated one.
use Rattle.std.proofs.Common.{◌≡◌, ℕ, ◌+◌, ◌≢◌, List, [], ◌∷◌, ◌++◌, map, ℤ, pos, ◌+ℤ◌, ◌-ℤ◌, sym, refl, ap, ◌∙◌, arith}
use Rattle.std.proofs.lemmas.Int.{ints}
use Rattle.algebra.specs.Ring.{Ops, Laws}
use Rattle.algebra.specs.Field.{Field}
use Rattle.algebra.specs.Polynomials.{Polynomials}
use Rattle.algebra.proofs.PolynomialRing as A
use Rattle.algebra.proofs.Size as Z
use Rattle.mumford.specs.Functions.{Function, functions, conjugate, norm}
use Rattle.mumford.specs.Divisors.{Divisor, Members, neutral, degree, negative, Valid}
use Rattle.mumford.specs.Accounts.{SameSets}
use Rattle.mumford.specs.Curve.{Curve}
use Rattle.mumford.specs.Growth.{growth}
use Rattle.mumford.specs.Settling.{excess, Settles}
use Rattle.mumford.proofs.Functions as U
use Rattle.mumford.proofs.Accounts.{Conjugation, sets_empty, sets-one, sets-on, sets-joined, sets-negative}
use Rattle.mumford.proofs.Members.{all_members, members_closed, members_ideal, member_conjugate, conjugate_member}
use Rattle.mumford.proofs.Norm as N
use Rattle.mumford.proofs.Growth as G
use Rattle.mumford.proofs.Degrees.{degree_unit, degree-norm-mul}

-- deg u1 + … + deg uk
abbrev pub total : {P : Type 0} → (P → ℕ) → List (Divisor P) → ℕ
total size [] = 0
total size (E ∷ A) = degree size E.u + total size A

module _ {K : Type 0} {o : Ops K} (F : Field o) {P : Type 0} {p : Ops P} (H : Polynomials o p) {f V : P} (curve : Curve H f V) where
  open p use {neg, nil, unit}
  open H use {size}

  abbrev L : Laws p
  L = A.polynomial_laws F H

  abbrev ring : Ops (Function P)
  ring = functions p f

  abbrev ring_laws : Laws ring
  ring_laws = U.function_laws L f

  -- the degree of the norm
  abbrev δ : Function P → ℕ
  δ g = degree size (norm p f g)

  abbrev γ : Function P → ℤ
  γ g = growth p size f V g

  pub record Settled (E : Divisor P) (account : List (Divisor P)) : Type 0 where
    pub settles : Settles p size f V E account
    pub degrees : δ settles.g + total size account ≡ δ settles.h + degree size E.u

  pub one_some : ring.unit ≢ ring.nil
  one_some e = Z.unit_some F H (ap (λ g. g.0) e)

  -- by g = h = 1
  settled_by_one : {E : Divisor P} {A : List (Divisor P)} → SameSets ring (Members p) ring.unit ring.unit E A
      → excess A ≡ E.n -ℤ pos 1 → total size A ≡ degree size E.u
      → Settled E A
  settled_by_one sets excesses degrees =
      record {
        settles =
            record {
              g = ring.unit;
              h = ring.unit;
              g_some = one_some;
              h_some = one_some;
              sets = sets;
              growths = ap (λ z. z +ℤ γ ring.unit) excesses;
            };
        degrees = ap (λ n. δ ring.unit + n) degrees;
      }

  -- The neutral divisor settles the empty account.
  pub settled_neutral : Settled (neutral p) []
  settled_neutral =
      settled_by_one (sets_empty ring_laws (Members p) (neutral p) (all_members L nil refl)) refl (sym (degree_unit F H))

  -- A valid divisor settles the account that it makes alone.
  pub settled_alone : {E : Divisor P} → Valid H f E → Settled E (E ∷ [])
  settled_alone {E} valid =
      settled_by_one (sets-one ring_laws (Members p) E (members_ideal L valid.represents)) (omega (arith, ints)) (omega arith)

  -- Where T settles E alone, it settles what E settles.
  pub settled_on : {E T : Divisor P} {A : List (Divisor P)} → Settled E A → Settled T (E ∷ []) → Settled T A
  settled_on {E} {T} {A} s t =
      record {
        settles =
            record {
              g = ring.mul S.g S'.g;
              h = ring.mul S.h S'.h;
              g_some = N.product_some F H curve S.g S'.g S.g_some S'.g_some;
              h_some = N.product_some F H curve S.h S'.h S.h_some S'.h_some;
              sets = sets-on ring_laws (Members p) (members_closed L f T.u T.v) S.sets S'.sets;
              growths =
                  omega (
                    arith,
                    ints,
                    S.growths,
                    S'.growths,
                    G.growth-mul F H curve S.g S'.g S.g_some S'.g_some,
                    G.growth-mul F H curve S.h S'.h S.h_some S'.h_some,
                  );
            };
        degrees =
            omega (
              arith,
              s.degrees,
              t.degrees,
              degree-norm-mul F H curve S.g S'.g S.g_some S'.g_some,
              degree-norm-mul F H curve S.h S'.h S.h_some S'.h_some,
            );
      }
    where
      open s use {settles as S}
      open t use {settles as S'}

  -- What the parts of an account come to when it is joined.
  excess_++ : (A B : List (Divisor P)) → excess (A ++ B) ≡ excess A +ℤ excess B
  excess_++ [] B = omega (arith, ints)
  excess_++ (E ∷ A) B = omega (arith, ints, excess_++ A B)

  total_++ : (A B : List (Divisor P)) → total size (A ++ B) ≡ total size A + total size B
  total_++ [] B = omega arith
  total_++ (E ∷ A) B = omega (arith, total_++ A B)

  -- products of three functions
  module _ (k l m : Function P) (sk : k ≢ ring.nil) (sl : l ≢ ring.nil) (sm : m ≢ ring.nil) where
    abbrev three : Function P
    three = ring.mul (ring.mul k l) m

    three_some : three ≢ ring.nil
    three_some = N.product_some F H curve (ring.mul k l) m (N.product_some F H curve k l sk sl) sm

    three-growth : γ three ≡ γ k +ℤ γ l +ℤ γ m
    three-growth =
        G.growth-mul F H curve (ring.mul k l) m (N.product_some F H curve k l sk sl) sm
        ∙ ap (λ x. x +ℤ γ m) (G.growth-mul F H curve k l sk sl)

    three-degree : δ three ≡ δ k + δ l + δ m
    three-degree =
        degree-norm-mul F H curve (ring.mul k l) m (N.product_some F H curve k l sk sl) sm
        ∙ ap (λ n. n + δ m) (degree-norm-mul F H curve k l sk sl)

  -- Where T settles D and E together, it settles an account of D joined to one of E.
  pub settled_joined : {D E T : Divisor P} {A B : List (Divisor P)} → Settled D A → Settled E B → Settled T (D ∷ E ∷ [])
      → Settled T (A ++ B)
  settled_joined {D} {E} {T} {A} {B} a b c =
      record {
        settles =
            record {
              g = three S1.g S2.g S0.g S1.g_some S2.g_some S0.g_some;
              h = three S1.h S2.h S0.h S1.h_some S2.h_some S0.h_some;
              g_some = three_some S1.g S2.g S0.g S1.g_some S2.g_some S0.g_some;
              h_some = three_some S1.h S2.h S0.h S1.h_some S2.h_some S0.h_some;
              sets = sets-joined ring_laws (Members p) (members_closed L f T.u T.v) S1.sets S2.sets S0.sets;
              growths =
                  omega (
                    arith,
                    ints,
                    excess_++ A B,
                    S1.growths,
                    S2.growths,
                    S0.growths,
                    three-growth S1.g S2.g S0.g S1.g_some S2.g_some S0.g_some,
                    three-growth S1.h S2.h S0.h S1.h_some S2.h_some S0.h_some,
                  );
            };
        degrees =
            omega (
              arith,
              total_++ A B,
              a.degrees,
              b.degrees,
              c.degrees,
              three-degree S1.g S2.g S0.g S1.g_some S2.g_some S0.g_some,
              three-degree S1.h S2.h S0.h S1.h_some S2.h_some S0.h_some,
            );
      }
    where
      open a use {settles as S1}
      open b use {settles as S2}
      open c use {settles as S0}

  -- The negative: all is conjugated.
  abbrev opposite : Divisor P → Divisor P
  opposite = negative p size

  conjugation : Conjugation ring (Members p) (conjugate p) opposite
  conjugation =
      record {
        bar_nil = U.conjugate_nil L f;
        bar_add = U.conjugate-add L f;
        bar_mul = U.conjugate-mul L f;
        bar_bar = U.conjugate-conjugate L f;
        there_to = λ E. member_conjugate L E.u E.v;
        back_to = λ E. conjugate_member L E.u E.v;
      }

  total-opposite : (A : List (Divisor P)) → total size (map opposite A) ≡ total size A
  total-opposite [] = refl
  total-opposite (E ∷ A) = ap (λ n. degree size E.u + n) (total-opposite A)

  -- (2 − deg u − n − 1) + (n − 1) = −deg u
  excess-opposite : (A : List (Divisor P)) → excess (map opposite A) +ℤ excess A +ℤ pos (total size A) ≡ pos 0
  excess-opposite [] = refl
  excess-opposite (E ∷ A) = omega (arith, ints, excess-opposite A)

  pub settled_negative : {E : Divisor P} {A : List (Divisor P)} → Settled E A → Settled (opposite E) (map opposite A)
  settled_negative {E} {A} s =
      record {
        settles =
            record {
              g = conjugate p g;
              h = conjugate p h;
              g_some = G.conjugate_some F H curve g g_some;
              h_some = G.conjugate_some F H curve h h_some;
              sets = sets-negative ring_laws conjugation (members_closed L f E.u (neg E.v)) sets;
              growths =
                  omega (
                    arith,
                    ints,
                    growths,
                    excess-opposite A,
                    G.growth-conjugate F H curve g g_some,
                    G.growth-conjugate F H curve h h_some,
                    s.degrees,
                  );
            };
        degrees =
            omega (
              arith,
              s.degrees,
              total-opposite A,
              ap (degree size) (U.norm-conjugate L f g),
              ap (degree size) (U.norm-conjugate L f h),
            );
      }
    where
      open s.settles use {g, h, g_some, h_some, sets, growths}
