-- Divisors and their polynomials: a divisor of the right shape is known by u, v and n, and monic u and smaller v of any such
-- degrees are those of a divisor.
use Rattle.std.proofs.Common.{◌≡◌, ℕ, zero, suc, ◌+◌, ◌-◌, ◌<◌, ◌≤◌, true, ◌&&◌, eqb, ltb, leb, [], ◌∷◌, length, get_or, take, sym, refl, ap, ◌∙◌, ap₂, arith, length-take, get_or-take}
use native.Mathlib.Decide.{dec_lt}
use lib.ListN.{get_or-eq_default}
use Rattle.std.proofs.lemmas.Bool.{and_from, lt-ltb, le-leb, eq-eqb}
use Rattle.std.proofs.lemmas.Bool.Decides.{nat_tests}
use Rattle.fields.specs.Arithmetic.{Arithmetic}
use Rattle.fields.specs.Lawful.{Lawful}
use Rattle.fields.proofs.Codes.{zero-code, one_code}
use Rattle.polynomials.specs.Polynomial.{Polynomial, leading}
use Rattle.polynomials.specs.Proper.{Proper}
use Rattle.polynomials.specs.Ten.{value}
use Rattle.polynomials.proofs.Coefficients.{Codes, cons_codes}
use Rattle.polynomials.proofs.Tens.{code_inside, value-at, value_proper}
use Rattle.methods.specs.declared.divisor.Linear.{Linear}
use Rattle.methods.specs.declared.divisor.Divisor.{Divisor}
use Rattle.methods.specs.Divisors.{monic_codes, u_of, v_of, linear, divisor_of, unused, shaped, linear_codes}
use Rattle.methods.proofs.Values.{value_within, value_same, value_is, monic-value-length, monic-value-leading}

-- Coefficients that are not used are 0, and of a shorter list none is used.

unused-short : (d : ℕ) (p : Polynomial) → length p ≤ d → unused d (linear p) ≡ true
unused-short zero p l =
    and_from (eqb (get_or p 1 0) 0) (eqb (get_or p 0 0) 0) (eq-eqb (get_or p 1 0) 0 (get_or-eq_default p 0 (omega arith)))
    (eq-eqb (get_or p 0 0) 0 (get_or-eq_default p 0 l))
unused-short (suc zero) p l = eq-eqb (get_or p 1 0) 0 (get_or-eq_default p 0 l)
unused-short (suc (suc d)) p l = refl

pub divisor_of-shaped : (u v : Polynomial) (n : ℕ) → length u ≤ 3 → length v < length u → n + length u ≤ 3 → shaped (divisor_of u v n) ≡ true
unfolding divisor_of
divisor_of-shaped u v n most smaller range =
    let d = length u - 1 in
    and_from (leb d 2 && leb n (2 - d) && unused d (linear (take d u))) (unused d (linear v))
    (and_from (leb d 2 && leb n (2 - d)) (unused d (linear (take d u)))
    (and_from (leb d 2) (leb n (2 - d)) (le-leb d 2 (omega arith)) (le-leb n (2 - d) (omega arith)))
    (unused-short d (take d u) (omega (arith, length-take d u))))
    (unused-short d v (omega arith))

module _ (K : Arithmetic) (L : Lawful K) where
  codes-linear : (p : Polynomial) → ((k : ℕ) → get_or p k 0 < K.size) → linear_codes K (linear p) ≡ true
  codes-linear p h =
      and_from (ltb (get_or p 1 0) K.size) (ltb (get_or p 0 0) K.size) (lt-ltb (get_or p 1 0) K.size (h 1))
      (lt-ltb (get_or p 0 0) K.size (h 0))

  take-codes : (d : ℕ) (p : Polynomial) → ((k : ℕ) → get_or p k 0 < K.size) → (k : ℕ) → get_or (take d p) k 0 < K.size
  take-codes d p h k =
      elim (dec_lt k d) [
        | yes l ↦ omega (arith, get_or-take d p k 0 l, h k)
        | no l ↦ omega (arith, get_or-eq_default (take d p) 0 {n = k} (omega (arith, length-take d p)), zero-code K L)
      ]

  pub divisor_of-codes : {u v : Polynomial} (n : ℕ) → Proper K u → Proper K v
      → (linear_codes K (divisor_of u v n).u && linear_codes K (divisor_of u v n).v) ≡ true
  unfolding divisor_of
  divisor_of-codes {u} {v} n hu hv =
      let d = length u - 1 in
      and_from (linear_codes K (linear (take d u))) (linear_codes K (linear v))
      (codes-linear (take d u) (take-codes d u hu.codes)) (codes-linear v hv.codes)

  pub record Coded (l : Linear) : Type 0 where
    pub code_1 : l.x1 < K.size
    pub code_0 : l.x0 < K.size

  -- a divisor of the right shape with codes for coefficients
  pub record Shaped (D : Divisor) : Type 0 where
    pub degree_most : D.degree ≤ 2
    pub n_most : D.n + D.degree ≤ 2
    pub u_unused : unused D.degree D.u ≡ true
    pub v_unused : unused D.degree D.v ≡ true
    pub u_codes : Coded D.u
    pub v_codes : Coded D.v

  pub shaped_tells : (D : Divisor) → shaped D ≡ true → (linear_codes K D.u && linear_codes K D.v) ≡ true → Shaped D
  shaped_tells D s c =
      record {
        degree_most = grind (arith, nat_tests);
        n_most = grind (arith, nat_tests);
        u_unused = grind (arith, nat_tests);
        v_unused = grind (arith, nat_tests);
        u_codes = record { code_1 = grind (arith, nat_tests); code_0 = grind (arith, nat_tests) };
        v_codes = record { code_1 = grind (arith, nat_tests); code_0 = grind (arith, nat_tests) };
      }

  ended : Codes K L (1 ∷ [])
  ended = cons_codes K L 1 [] (one_code K L) (λ k. zero-code K L)

  -- u is monic of the divisor's degree, and v smaller.

  monic_codes-leading : (d : ℕ) (l : Linear) → leading (value K (monic_codes d l)) ≡ 1
  monic_codes-leading zero l = monic-value-leading K L (1 ∷ []) 0 refl refl
  monic_codes-leading (suc zero) l = monic-value-leading K L (l.x0 ∷ 1 ∷ []) 1 refl refl
  monic_codes-leading (suc (suc d)) l = monic-value-leading K L (l.x0 ∷ l.x1 ∷ 1 ∷ []) 2 refl refl

  monic_codes-length : (d : ℕ) (l : Linear) → d ≤ 2 → length (value K (monic_codes d l)) ≡ suc d
  monic_codes-length zero l h = monic-value-length K L (1 ∷ []) 0 refl refl
  monic_codes-length (suc zero) l h = monic-value-length K L (l.x0 ∷ 1 ∷ []) 1 refl refl
  monic_codes-length (suc (suc d)) l h = omega (arith, monic-value-length K L (l.x0 ∷ l.x1 ∷ 1 ∷ []) 2 refl refl)

  nothing_used : (d : ℕ) (l : Linear) → unused d l ≡ true → (k : ℕ) → d ≤ k → get_or (l.x0 ∷ l.x1 ∷ []) k 0 ≡ 0
  nothing_used zero l e zero m = grind (arith, nat_tests)
  nothing_used zero l e (suc zero) m = grind (arith, nat_tests)
  nothing_used zero l e (suc (suc k)) m = refl
  nothing_used (suc zero) l e zero m = absurd (omega arith)
  nothing_used (suc zero) l e (suc zero) m = grind (arith, nat_tests)
  nothing_used (suc zero) l e (suc (suc k)) m = refl
  nothing_used (suc (suc d)) l e zero m = absurd (omega arith)
  nothing_used (suc (suc d)) l e (suc zero) m = absurd (omega arith)
  nothing_used (suc (suc d)) l e (suc (suc k)) m = refl

  pub u_proper : (D : Divisor) → Proper K (u_of K D)
  unfolding u_of
  u_proper D = value_proper K L (monic_codes D.degree D.u)

  pub v_proper : (D : Divisor) → Proper K (v_of K D)
  unfolding v_of
  v_proper D = value_proper K L (D.v.x0 ∷ D.v.x1 ∷ [])

  pub u-leading : (D : Divisor) → leading (u_of K D) ≡ 1
  unfolding u_of
  u-leading D = monic_codes-leading D.degree D.u

  pub u-length : (D : Divisor) → Shaped D → length (u_of K D) ≡ suc D.degree
  unfolding u_of
  u-length D h = monic_codes-length D.degree D.u h.degree_most

  pub v-length : (D : Divisor) → Shaped D → length (v_of K D) ≤ D.degree
  unfolding v_of
  v-length D h =
      value_within K (D.v.x0 ∷ D.v.x1 ∷ []) D.degree (nothing_used D.degree D.v h.v_unused)

  -- The divisor of u, v and n has these.

  monic_back : (u : Polynomial) → leading u ≡ 1 → 0 < length u → length u ≤ 3
      → monic_codes (length u - 1) (linear (take (length u - 1) u)) ≡ u
  monic_back [] e some most = absurd (omega arith)
  monic_back (a ∷ []) e some most = ap (λ x. x ∷ []) (sym e)
  monic_back (a ∷ b ∷ []) e some most = ap (λ x. a ∷ x ∷ []) (sym e)
  monic_back (a ∷ b ∷ c ∷ []) e some most = ap (λ x. a ∷ b ∷ x ∷ []) (sym e)
  monic_back (a ∷ b ∷ c ∷ d ∷ u) e some most = absurd (omega arith)

  pub u-divisor_of : {u : Polynomial} (v : Polynomial) (n : ℕ) → Proper K u → leading u ≡ 1 → 0 < length u → length u ≤ 3
      → u_of K (divisor_of u v n) ≡ u
  unfolding u_of divisor_of
  u-divisor_of {u} v n h e some most = ap (value K) (monic_back u e some most) ∙ value_is K h

  two_back : (v : Polynomial) → length v ≤ 2 → (k : ℕ) → get_or (get_or v 0 0 ∷ get_or v 1 0 ∷ []) k 0 ≡ get_or v k 0
  two_back v most zero = refl
  two_back v most (suc zero) = refl
  two_back v most (suc (suc k)) = sym (get_or-eq_default v 0 (omega arith))

  pub v-divisor_of : (u : Polynomial) {v : Polynomial} (n : ℕ) → Proper K v → length v ≤ 2 → v_of K (divisor_of u v n) ≡ v
  unfolding v_of divisor_of
  v-divisor_of u {v} n h most = value_same K (get_or v 0 0 ∷ get_or v 1 0 ∷ []) v (two_back v most) ∙ value_is K h

  -- A divisor of the right shape is that of its polynomials.

  monic_codes_proper : (d : ℕ) (l : Linear) → Coded l → Proper K (monic_codes d l)
  monic_codes_proper zero l c = record { codes = ended; trimmed = refl }
  monic_codes_proper (suc zero) l c =
      record { codes = cons_codes K L l.x0 (1 ∷ []) c.code_0 ended; trimmed = refl }
  monic_codes_proper (suc (suc d)) l c =
      record {
        codes = cons_codes K L l.x0 (l.x1 ∷ 1 ∷ []) c.code_0 (cons_codes K L l.x1 (1 ∷ []) c.code_1 ended);
        trimmed = refl;
      }

  -- u by its numbers
  pub u_is : (D : Divisor) → Shaped D → u_of K D ≡ monic_codes D.degree D.u
  unfolding u_of
  u_is D h = value_is K (monic_codes_proper D.degree D.u h.u_codes)

  -- the coefficients of v by its numbers
  pub v_at : (D : Divisor) → Shaped D → (k : ℕ) → get_or (v_of K D) k 0 ≡ get_or (D.v.x0 ∷ D.v.x1 ∷ []) k 0
  unfolding v_of
  v_at D h k = value-at K (D.v.x0 ∷ D.v.x1 ∷ []) k ∙ code_inside K (get_or (D.v.x0 ∷ D.v.x1 ∷ []) k 0) (codes k)
    where
      codes : Codes K L (D.v.x0 ∷ D.v.x1 ∷ [])
      codes = cons_codes K L D.v.x0 (D.v.x1 ∷ []) h.v_codes.code_0 (cons_codes K L D.v.x1 [] h.v_codes.code_1 (λ k. zero-code K L))

  u_back : (d : ℕ) (l : Linear) → unused d l ≡ true → linear (take d (monic_codes d l)) ≡ l
  u_back zero l e =
      λ i. record { x1 = sym (nothing_used 0 l e 1 (omega arith)) i; x0 = sym (nothing_used 0 l e 0 (omega arith)) i }
  u_back (suc zero) l e = λ i. record { x1 = sym (nothing_used 1 l e 1 (omega arith)) i; x0 = l.x0 }
  u_back (suc (suc d)) l e = refl

  pub divisor_of-polynomials : (D : Divisor) → Shaped D → divisor_of (u_of K D) (v_of K D) D.n ≡ D
  unfolding divisor_of
  divisor_of-polynomials D h = λ i. record { degree = same-degree i; u = same-u i; v = same-v i; n = D.n }
    where
      same-degree : length (u_of K D) - 1 ≡ D.degree
      same-degree = omega (arith, u-length D h)

      same-u : linear (take (length (u_of K D) - 1) (u_of K D)) ≡ D.u
      same-u = ap₂ (λ d p. linear (take d p)) same-degree (u_is D h) ∙ u_back D.degree D.u h.u_unused

      same-v : linear (v_of K D) ≡ D.v
      same-v i = record { x1 = v_at D h 1 i; x0 = v_at D h 0 i }
