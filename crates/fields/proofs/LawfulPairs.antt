-- Pairs over a lawful field with r no square are a lawful field: the codes stand for the elements a + b·√r.
use Rattle.std.proofs.Common.{◌≡◌, ℕ, ◌+◌, ◌*◌, ◌/◌, ◌%◌, ◌<◌, ◌≤◌, Bool, true, false, cond, ltb, leb, ◌≢◌, Ok, Err, Result, sym, refl, ap, ◌∙◌, subst, ap₂, mod-lt, mod-eq_of_lt, div-lt_iff_lt-mul, mul-le-mul, mul-zero, zero-add, mul_comm, arith}
use native.Mathlib.Nat.{div-eq_of_lt, mod-add-div, add-mul-mod_self_left, add-mul-div_left, zero-mod, zero-div}
use Rattle.std.proofs.lemmas.Nat.{mul-add-lt}
use Rattle.std.proofs.lemmas.Bool.{le-leb, lt-ltb}
use Rattle.algebra.specs.Ring.{Ops}
use Rattle.algebra.specs.Quadratic.{quadratic, norm}
use Rattle.algebra.proofs.Elementary as E
use Rattle.algebra.proofs.Quadratic.{both, quadratic_laws, norm_some, quadratic-inverse}
use Rattle.fields.specs.Arithmetic.{Arithmetic}
use Rattle.fields.specs.Lawful.{Lawful}
use Rattle.fields.specs.Pairs.{join, pairs, square_below, pairs_answer, Root, RootTold}
use Rattle.fields.specs.declared.refusal.FieldRefusal.{FieldRefusal}
use Rattle.fields.specs.declared.refusal.FieldRefusal.TheVariants.{TooManyElements, NotACode, Square}
use Rattle.fields.proofs.Codes.{Code, code_path, codes, codes_laws, field, zero-code, one_code}
use Rattle.fields.proofs.Squares.{found_root, no_root}
use Rattle.fields.proofs.Represented.{Represented, represented_lawful}
use Rattle.fields.proofs.Among.{only_code, only_outside, among-codes, among_outside_left, among_outside_right}

-- Two digits below q.
pub digits_below : (q x y : ℕ) → x < q → y < q → x + q * y < q * q
digits_below q x y hx hy = omega (arith, mul-add-lt y q x q hy hx, mul_comm y q)

low_digit : (q x y : ℕ) → x < q → (x + q * y) % q ≡ x
low_digit q x y h = add-mul-mod_self_left x q y ∙ mod-eq_of_lt h

high_digit : (q x y : ℕ) → x < q → (x + q * y) / q ≡ y
high_digit q x y h = add-mul-div_left x y (omega arith) ∙ ap (λ t. t + y) (div-eq_of_lt h) ∙ zero-add y

module _ (K : Arithmetic) (L : Lawful K) (r : ℕ) (code_r : r < K.size) where
  abbrev q : ℕ
  q = K.size

  abbrev Pair : Type 0
  Pair = Code q × Code q

  root : Code q
  root = (r, code_r)

  abbrev ring : Ops Pair
  ring = quadratic (codes K L) root

  some : 0 < q
  some = zero-code K L

  low : (a : ℕ) → a % q < q
  low a = mod-lt a some

  high : (a : ℕ) → a < q * q → a / q < q
  high a h = (div-lt_iff_lt-mul some).1 h

  element : (a : ℕ) → a < q * q → Pair
  element a h = ((a % q, low a), (a / q, high a h))

  code : Pair → ℕ
  code x = x.0.0 + q * x.1.0

  code_below : (x : Pair) → code x < q * q
  unfolding code
  code_below x = digits_below q x.0.0 x.1.0 x.0.1 x.1.1

  code_element : (a : ℕ) (h : a < q * q) → code (element a h) ≡ a
  unfolding code element
  code_element a h = mod-add-div a q

  element_code : (x : Pair) (h : code x < q * q) → element (code x) h ≡ x
  unfolding code element
  element_code x h = both (code_path (low_digit q x.0.0 x.1.0 x.0.1)) (code_path (high_digit q x.0.0 x.1.0 x.0.1))

  -- what two codes below are joined to
  joined : (x y : Code q) → join q x.0 y.0 ≡ code (x, y)
  unfolding code
  joined x y = among-codes q x.0 y.0 (x.0 + q * y.0) x.1 y.1

  -- the inverse, as an element
  over : (a : ℕ) → a < q * q → Pair
  over a h =
      let n = (field K L).inverse (norm (codes K L) root (element a h)) in
      ((codes K L).mul (element a h).0 n, (codes K L).mul ((codes K L).neg (element a h).1) n)

  over_is : (a : ℕ) (h : a < q * q) → (pairs K q r).inverse a ≡ code (over a h)
  unfolding element code over codes field root
  over_is a h = only_code (q * q) a _ h ∙ joined (over a h).0 (over a h).1

  element_over : (a : ℕ) (h : a < q * q) (c : ℕ) (k : c < q * q) → c ≡ code (over a h) → element c k ≡ over a h
  element_over a h c k e =
      let P : ℕ → Type 0 = λ c. (k : c < q * q) → element c k ≡ over a h in
      subst P (sym e) (element_code (over a h)) k

  code_zero : code ring.nil ≡ 0
  unfolding code codes
  code_zero = omega (arith, mul-zero q)

  zero-below : 0 < q * q
  zero-below = omega (arith, digits_below q 0 0 some some)

  element_zero : element 0 zero-below ≡ ring.nil
  unfolding element codes
  element_zero = both (code_path (zero-mod q)) (code_path (zero-div q))

  over_zero : over 0 zero-below ≡ ring.nil
  unfolding over
  over_zero =
      let n = (field K L).inverse (norm (codes K L) root (element 0 zero-below)) in
      both
      (ap (λ (x : Pair). (codes K L).mul x.0 n) element_zero ∙ E.nil_mul (codes K L) (codes_laws K L) n)
      (ap (λ (x : Pair). (codes K L).mul ((codes K L).neg x.1) n) element_zero
      ∙ ap (λ t. (codes K L).mul t n) (E.neg_nil (codes K L) (codes_laws K L))
      ∙ E.nil_mul (codes K L) (codes_laws K L) n)

  module _ (no_root : (x : ℕ) → ¬ Root K r x) where
    no_square : (x : Code q) → (codes K L).mul x x ≢ root
    unfolding codes root
    no_square x e = no_root x.0 (x.1, ap (λ (c : Code q). c.0) e)

    over-inverse : (a : ℕ) (h : a < q * q) → element a h ≢ ring.nil → ring.mul (element a h) (over a h) ≡ ring.unit
    unfolding over
    over-inverse a h other =
        let x = element a h in
        let n = norm (codes K L) root x in
        quadratic-inverse (field K L) root x ((field K L).inverse n) ((field K L).inverse_ok n (norm_some (field K L) root no_square x other))

    represented : Represented (pairs K q r) ring
    unfolding element code codes root
    represented =
        record {
          element = element;
          code = code;
          code_below = code_below;
          code_element = code_element;
          element_code = element_code;
          code_zero = code_zero;
          code_one = omega (arith, mul-zero q);
          plus_is = λ a b h k. among-codes (q * q) a b _ h k ∙ joined (ring.add (element a h) (element b k)).0 (ring.add (element a h) (element b k)).1;
          times_is = λ a b h k. among-codes (q * q) a b _ h k ∙ joined (ring.mul (element a h) (element b k)).0 (ring.mul (element a h) (element b k)).1;
          minus_is = λ a h. only_code (q * q) a _ h ∙ joined (ring.neg (element a h)).0 (ring.neg (element a h)).1;
          plus_outside_left = λ a b. among_outside_left (q * q) a b _;
          plus_outside_right = λ a b. among_outside_right (q * q) a b _;
          times_outside_left = λ a b. among_outside_left (q * q) a b _;
          times_outside_right = λ a b. among_outside_right (q * q) a b _;
          minus_outside = λ a. only_outside (q * q) a _;
          inverse_outside = λ a. only_outside (q * q) a _;
          inverse_of_zero = over_is 0 zero-below ∙ ap code over_zero ∙ code_zero;
          inverse_code = λ a h. subst (λ c. c < q * q) (sym (over_is a h)) (code_below (over a h));
          inverse_is = λ a h k other. ap (ring.mul (element a h)) (element_over a h ((pairs K q r).inverse a) k (over_is a h)) ∙ over-inverse a h other;
        }

    two_is : 1 < q * q → (pairs K q r).plus 1 1 ≡ K.plus 1 1 + q * K.plus 0 0
    two_is h =
        let sum_code = L.sums.answers_code in
        among-codes (q * q) 1 1 _ h h
        ∙ among-codes q (K.plus (1 % q) (1 % q)) (K.plus (1 / q) (1 / q)) _ (sum_code (1 % q) (1 % q)) (sum_code (1 / q) (1 / q))
        ∙ ap₂ (λ u v. K.plus u u + q * K.plus v v) (mod-eq_of_lt (one_code K L)) (div-eq_of_lt (one_code K L))

    pub pairs_lawful : q ≤ 255 → Lawful (pairs K q r)
    pairs_lawful few =
        let many : 3 ≤ q = L.least_size in
        let least : 9 ≤ q * q = mul-le-mul many many in
        let most : q * q ≤ 65025 = mul-le-mul few few in
        represented_lawful (pairs K q r) (quadratic_laws (codes K L) (codes_laws K L) root) represented (omega arith) (omega arith)
        (λ e. L.two_not_zero (let z : K.plus 1 1 + q * K.plus 0 0 ≡ 0 = sym (two_is (omega arith)) ∙ e in omega arith))

-- What making pairs answers, and what that tells.
module _ (K : Arithmetic) (r : ℕ) where
  abbrev judged : Bool → Bool → Bool → Result (Unit {0}) FieldRefusal
  judged few inside square = cond few (cond inside (cond square (Err Square) (Ok tt)) (Err NotACode)) (Err TooManyElements)

  pub pairs-judged : (square : Bool) → K.size ≤ 255 → r < K.size → square_below K r K.size ≡ square → pairs_answer K r ≡ judged true true square
  pairs-judged square few inside e =
      λ i. judged (le-leb K.size 255 few i) (lt-ltb r K.size inside i) (e i)

  told : (few inside square : Bool) → square_below K r K.size ≡ square → RootTold K r (judged few inside square)
  told false inside square e = tt
  told true false square e = tt
  told true true true e = let (x, l, is) = found_root K r K.size e in (x, (l, is))
  told true true false e = λ x is. no_root K r K.size e x is.0 is.1

  pub root_told : RootTold K r (pairs_answer K r)
  root_told = told (leb K.size 255) (ltb r K.size) (square_below K r K.size) refl

-- Where pairs are made over a lawful field, they are a lawful field.
pub made_lawful : (K : Arithmetic) (q r : ℕ) → q ≡ K.size → K.size ≤ 255 → r < K.size → square_below K r K.size ≡ false
    → Lawful K
    → Lawful (pairs K q r)
made_lawful K q r e few code none L =
    subst (λ s. Lawful (pairs K s r)) (sym e)
    (pairs_lawful K L r code (λ x is. no_root K r K.size none x is.0 is.1) few)
