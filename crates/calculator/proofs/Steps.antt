-- One call: registers that were built with accounts, whichever these are, are built after it with those that it draws up, and it
-- is refused as its arguments, the field and the curve show.
use Rattle.std.proofs.Common.{◌≡◌, ℕ, ◌<◌, true, false, cond, T, ltb, List, [], ◌∷◌, length, get_or, set, Ok, Err, Result, sym, refl, ap, ◌∙◌, inl, inr, arith, ltb→lt, length-set, get_or-set_other, get_or-set_same}
use Rattle.std.proofs.lemmas.Bool.{cases_eq}
use Rattle.fields.specs.Arithmetic.{Arithmetic}
use Rattle.fields.specs.Lawful.{Lawful}
use Rattle.methods.specs.declared.curve.Curve.{Curve}
use Rattle.methods.specs.declared.divisor.Divisor.{Divisor}
use Rattle.methods.specs.declared.divisor.DivisorRefusal.{DivisorRefusal}
use Rattle.methods.specs.Curves.{Accepted}
use Rattle.methods.specs.Divisors.{Valid, neutral, entered}
use Rattle.methods.proofs.Entry.{accepted_valid, added_valid, doubled_valid}
use Rattle.classes.specs.Settling.{Built, built_alone, built_sum, built_double, built_negative}
use Rattle.classes.proofs.Built.{built_valid}
use Rattle.calculator.specs.declared.call.Call.{Call}
use Rattle.calculator.specs.declared.call.Call.TheVariants.{Enter, Add, Double, Negate, Show}
use Rattle.calculator.specs.declared.call.CallRefusal.{CallRefusal}
use Rattle.calculator.specs.declared.call.CallRefusal.TheVariants.{NoSuchRegister}
use Rattle.calculator.specs.Calls.{at, numbered, or_invalid, given, put, posted, nothing, next}
use Rattle.calculator.specs.Accounts.{Account, Sixteen, AllBuilt, admitted, drawn, when, booked}

-- What holds of two rows, place by place, holds after a write to both at one place.
set_both : {X Y : Type 0} (P : X → Y → Type 0) (n : ℕ) (xs : List X) (ys : List Y) (i : ℕ) (x a : X) (y b : Y)
    → length xs ≡ n → length ys ≡ n → P x y → ((k : ℕ) → k < n → P (get_or xs k a) (get_or ys k b))
    → (k : ℕ) → k < n → P (get_or (set xs i x) k a) (get_or (set ys i y) k b)
set_both P n xs ys i x a y b long-x long-y here each k lt =
    elim (cases_eq k i) [
      | inl e ↦
          let p : i < length xs = omega arith in
          let q : i < length ys = omega arith in
          rw (e, get_or-set_same xs i x a p, get_or-set_same ys i y b q) here
      | inr ne ↦ rw (get_or-set_other xs i k x a ne, get_or-set_other ys i k y b ne) (each k lt)
    ]

-- What a call gives, and the account that it draws up: refused alike, or both there, with P between them.
abbrev Match : (Divisor → Account → Type 0) → Result Divisor CallRefusal → Result Account CallRefusal → Type 0
Match P (Ok D) (Ok s) = P D s
Match P (Ok D) (Err e) = ⊥
Match P (Err e) (Ok s) = ⊥
Match P (Err e) (Err e') = e ≡ e'

-- A call that gives a divisor where an account is drawn up is refused where the account is.
refused_alike : (P : Divisor → Account → Type 0) (r : Result Divisor CallRefusal) (s : Result (Unit {0}) CallRefusal) (x : Account)
    → Match P r (when s x) → nothing r ≡ s
refused_alike P (Ok D) (Ok _) x match = refl
refused_alike P (Ok D) (Err e) x match = absurd match
refused_alike P (Err e) (Ok _) x match = absurd match
refused_alike P (Err e) (Err e') x match = ap Err match

module _ (P : Divisor → Account → Type 0) where
  put_both : (rs : List Divisor) (books : List Account) (t : ℕ) (r : Result Divisor CallRefusal) (q : Result Account CallRefusal)
      → Sixteen P rs books → Match P r q → Sixteen P (put rs t r) (put books t q)
  put_both rs books t (Ok D) (Ok s) before match =
      record {
        registers_long = length-set rs t D ∙ before.registers_long;
        accounts_long = length-set books t s ∙ before.accounts_long;
        each = set_both P 16 rs books t D neutral s [] before.registers_long before.accounts_long match before.each;
      }
  put_both rs books t (Ok D) (Err e) before match = absurd match
  put_both rs books t (Err e) (Ok s) before match = absurd match
  put_both rs books t (Err e) (Err e') before match = before

  posted-both : (rs : List Divisor) (books : List Account) (call : Call) (r : Result Divisor CallRefusal) (q : Result Account CallRefusal)
      → Sixteen P rs books → Match P r q → Sixteen P (posted rs call r) (posted books call q)
  posted-both rs books (Enter t D) r q before match = put_both rs books t r q before match
  posted-both rs books (Add t a b) r q before match = put_both rs books t r q before match
  posted-both rs books (Double t a) r q before match = put_both rs books t r q before match
  posted-both rs books (Negate t a) r q before match = put_both rs books t r q before match
  posted-both rs books (Show a) r q before match = before

  -- A number that is no register's refuses both.
  numbered-both : (k : ℕ) (r : Result Divisor CallRefusal) (s : Result (Unit {0}) CallRefusal) (x : Account)
      → (k < 16 → Match P r (when s x)) → Match P (numbered k r) (when (numbered k s) x)
  numbered-both k r s x f =
      elim (ltb k 16) as (λ b. (T b → Match P r (when s x)) → Match P (cond b r (Err NoSuchRegister)) (when (cond b s (Err NoSuchRegister)) x)) [
        | true ↦ λ g. g tt
        | false ↦ λ g. refl
      ] (λ h. f (ltb→lt k 16 h))

module _ (K : Arithmetic) (L : Lawful K) (C : Curve) (accepted : Accepted K C) where
  -- What is entered is built with itself alone.
  entered_matches : (D : Divisor) (r : Result Divisor DivisorRefusal) → entered K C D ≡ r
      → Match (Built K C) (or_invalid r) (when (nothing (or_invalid r)) (D ∷ []))
  entered_matches D (Ok E) e =
      let valid : Valid K C D = accepted_valid K C D E (sym e) in
      let same : E ≡ D = cc in
      rw same (built_alone valid)
  entered_matches D (Err why) e = refl

  module _ (rs : List Divisor) (books : List Account) (before : AllBuilt K C rs books) where
    -- For each kind of call: what it gives is built with the account that it draws up.
    matches : (call : Call) → Match (Built K C) (given K C rs call) (when (admitted K C call) (drawn K books call))
    matches (Enter t D) = numbered-both (Built K C) t _ _ _ (λ _. entered_matches D (entered K C D) refl)
    matches (Add t a b) =
        numbered-both (Built K C) t _ _ _ (λ _. numbered-both (Built K C) a _ _ _ (λ p. numbered-both (Built K C) b _ _ _ (λ q.
        let x = before.each a p in
        let y = before.each b q in
        rw (added_valid K C (at rs a) (at rs b) (built_valid K L C accepted x) (built_valid K L C accepted y)) (built_sum x y))))
    matches (Double t a) =
        numbered-both (Built K C) t _ _ _ (λ _. numbered-both (Built K C) a _ _ _ (λ p.
        let x = before.each a p in
        rw (doubled_valid K C (at rs a) (built_valid K L C accepted x)) (built_double x)))
    matches (Negate t a) = numbered-both (Built K C) t _ _ _ (λ _. numbered-both (Built K C) a _ _ _ (λ p. built_negative (before.each a p)))
    matches (Show a) = numbered-both (Built K C) a _ _ _ (λ p. before.each a p)

    pub step : (call : Call) → AllBuilt K C (next K C rs call) (booked K C books call)
    step call = posted-both (Built K C) rs books call _ _ before (matches call)

    pub step-refused : (call : Call) → nothing (given K C rs call) ≡ admitted K C call
    step-refused call = refused_alike (Built K C) (given K C rs call) (admitted K C call) (drawn K books call) (matches call)
