-- A loop that sends calls: what holds after some of them, and how it goes on from call to call.
use Rattle.std.proofs.Common.{◌≡◌, ℕ, ◌+◌, ◌<◌, ◌≤◌, List, ◌∷◌, ◌++◌, map, length, get_or, take, drop, set, Result, sym, refl, ap, ◌∙◌, append_assoc, append-nil}
use lib.Seq.{map-set_same}
use Rattle.std.proofs.lemmas.List.{length-map, drop-map, map-set, take_more_set, take_all, drop_all, drop_more}
use Rattle.fields.specs.declared.field.Field.{Ghosts}
use Rattle.methods.specs.declared.divisor.Divisor.{Divisor}
use Rattle.methods.specs.declared.draft.Model.{Model}
use Rattle.methods.specs.Methods.{Law}
use Rattle.calculator.specs.declared.call.Call.{Call}
use Rattle.calculator.specs.declared.call.CallRefusal.{CallRefusal}
use Rattle.calculator.specs.declared.calculator.Calculator.{Calculator}
use Rattle.calculator.specs.Calls.{Answer, given, posted, said, next, reply, nexts, replies}
use Rattle.calculator.specs.Calculators.{held, on, Sound, gives, Left, LeftAll}

-- the first of what is left
left_map : {X Y : Type 0} (f : X → Y) (xs : List X) (i : ℕ) (d : X) → i < length xs
    → drop i (map f xs) ≡ f (get_or xs i d) ∷ drop (i + 1) (map f xs)
left_map f xs i d lt = rw (drop-map f i xs, drop-map f (i + 1) xs, drop_more xs i d lt) refl

-- Over a row of elements, each of which has a call and the place of its answer, after i of them: the calls stand, and those
-- that are left lead to the end of them all.
pub record Halfway {F M X : Type 0} (field : Ghosts F) (law : Law) (call : X → Call) (answer : X → Answer) (start : List X) (i : ℕ)
    (old new : Calculator F M) (xs : List X) : Type 0 where
  pub calls : map call xs ≡ map call start
  pub model : new.model ≡ old.model
  pub answered : Sound field law old
      → take i (map answer xs) ++ on field old replies (held new) (drop i (map call start)) ≡ on field old replies (held old) (map call start)
  pub registers : Sound field law old → on field old nexts (held new) (drop i (map call start)) ≡ on field old nexts (held old) (map call start)

module _ {F M : Type 0} {field : Ghosts F} {law : Law} {old : Calculator F M} where
  -- Soundness speaks of the model alone.
  sound_kept : {new : Calculator F M} → new.model ≡ old.model → Sound field law old → Sound field law new
  sound_kept same sound =
      record { lawful = rw same sound.lawful; accepted = rw same sound.accepted; method = sound.method }

  module _ {X : Type 0} {call : X → Call} {answer : X → Answer} {start : List X} where
    pub one_more : {i : ℕ} {mid new : Calculator F M} {xs : List X} (d x : X) → i < length xs
        → Halfway field law call answer start i old mid xs → call x ≡ call (get_or xs i d)
        → (Sound field law mid → answer x ≡ said (call (get_or xs i d)) (gives field mid (call (get_or xs i d))))
        → Left field law (call (get_or xs i d)) mid new → Halfway field law call answer start (i + 1) old new (set xs i x)
    one_more {i} {mid} {new} {xs} d x lt so_far same said-so left =
        let this : Call = call (get_or xs i d) in
        let gives_on : Model F → Result Divisor CallRefusal = λ m. given (field.meaning m.field) m.curve (held mid) this in
        let rest : drop i (map call start) ≡ this ∷ drop (i + 1) (map call start) = rw (← so_far.calls) (left_map call xs i d lt) in
        let answer_is : Sound field law old → answer x ≡ on field old reply (held mid) this =
        λ sound. said-so (sound_kept so_far.model sound) ∙ ap (λ m. said this (gives_on m)) so_far.model in
        let held_is : Sound field law old → held new ≡ on field old next (held mid) this =
        λ sound. left.registers (sound_kept so_far.model sound) ∙ ap (λ m. posted (held mid) this (gives_on m)) so_far.model in
        record {
          calls = map-set_same call xs i x d same ∙ so_far.calls;
          model = left.model ∙ so_far.model;
          answered = λ sound.
              let tail : answer x ∷ on field old replies (held new) (drop (i + 1) (map call start)) ≡ on field old replies (held mid) (drop i (map call start)) = rw (answer_is sound, held_is sound, rest) in
              rw (map-set answer xs i x, take_more_set (map answer xs) i (answer x) (rw length-map lt), append_assoc)
              (ap (λ zs. take i (map answer xs) ++ zs) tail ∙ so_far.answered sound);
          registers = λ sound. rw (held_is sound) (sym (ap (on field old nexts (held mid)) rest) ∙ so_far.registers sound);
        }

    pub all_done : {i : ℕ} {new : Calculator F M} {xs : List X} → length xs ≤ i → Halfway field law call answer start i old new xs
        → LeftAll field law (map call start) old new (map answer xs)
    all_done {i} {new} {xs} le so_far =
        let long : length (map answer xs) ≤ i = rw length-map le in
        let short : length (map call start) ≤ i = rw (← so_far.calls, length-map) le in
        record {
          model = so_far.model;
          answered = λ sound. rw (take_all i (map answer xs) long, drop_all i (map call start) short, append-nil) at (so_far.answered sound);
          registers = λ sound. rw (drop_all i (map call start) short) at (so_far.registers sound);
        }
