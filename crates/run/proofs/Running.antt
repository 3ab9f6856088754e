-- The loop of a run: what it still has to write leads to the bytes of the whole sheet.
use Rattle.std.proofs.Common.{◌≡◌, ℕ, ◌+◌, ◌*◌, ◌≤◌, List, [], ◌++◌, length, Some, Ok, Err, Result, sym, ap, ◌∙◌, subst, append-nil, arith, length-append}
use Rattle.run.specs.declared.record.Record.{Record}
use Rattle.run.specs.declared.record.Records.{Records}
use Rattle.run.specs.declared.record.Unreadable.{Unreadable}
use Rattle.run.specs.declared.record.Unreadable.TheVariants.{Short as ShortAt, Unknown as UnknownAt}
use Rattle.run.specs.declared.refusal.Refusal.TheVariants.{Short, Unknown}
use Rattle.run.specs.declared.reply.Reply.{Reply}
use Rattle.run.specs.declared.reply.Reply.TheVariants.{Refused}
use Rattle.run.specs.Buffers.{overwritten}
use Rattle.run.specs.Records.{least_size, end, reading}
use Rattle.run.specs.Meanings.{said_by, unread_reply, NextRecord}
use Rattle.run.specs.Progress.{Progress, Standing, step, reply_bytes}
use Rattle.run.specs.Run.{run_from, run_bytes}
use Rattle.run.specs.Stages.{Obeyed}
use Rattle.run.proofs.Buffers.{overwritten-none, overwritten-more}
use Rattle.run.proofs.Sheets.{reading-none, whole_shorter, short_some, unknown_some, run_end, run_short, run_unknown, run_whole}
use Rattle.run.proofs.Standing.{step_standing}

-- A reply has six bytes at most for each byte of the sheet that it takes.
abbrev pub Fits : List ℕ → Reply → List ℕ → Type 0
Fits rest r after = length (reply_bytes r) + 6 * length after ≤ 6 * length rest

-- A reply takes a run from p, with some bytes of the sheet left, to q, with others.
pub record Turned (p : Progress) (rest : List ℕ) (q : Progress) (r : Reply) (after : List ℕ) : Type 0 where
  pub standing : Standing q
  pub runs : run_from p rest ≡ reply_bytes r ++ run_from q after

-- What comes of the next item that the records of a sheet give.
module _ (s t : Records) (item : Result Record Unreadable) (gives : NextRecord s (Some item) t) where
  given : (x : Result Record Unreadable) → item ≡ x → NextRecord s (Some x) t
  given x is = subst (λ y. NextRecord s (Some y) t) is gives

  pub whole_fits : (x : Record) (r : Reply) → item ≡ Ok x → length (reply_bytes r) ≤ 6 * least_size (said_by x) → Fits s.rest.now r t.rest.now
  whole_fits x r is small = let shorter = whole_shorter s.rest.now (said_by x) t.rest.now (given (Ok x) is) in omega arith

  pub unread_fits : (why : Unreadable) (r : Reply) → item ≡ Err why → r ≡ unread_reply why → Fits s.rest.now r t.rest.now
  unread_fits (ShortAt kind) r is e =
      let h = given (Err (ShortAt kind)) is in
      let some = short_some s.rest.now kind h.0 in
      rw e (omega (arith, ap length h.1))
  unread_fits (UnknownAt kind) r is e =
      let h = given (Err (UnknownAt kind)) is in
      let some = unknown_some s.rest.now kind h.0 in
      rw e (omega (arith, ap length h.1))

  module _ (p : Progress) (stands : Standing p) where
    pub whole_turned : (x : Record) (q : Progress) (r : Reply) → item ≡ Ok x → Obeyed p (said_by x) q r → Turned p s.rest.now q r t.rest.now
    whole_turned x q r is obeyed =
        record {
          standing = subst Standing (sym obeyed.comes_to) (step_standing p (said_by x) stands);
          runs =
              run_whole p s.rest.now (said_by x) t.rest.now (given (Ok x) is)
              ∙ sym (ap (λ y. reply_bytes y ++ run_from q t.rest.now) obeyed.writes
              ∙ ap (λ y. reply_bytes (step p (said_by x)).reply ++ run_from y t.rest.now) obeyed.comes_to);
        }

    last_turned : (r : Reply) → run_from p s.rest.now ≡ reply_bytes r → t.rest.now ≡ [] → Turned p s.rest.now p r t.rest.now
    last_turned r e none =
        record {
          standing = stands;
          runs =
              e ∙ sym (append-nil (reply_bytes r))
              ∙ sym (ap (λ xs. reply_bytes r ++ xs) (ap (run_from p) none ∙ run_end p [] reading-none));
        }

    pub unread_turned : (why : Unreadable) (r : Reply) → item ≡ Err why → r ≡ unread_reply why → Turned p s.rest.now p r t.rest.now
    unread_turned (ShortAt kind) r is e =
        let h = given (Err (ShortAt kind)) is in
        rw e (last_turned (Refused kind Short) (run_short p s.rest.now kind h.0) h.1)
    unread_turned (UnknownAt kind) r is e =
        let h = given (Err (UnknownAt kind)) is in
        rw e (last_turned (Refused kind Unknown) (run_unknown p s.rest.now kind h.0) h.1)

-- A run of a sheet has come to p, with n bytes written into the output and these bytes of the sheet left.
pub record Running (sheet before : List ℕ) (p : Progress) (rest output : List ℕ) (n : ℕ) : Type 0 where
  pub standing : Standing p
  pub count : n + length (run_from p rest) ≡ length (run_bytes sheet)
  pub bytes : overwritten output n (run_from p rest) ≡ overwritten before 0 (run_bytes sheet)

module _ (sheet before : List ℕ) (p : Progress) (rest output : List ℕ) (n : ℕ) (running : Running sheet before p rest output n) where
  pub running_on : (q : Progress) (r : Reply) (after : List ℕ) (m : ℕ) (output' : List ℕ)
      → Turned p rest q r after → n + length (reply_bytes r) ≤ length output
      → m ≡ n + length (reply_bytes r) → output' ≡ overwritten output n (reply_bytes r)
      → Running sheet before q after output' m
  running_on q r after m output' turned fits place write =
      record {
        standing = turned.standing;
        count = rw place (omega (arith, running.count, ap length turned.runs, length-append (reply_bytes r) (run_from q after)));
        bytes =
            rw (place, write)
            (overwritten-more output (reply_bytes r) (run_from q after) n fits
            ∙ ap (overwritten output n) (sym turned.runs) ∙ running.bytes);
      }

  pub running_end : reading rest ≡ end → (n ≡ length (run_bytes sheet)) × (output ≡ overwritten before 0 (run_bytes sheet))
  running_end e =
      let nothing : run_from p rest ≡ [] = run_end p rest e in (
        omega (arith, running.count, ap length nothing),
        overwritten-none output n ∙ sym (ap (overwritten output n) nothing) ∙ running.bytes,
      )
