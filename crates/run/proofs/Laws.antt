-- The laws of a run, of every sheet.
use Rattle.std.proofs.Common.{◌≡◌, ℕ, List, ◌∷◌, ◌++◌, None, ap, ◌∙◌, arith}
use Rattle.run.specs.Records.{kind_at, unknown, reading, reading_by}
use Rattle.run.specs.Progress.{start}
use Rattle.run.specs.Run.{run_bytes}
use Rattle.run.specs.Laws.{behind, RecordForRecord, AllShownAgain, Laws}
use Rattle.run.proofs.Reading.{short_by_size}
use Rattle.run.proofs.Sheets.{run_short, run_unknown}
use Rattle.run.proofs.Appending.{run_append}
use Rattle.run.proofs.Refusals.{refused_absent}
use Rattle.run.proofs.Keeping.{registers_kept}
use Rattle.run.proofs.Showing.{shown_again}
use Rattle.run.proofs.Room.{run_room}

unknown_kind : (kind : ℕ) (b : List ℕ) → kind_at kind ≡ None → reading (kind ∷ b) ≡ unknown kind
unfolding reading
unknown_kind kind b none = ap (reading_by kind b) none

record_for_record : (sheet : List ℕ) → RecordForRecord sheet
record_for_record sheet =
    record {
      goes_on = λ a b is w. ap run_bytes is ∙ run_append start a b w;
      ends_inside = λ a b kind k is w known less.
          ap run_bytes is ∙ run_append start a (kind ∷ b) w
          ∙ ap (λ zs. run_bytes a ++ zs) (run_short (behind start a) (kind ∷ b) kind (short_by_size kind b k known less));
      stops = λ a b kind is w none.
          ap run_bytes is ∙ run_append start a (kind ∷ b) w
          ∙ ap (λ zs. run_bytes a ++ zs) (run_unknown (behind start a) (kind ∷ b) kind (unknown_kind kind b none));
    }

all_shown_again : (sheet : List ℕ) → AllShownAgain sheet
all_shown_again sheet K C rs e k t small-k small-t =
    let kept = registers_kept sheet K C rs e in
    shown_again K kept.lawful C rs k t small-k small-t (kept.settled.each k small-k).0

pub run_laws : (sheet : List ℕ) → Laws sheet
run_laws sheet =
    record {
      records = record_for_record sheet;
      refusals = λ a r b kind number is w one refused. refused_absent a r b kind number w one refused;
      registers = registers_kept sheet;
      shown = all_shown_again sheet;
      room = λ most. omega (arith, run_room start sheet);
    }
