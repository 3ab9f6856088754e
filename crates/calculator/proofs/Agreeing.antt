-- Fresh calculators on fields of one meaning and the same curve, with lawful methods, agree.
use Rattle.std.proofs.Common.{◌≡◌, List, sym, ◌∙◌}
use Rattle.fields.specs.declared.field.Field.{Ghosts}
use Rattle.methods.specs.Methods.{Law, LawfulMethod}
use Rattle.calculator.specs.declared.call.Call.{Call}
use Rattle.calculator.specs.declared.calculator.Calculator.{Calculator}
use Rattle.calculator.specs.Calls.{Answer}
use Rattle.calculator.specs.Calculators.{held, Fresh, Sound, LeftAll, SameModel, Agree}

module _ {F G M N : Type 0} {field_1 : Ghosts F} {field_2 : Ghosts G} {law_1 law_2 : Law} where
  sound_too : {c : Calculator F M} {d : Calculator G N} → SameModel field_1 field_2 c d → Sound field_1 law_1 c → LawfulMethod law_2
      → Sound field_2 law_2 d
  sound_too same sound method =
      record {
        lawful = rw same.meaning at sound.lawful;
        accepted = rw (same.meaning, same.curve) at sound.accepted;
        method = method;
      }

  pub agreement : {calls : List Call} {answers_1 answers_2 : List Answer} {c c' : Calculator F M} {d d' : Calculator G N}
      → LeftAll field_1 law_1 calls c c' answers_1 → LeftAll field_2 law_2 calls d d' answers_2
      → SameModel field_1 field_2 c d → Sound field_1 law_1 c → LawfulMethod law_2 → Fresh c → Fresh d
      → Agree answers_1 answers_2 c' d'
  agreement {calls} {c = c} {d = d} left-1 left_2 same sound method fresh_1 fresh_2 =
      let also : Sound field_2 law_2 d = sound_too same sound method in
      let equal : held c ≡ held d = fresh_1 ∙ sym fresh_2 in
      record {
        answered = left-1.answered sound ∙ rw (same.meaning, same.curve, equal) (sym (left_2.answered also));
        registers = left-1.registers sound ∙ rw (same.meaning, same.curve, equal) (sym (left_2.registers also));
      }
