-- How calls are written.
use Rattle.std.specs.Prelude.{ℕ, List, ◌++◌, codes}
use Rattle.std.specs.Fmt.{decimal}
use Rattle.methods.specs.Texts.{divisor_text}
use Rattle.calculator.specs.declared.call.Call.{Call}
use Rattle.calculator.specs.declared.call.Call.TheVariants.{Enter, Add, Double, Negate, Show}

-- The name of the call, then its registers and its divisor.
abbrev pub call_text : Call → List ℕ
call_text (Enter t D) = codes "enter " ++ decimal t ++ codes " " ++ divisor_text D
call_text (Add t a b) = codes "add " ++ decimal t ++ codes " " ++ decimal a ++ codes " " ++ decimal b
call_text (Double t a) = codes "double " ++ decimal t ++ codes " " ++ decimal a
call_text (Negate t a) = codes "negate " ++ decimal t ++ codes " " ++ decimal a
call_text (Show a) = codes "show " ++ decimal a
