-- A value of one of two types.
use Rattle.run.specs.declared.field.OneOf.{OneOf}
use Rattle.run.specs.declared.field.OneOf.TheVariants.{First, Second}

-- what stands for it, by what stands for each of the two
abbrev pub one_of : {F G X : Type 0} → (F → X) → (G → X) → OneOf F G → X
one_of f g (First x) = f x
one_of f g (Second y) = g y
