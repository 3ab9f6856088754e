-- What a draft holds, and what a change makes of it.
use Rattle.std.specs.Prelude.{ℕ}
use Rattle.methods.specs.declared.curve.Curve.{Curve}
use Rattle.methods.specs.declared.draft.Coefficient.{Coefficient}
use Rattle.methods.specs.declared.draft.Coefficient.TheVariants.{F4, F3, F2, F1, F0}
use Rattle.methods.specs.declared.draft.Draft.{Draft}

-- the curve that a draft would be
abbrev pub drafted : Draft → Curve
drafted d = d.curve

abbrev pub changed : Curve → Coefficient → ℕ → Curve
changed C F4 x = record { f4 = x; f3 = C.f3; f2 = C.f2; f1 = C.f1; f0 = C.f0 }
changed C F3 x = record { f4 = C.f4; f3 = x; f2 = C.f2; f1 = C.f1; f0 = C.f0 }
changed C F2 x = record { f4 = C.f4; f3 = C.f3; f2 = x; f1 = C.f1; f0 = C.f0 }
changed C F1 x = record { f4 = C.f4; f3 = C.f3; f2 = C.f2; f1 = x; f0 = C.f0 }
changed C F0 x = record { f4 = C.f4; f3 = C.f3; f2 = C.f2; f1 = C.f1; f0 = x }
