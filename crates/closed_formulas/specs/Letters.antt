-- The code's structs as the letters of the formulas.
use Rattle.std.specs.Prelude.{ℕ}
use Rattle.mumford.specs.ClosedForms as forms
use Rattle.closed_formulas.specs.declared.formulas.Quadratic.{Quadratic}
use Rattle.closed_formulas.specs.declared.formulas.Fractions.{Fractions}
use Rattle.closed_formulas.specs.declared.formulas.Line.{Line}
use Rattle.closed_formulas.specs.declared.formulas.Quotient.{Quotient}
use Rattle.closed_formulas.specs.declared.formulas.Second.{Second}

abbrev pub quadratic_of : Quadratic → forms.Quadratic ℕ
quadratic_of d = record { a = d.a; b = d.b; c = d.c; e = d.e }

abbrev pub fractions_of : Fractions → forms.Fractions ℕ
fractions_of n = record { r = n.r; p = n.p; o = n.o }

abbrev pub line_of : Line → forms.Line ℕ
line_of s = record { s1 = s.s1; s0 = s.s0; L2 = s.l2; L1 = s.l1 }

abbrev pub division_of : Quotient → forms.Quotient ℕ
division_of q = record { k = q.k; h = q.h; j = q.j; m = q.m; l = q.l }

abbrev pub second_division_of : Second → forms.Second ℕ
second_division_of t = record { g = t.g; K1 = t.k1; K0 = t.k0 }
