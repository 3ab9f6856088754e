-- Sums and doubles by closed formulas, on codes, and the method that they make over any other. The formulas are those of
-- `Rattle.mumford.specs.ClosedForms`, over the field's operations on codes, with the field's inverses.
use Rattle.std.specs.Prelude.{ℕ, Bool, true, false, cond, not, ◌&&◌, Some, None, Ok, Err, Option, Result, ◌==◌}
use Rattle.algebra.specs.Ring.{Ops}
use Rattle.fields.specs.Arithmetic.{Arithmetic}
use Rattle.mumford.specs.ClosedForms.{Sextic, Quadratic, Fractions, Line, Quotient, Second, lead, line_by, sum_fractions, sum_by, twice_divided, double_fractions, double_by}
use Rattle.methods.specs.declared.curve.Curve.{Curve}
use Rattle.methods.specs.declared.divisor.Divisor.{Divisor}
use Rattle.methods.specs.Divisors.{linear_codes, entered}
use Rattle.methods.specs.Methods.{Law}

-- a field's operations on codes
abbrev pub operations : Arithmetic → Ops ℕ
operations K = record { add = K.plus; mul = K.times; neg = K.minus; nil = 0; unit = 1 }

-- f4 to f0
abbrev pub sextic_letters : Curve → Sextic ℕ
sextic_letters C = record { f4 = C.f4; f3 = C.f3; f2 = C.f2; f1 = C.f1; f0 = C.f0 }

-- a, b, c, e of the divisor [x² + a·x + b; c·x + e; 0]
abbrev pub letters : Divisor → Quadratic ℕ
letters D = record { a = D.u.x1; b = D.u.x0; c = D.v.x1; e = D.v.x0 }

abbrev pub quadratic : Quadratic ℕ → Divisor
quadratic S = record { degree = 2; u = record { x1 = S.a; x0 = S.b }; v = record { x1 = S.c; x0 = S.e }; n = 0 }

-- nothing is left of f − v² divided by u
abbrev pub exact : Quotient ℕ → Bool
exact q = q.m == 0 && q.l == 0

abbrev pub accepted : {X E : Type 0} → Result X E → Bool
accepted (Ok _) = true
accepted (Err _) = false

module _ (K : Arithmetic) where
  abbrev op : Ops ℕ
  op = operations K

  -- degree 2, n = 0, and codes for coefficients
  abbrev pub has_letters : Divisor → Bool
  has_letters D = D.degree == 2 && D.n == 0 && linear_codes K D.u && linear_codes K D.v

  -- r ≠ 0 and p² ≠ r²
  abbrev pub applicable : Fractions ℕ → Bool
  applicable n = not (n.r == 0) && not (K.times n.p n.p == K.times n.r n.r)

  -- s1 = p/r and s0 = o/r
  abbrev pub slope : Quadratic ℕ → Fractions ℕ → Line ℕ
  slope E n = line_by op E n (K.inverse n.r)

  -- 1/M
  abbrev pub lead_inverse : Line ℕ → ℕ
  lead_inverse s = K.inverse (lead op s.s1)

  module _ (C : Curve) where
    -- valid, and of degree 2
    abbrev pub of_degree_2 : Divisor → Bool
    of_degree_2 D = accepted (entered K C D) && D.degree == 2

    -- The formulas of the sum.

    abbrev pub sum_letters : Quadratic ℕ → Quadratic ℕ → Quadratic ℕ
    sum_letters D E =
        let s : Line ℕ = slope E (sum_fractions op D E) in
        sum_by op (sextic_letters C) D E s (lead_inverse s)

    unfoldable pub sum_formula : Divisor → Divisor → Option Divisor
    sum_formula D E =
        cond (of_degree_2 D && of_degree_2 E && applicable (sum_fractions op (letters D) (letters E)))
        (Some (quadratic (sum_letters (letters D) (letters E)))) None

    -- The formulas of the double.

    abbrev pub double_letters : Quadratic ℕ → Quadratic ℕ
    double_letters D =
        let t : Second ℕ = twice_divided op (sextic_letters C) D in
        let s : Line ℕ = slope D (double_fractions op D t) in
        double_by op D t s (lead_inverse s)

    unfoldable pub double_formula : Divisor → Option Divisor
    double_formula D =
        cond (of_degree_2 D && applicable (double_fractions op (letters D) (twice_divided op (sextic_letters C) (letters D))))
        (Some (quadratic (double_letters (letters D)))) None

-- the formula's answer, or else another
abbrev pub or_else : {X E : Type 0} → Option X → Result X E → Result X E
or_else (Some x) r = Ok x
or_else None r = r

-- What the formulas do not answer, the method underneath does.
abbrev pub closed : Law → Law
closed law =
    record {
      add = λ K C D E. or_else (sum_formula K C D E) (law.add K C D E);
      double = λ K C D. or_else (double_formula K C D) (law.double K C D);
    }
