-- Accounts, which are lists of divisors, and what it is for a divisor to settle one: to be linearly equivalent to their sum.
--
-- [u; v; n] stands for a divisor of degree 0: the zeros of u and y − v, n − 1 times the point at infinity where y/x³ is 1, and the
-- other point at infinity as often as makes the degree 0. Its members are the functions that vanish on its finite part. So the
-- equality of sets below says that the divisors D1 + … + Dk + (g) and D + (h) are equal at all finite points, the equation
-- of growths that they are equal at the first point at infinity; and at the second they are since their degrees are 0.
use Rattle.std.specs.Prelude.{◌≡◌, ◌≢◌, List, [], ◌∷◌, ◌++◌, map, ℤ, pos, ◌+ℤ◌, ◌-ℤ◌}
use Rattle.fields.specs.Arithmetic.{Arithmetic}
use Rattle.polynomials.specs.Polynomial.{Polynomial, sum, product}
use Rattle.polynomials.specs.Proper.{Proper}
use Rattle.methods.specs.declared.curve.Curve.{Curve}
use Rattle.methods.specs.declared.divisor.Divisor.{Divisor}
use Rattle.methods.specs.Divisors.{u_of, v_of, Valid, neutral, opposite}
use Rattle.methods.specs.Sums.{plus, twice}
use Rattle.classes.specs.Functions.{Function, Over, zero_function, function_sum, function_product}
use Rattle.classes.specs.Growth.{growth}

-- A member of [u; v; n]: a function a + b·y with a + b·v divisible by u. They are the ideal of u and y − v.
pub record Member (K : Arithmetic) (D : Divisor) (m : Function) : Type 0 where
  pub over : Over K m
  pub cofactor : Polynomial
  pub cofactor_over : Proper K cofactor
  pub divisible : sum K m.a (product K m.b (v_of K D)) ≡ product K (u_of K D) cofactor

-- the finite sums of functions of a set
pub data Sums (K : Arithmetic) (S : Function → Type 0) : Function → Type 0 where
  none : Sums K S zero_function
  more : {x y : Function} → S x → Sums K S y → Sums K S (function_sum K x y)

-- (n1 − 1) + … + (nk − 1)
abbrev pub excess : List Divisor → ℤ
excess [] = pos 0
excess (D ∷ account) = pos D.n -ℤ pos 1 +ℤ excess account

module _ (K : Arithmetic) (C : Curve) where
  -- x is g·a1·…·ak·c, where ai is a member of the i-th divisor and c is any function
  abbrev pub Product : Function → List Divisor → Function → Type 0
  Product g [] x = (c : Function) × Over K c × (x ≡ function_product K C g c)
  Product g (D ∷ account) x = (a : Function) × Member K D a × Product (function_product K C g a) account x

  -- x is h·m, where m is a member of D
  abbrev pub Multiple : Function → Divisor → Function → Type 0
  Multiple h D x = (m : Function) × Member K D m × (x ≡ function_product K C h m)

  -- Nonzero functions g and h such that the sums of products g·a1·…·ak·c are exactly the functions h·m, m a member of D, and
  -- (n1 − 1) + … + (nk − 1) + growth of h = n − 1 + growth of g.
  pub record Settles (D : Divisor) (account : List Divisor) : Type 0 where
    pub g : Function
    pub h : Function
    pub g_over : Over K g
    pub h_over : Over K h
    pub g_some : g ≢ zero_function
    pub h_some : h ≢ zero_function
    pub within : (x : Function) → Sums K (Product g account) x → Multiple h D x
    pub reached : (x : Function) → Multiple h D x → Sums K (Product g account) x
    pub growths : excess account +ℤ growth K C h ≡ pos D.n -ℤ pos 1 +ℤ growth K C g

-- D is built with an account: the neutral divisor with the empty account, a valid divisor with itself alone, a sum with the
-- accounts of its operands joined, a double with the account joined to itself, a negative with each divisor of the account
-- replaced by its negative.
pub data Built (K : Arithmetic) (C : Curve) : Divisor → List Divisor → Type 0 where
  built_neutral : Built K C neutral []
  built_alone : {D : Divisor} → Valid K C D → Built K C D (D ∷ [])
  built_sum : {D E : Divisor} {A B : List Divisor} → Built K C D A → Built K C E B → Built K C (plus K C D E) (A ++ B)
  built_double : {D : Divisor} {A : List Divisor} → Built K C D A → Built K C (twice K C D) (A ++ A)
  built_negative : {D : Divisor} {A : List Divisor} → Built K C D A → Built K C (opposite K D) (map (opposite K) A)
