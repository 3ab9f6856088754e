-- Degrees of products of polynomials, and of norms.
use Rattle.std.proofs.Common.{◌≡◌, ℕ, suc, pred, ◌+◌, ◌<◌, ◌≢◌, ap, ◌∙◌, arith}
use Rattle.algebra.specs.Ring.{Ops}
use Rattle.algebra.specs.Field.{Field}
use Rattle.algebra.specs.Polynomials.{Polynomials}
use Rattle.algebra.proofs.PolynomialRing as A
use Rattle.algebra.proofs.Size as Z
use Rattle.mumford.specs.Functions.{Function, functions, constant, norm}
use Rattle.mumford.specs.Divisors.{degree}
use Rattle.mumford.specs.Curve.{Curve}
use Rattle.mumford.proofs.Functions.{norm-mul, norm-constant}
use Rattle.mumford.proofs.Norm as N

module _ {K : Type 0} {o : Ops K} (F : Field o) {P : Type 0} {p : Ops P} (H : Polynomials o p) where
  infixl 80 ◌·◌
  open p use {mul as ◌·◌, nil, unit}
  open H use {size}

  pub size_degree : (a : P) → a ≢ nil → size a ≡ suc (degree size a)
  size_degree a some = one_more (size a) (Z.size_some F H a some)
    where
      one_more : (n : ℕ) → 0 < n → n ≡ suc (pred n)
      one_more n l = omega arith

  pub degree_unit : degree size unit ≡ 0
  degree_unit = ap pred (Z.size_unit F H)

  pub degree-mul : (a b : P) → a ≢ nil → b ≢ nil → degree size (a · b) ≡ degree size a + degree size b
  degree-mul a b sa sb =
      ap pred (Z.size_mul F H a b (size_degree a sa) (size_degree b sb))

  pub degree-norm-constant : (f a : P) → a ≢ nil → degree size (norm p f (constant p a)) ≡ degree size a + degree size a
  degree-norm-constant f a some = ap (degree size) (norm-constant (A.polynomial_laws F H) f a) ∙ degree-mul a a some some

  pub degree-norm-mul : {f V : P} → Curve H f V → (g h : Function P) → g ≢ (functions p f).nil → h ≢ (functions p f).nil
      → degree size (norm p f ((functions p f).mul g h)) ≡ degree size (norm p f g) + degree size (norm p f h)
  degree-norm-mul {f} C g h sg sh =
      ap (degree size) (norm-mul (A.polynomial_laws F H) f g h)
      ∙ degree-mul (norm p f g) (norm p f h) (N.norm_some F H C g sg) (N.norm_some F H C h sh)
