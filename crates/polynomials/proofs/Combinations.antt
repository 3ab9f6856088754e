-- The greatest common divisor on ten codes: what Euclid's steps answer, made monic. It divides both, and the cofactors combine
-- to it.
use Rattle.std.proofs.Common.{◌≡◌, ℕ, suc, List, length, sym, ap, ◌∙◌, subst, ap₂, arith}
use Rattle.fields.specs.Arithmetic.{Arithmetic}
use Rattle.fields.specs.Lawful.{Lawful}
use Rattle.polynomials.specs.Polynomial.{leading, sum, product, multiple, remainder, Common, euclid, gcd}
use Rattle.polynomials.specs.Proper.{Listed}
use Rattle.polynomials.specs.Ten.{value, Is, CommonOf, Combines}
use Rattle.polynomials.proofs.CommonDivisors.{gcd_of, gcd-combination_list, gcd_greatest, gcd-leading}
use Rattle.polynomials.proofs.Divisibility.{divides_remainder}
use Rattle.polynomials.proofs.Lengths.{multiple-length}
use Rattle.polynomials.proofs.Tens.{value_proper}

module _ (K : Arithmetic) (L : Lawful K) where
  -- d, s and t are the divisor and the cofactors made monic
  pub made_monic : {a b d s t d' s' t' : List ℕ} {n l : ℕ} → n ≡ suc (length (value K b))
      → CommonOf K (euclid K n (value K a) (value K b)) a b d s t
      → l ≡ K.inverse (leading (value K d))
      → Is K d' (multiple K l (value K d)) → Is K s' (multiple K l (value K s)) → Is K t' (multiple K l (value K t))
      → Combines K a b d' s' t'
  unfolding gcd
  made_monic {a} {b} {d} {s} {t} {d'} {s'} {t'} {n} {l} en g el hd hs ht =
      let A = value K a in
      let B = value K b in
      let G : Common = gcd K A B in
      let a⁺ : Listed K = (A, value_proper K L a) in
      let b⁺ : Listed K = (B, value_proper K L b) in
      let same : euclid K n A B ≡ euclid K (suc (length B)) A B = ap (λ m. euclid K m A B) en in
      let divisor : value K d ≡ (euclid K (suc (length B)) A B).divisor = g.divisor.stands ∙ ap (λ x. x.divisor) same in
      let lead : l ≡ K.inverse (leading (euclid K (suc (length B)) A B).divisor) = el ∙ ap (λ p. K.inverse (leading p)) divisor in
      let ed : multiple K l (value K d) ≡ G.divisor = ap₂ (multiple K) lead divisor in
      let es : multiple K l (value K s) ≡ G.first = ap₂ (multiple K) lead (g.first.stands ∙ ap (λ x. x.first) same) in
      let ev : value K d' ≡ G.divisor = hd.stands ∙ ed in
      let et : multiple K l (value K t) ≡ G.second = ap₂ (multiple K) lead (g.second.stands ∙ ap (λ x. x.second) same) in
      record {
        divisor = subst (Is K d') ed hd;
        monic = λ some. ap leading ev ∙ gcd-leading K L a⁺ b⁺ some;
        divides_first = ap (remainder K A) ev ∙ divides_remainder K L a⁺ (gcd_of K L a⁺ b⁺) (gcd_greatest K L a⁺ b⁺).divides.0;
        divides_second = ap (remainder K B) ev ∙ divides_remainder K L b⁺ (gcd_of K L a⁺ b⁺) (gcd_greatest K L a⁺ b⁺).divides.1.0;
        first = subst (Is K s') (sym hs.stands) hs;
        second = subst (Is K t') (sym ht.stands) ht;
        combined =
            ap₂ (λ u v. sum K (product K u A) (product K v B)) (hs.stands ∙ es) (ht.stands ∙ et)
            ∙ sym (ev ∙ gcd-combination_list K L a⁺ b⁺);
        short = omega (arith, g.short, ap length hd.stands, multiple-length K l (value K d));
        short_first = omega (arith, g.short_first, ap length hs.stands, multiple-length K l (value K s));
        short_second = omega (arith, g.short_second, ap length ht.stands, multiple-length K l (value K t));
      }
