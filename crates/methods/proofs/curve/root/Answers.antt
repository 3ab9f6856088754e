-- V by its two halved coefficients.
use Rattle.std.proofs.Common.{◌≡◌, [], ◌∷◌, ◌∙◌, ap₂}
use Rattle.polynomials.specs.Ten.{value}
use Rattle.methods.specs.Curves.{half, root}
use Rattle.methods.proofs.Reading.{value_padded}
use Rattle.methods.proofs.curve.root.Goals as goal

pub returns : goal.returns
unfolding root
returns g c =
    let K = g.F.Field.meaning c.args.field.now in
    let C = c.args.curve in
    let a : c.product-v0.result ≡ half K C C.f3 = cc in
    let b : c.product-v1.result ≡ half K C C.f4 = cc in
    value_padded K (c.product-v0.result ∷ c.product-v1.result ∷ 0 ∷ 1 ∷ []) 6 ∙ ap₂ (λ x y. value K (x ∷ y ∷ 0 ∷ 1 ∷ [])) a b
