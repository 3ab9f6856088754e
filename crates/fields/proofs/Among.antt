-- What `only` and `among` answer inside and outside the codes.
use Rattle.std.proofs.Common.{◌≡◌, ℕ, ◌<◌, ◌≤◌, ◌&&◌, ltb}
use Rattle.std.proofs.lemmas.Bool.{lt-ltb, le-ltb, and_from, and_left, and_right, cond-true, cond-false}
use Rattle.fields.specs.Residues.{only, among}

module _ (m : ℕ) where
  pub only_code : (a x : ℕ) → a < m → only m a x ≡ x
  only_code a x h = cond-true (ltb a m) x 0 (lt-ltb a m h)

  pub only_outside : (a x : ℕ) → m ≤ a → only m a x ≡ 0
  only_outside a x h = cond-false (ltb a m) x 0 (le-ltb a m h)

  pub among-codes : (a b x : ℕ) → a < m → b < m → among m a b x ≡ x
  among-codes a b x h k = cond-true (ltb a m && ltb b m) x 0 (and_from (ltb a m) (ltb b m) (lt-ltb a m h) (lt-ltb b m k))

  pub among_outside_left : (a b x : ℕ) → m ≤ a → among m a b x ≡ 0
  among_outside_left a b x h = cond-false (ltb a m && ltb b m) x 0 (and_left (ltb a m) (ltb b m) (le-ltb a m h))

  pub among_outside_right : (a b x : ℕ) → m ≤ b → among m a b x ≡ 0
  among_outside_right a b x h = cond-false (ltb a m && ltb b m) x 0 (and_right (ltb a m) (ltb b m) (le-ltb b m h))
