-- The order of two finite values is the order of their units. Assumes nothing.
use Rattle.std.proofs.Common.{◌≡◌, ℕ, zero, suc, ◌+◌, ◌*◌, ◌^◌, ◌<◌, Bool, true, false, cond, ◌&&◌, ◌||◌, T, eqb, ℤ, pos, neg_ℤ, sym, refl, ap, ◌∙◌, mul_assoc, mul_comm, mul-pos, zero-mul, mul_right_comm, arith, pow_pos}
use mathlib.Core.Bool.{beq}
use lib.Signed.{le_z, lt_z}
use Rattle.std.proofs.lemmas.Bool.Decides.{nat_tests}
use lib.Ieee.{Float, nan, inf, fin, binary64, up, down, below, level, lt, le, fits}
use lib.Ieee.Fits.{down_pos}
use Rattle.std.specs.Float.{float_is_finite}
use Rattle.floats.proofs.Scaling.{ltb_scale, eqb_scale}
use Rattle.floats.proofs.Units.{whole, units_at, units_cross}
use Rattle.floats.specs.Units.{units_of}

module _ (u v : ℕ) (U : 0 < u) (V : 0 < v) where
  nought : 0 * u ≡ 0 * v
  nought = zero-mul u ∙ sym (zero-mul v)

  below_scale : (s t : Bool) (a b m n : ℕ) → a * u ≡ m * v → b * u ≡ n * v → below s a t b ≡ below s m t n
  below_scale false false a b m n p q = ltb_scale u v U V a b m n p q
  below_scale false true a b m n p q = refl
  below_scale true false a b m n p q = ltb_scale u v U V 0 (a + b) 0 (m + n) nought (omega arith)
  below_scale true true a b m n p q = ltb_scale u v U V b a n m q p

  level_scale : (s t : Bool) (a b m n : ℕ) → a * u ≡ m * v → b * u ≡ n * v → level s a t b ≡ level s m t n
  level_scale s t a b m n p q =
      ap (λ (x : Bool). x && (beq s t || eqb a 0)) (eqb_scale u v U V a b m n p q)
      ∙ ap (λ (x : Bool). eqb m n && (beq s t || x)) (eqb_scale u v U V a 0 m 0 p nought)

-- ±m and ±n
abbrev signed : Bool → ℕ → ℤ
signed s n = cond s (neg_ℤ (pos n)) (pos n)

le_signed : (s t : Bool) (m n : ℕ) → (below s m t n || level s m t n) ≡ le_z (signed s m) (signed t n)
le_signed false false m n = grind (arith, nat_tests)
le_signed false true m zero = grind (arith, nat_tests)
le_signed false true m (suc n) = grind (arith, nat_tests)
le_signed true false zero n = grind (arith, nat_tests)
le_signed true false (suc m) n = grind (arith, nat_tests)
le_signed true true zero zero = refl
le_signed true true zero (suc n) = grind (arith, nat_tests)
le_signed true true (suc m) zero = grind (arith, nat_tests)
le_signed true true (suc m) (suc n) = grind (arith, nat_tests)

-- strictly
lt_signed : (s t : Bool) (m n : ℕ) → below s m t n ≡ lt_z (signed s m) (signed t n)
lt_signed false false m n = refl
lt_signed false true m zero = grind (arith, nat_tests)
lt_signed false true m (suc n) = refl
lt_signed true false zero n = grind (arith, nat_tests)
lt_signed true false (suc m) n = grind (arith, nat_tests)
lt_signed true true zero zero = refl
lt_signed true true zero (suc n) = grind (arith, nat_tests)
lt_signed true true (suc m) zero = grind (arith, nat_tests)
lt_signed true true (suc m) (suc n) = grind (arith, nat_tests)

-- two finite values over one denominator, and their units
module _ (s t : Bool) (m n : ℕ) (e g : ℤ) (h : T (fits binary64 (fin s m e))) (k : T (fits binary64 (fin t n g))) where
  abbrev u : ℕ
  u = 2 ^ 1074

  abbrev d : ℕ
  d = down e * down g

  abbrev a : ℕ
  a = m * up e * down g

  abbrev b : ℕ
  b = n * up g * down e

  abbrev x : ℕ
  x = units_at binary64 m e

  abbrev y : ℕ
  y = units_at binary64 n g

  positive : 0 < d
  positive = mul-pos (down_pos e) (down_pos g)

  left : a * u ≡ x * d
  left = mul_right_comm (m * up e) (down g) u ∙ ap (λ (z : ℕ). z * down g) (units_cross binary64 m e (whole binary64 s m e h)) ∙ mul_assoc x (down e) (down g)

  right : b * u ≡ y * d
  right = mul_right_comm (n * up g) (down e) u ∙ ap (λ (z : ℕ). z * down e) (units_cross binary64 n g (whole binary64 t n g k)) ∙ mul_assoc y (down g) (down e) ∙ ap (λ (z : ℕ). y * z) (mul_comm (down g) (down e))

  below_units : below s a t b ≡ below s x t y
  below_units = below_scale u d (pow_pos 1074) positive s t a b x y left right

  level_units : level s a t b ≡ level s x t y
  level_units = level_scale u d (pow_pos 1074) positive s t a b x y left right

  le_finite : le (fin s m e) (fin t n g) ≡ le_z (signed s x) (signed t y)
  unfolding le
  le_finite = (λ i. below_units i || level_units i) ∙ le_signed s t x y

  lt_finite : lt (fin s m e) (fin t n g) ≡ lt_z (signed s x) (signed t y)
  unfolding lt
  lt_finite = below_units ∙ lt_signed s t x y

pub le_units : (x y : Float) → T (fits binary64 x) → T (fits binary64 y) → T (float_is_finite x) → T (float_is_finite y) → le x y ≡ le_z (units_of x) (units_of y)
unfolding float_is_finite
le_units nan y h k p q = absurd p
le_units (inf s) y h k p q = absurd p
le_units (fin s m e) nan h k p q = absurd q
le_units (fin s m e) (inf t) h k p q = absurd q
le_units (fin s m e) (fin t n g) h k p q = le_finite s t m n e g h k

pub lt_units : (x y : Float) → T (fits binary64 x) → T (fits binary64 y) → T (float_is_finite x) → T (float_is_finite y) → lt x y ≡ lt_z (units_of x) (units_of y)
unfolding float_is_finite
lt_units nan y h k p q = absurd p
lt_units (inf s) y h k p q = absurd p
lt_units (fin s m e) nan h k p q = absurd q
lt_units (fin s m e) (inf t) h k p q = absurd q
lt_units (fin s m e) (fin t n g) h k p q = lt_finite s t m n e g h k
