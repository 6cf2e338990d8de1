-- Comparisons with a literal, by units. Assumes nothing.
use Rattle.std.proofs.Common.{◌≡◌, ℕ, zero, suc, ◌+◌, ◌-◌, ◌*◌, ◌/◌, ◌^◌, true, false, not, T, leb, ℤ, pos, neg_ℤ, nat_abs, sym, refl, ap, ◌∙◌}
use lib.Signed.{le_z, lt_z}
use lib.Ieee.{Float, nan, inf, fin, binary64, up, down, le, lt, fits, is_nan, of_bits}
use lib.Ieee.Bits.{of_bits-fits}
use Rattle.std.specs.Float.{float_is_finite, float_with_sign}
use Rattle.floats.specs.Units.{units_of}
use Rattle.floats.proofs.InOrder.{le_units, lt_units}

-- a literal: its bits k, its units n
abbrev pub Lit : ℕ → ℕ → Type 0
Lit k n = T (float_is_finite (of_bits binary64 k)) × (units_of (of_bits binary64 k) ≡ pos n)

pub nought : Lit 0 0
unfolding of_bits float_is_finite
nought = (tt, refl)

pub nearly_zero : Lit 0x3f30_0000_0000_0000 (2 ^ 1062)
unfolding of_bits float_is_finite
nearly_zero = (tt, refl)

pub under_one : Lit 0x3fef_fe00_0000_0000 (2 ^ 1074 - 2 ^ 1062)
unfolding of_bits float_is_finite
under_one = (tt, refl)

pub over_one : Lit 0x3ff0_0100_0000_0000 (2 ^ 1074 + 2 ^ 1062)
unfolding of_bits float_is_finite
over_one = (tt, refl)

-- ---- sizes
nat_abs_neg : (n : ℕ) → nat_abs (neg_ℤ (pos n)) ≡ n
nat_abs_neg zero = refl
nat_abs_neg (suc n) = refl

pub size_units : (x : Float) → units_of (float_with_sign false x) ≡ pos (nat_abs (units_of x))
unfolding float_with_sign
size_units nan = refl
size_units (inf s) = refl
size_units (fin true m e) = ap pos (sym (nat_abs_neg (m * up e * 2 ^ 1074 / down e)))
size_units (fin false m e) = refl

pub size_fits : (x : Float) → T (fits binary64 x) → T (fits binary64 (float_with_sign false x))
unfolding float_with_sign fits
size_fits nan h = tt
size_fits (inf s) h = tt
size_fits (fin s zero e) h = h
size_fits (fin s (suc m) e) h = h

pub size_finite : (x : Float) → T (float_is_finite x) → T (float_is_finite (float_with_sign false x))
unfolding float_with_sign float_is_finite
size_finite nan h = h
size_finite (inf s) h = h
size_finite (fin s m e) h = tt

pub number : (x : Float) → T (float_is_finite x) → T (not (is_nan x))
unfolding float_is_finite is_nan
number nan h = absurd h
number (inf s) h = tt
number (fin s m e) h = tt

-- ---- against a literal
module _ (x : Float) (h : T (fits binary64 x)) (p : T (float_is_finite x)) (k n : ℕ) (l : Lit k n) where
  pub size_at_most : (y : Float) → y ≡ float_with_sign false x → le y (of_bits binary64 k) ≡ leb (nat_abs (units_of x)) n
  size_at_most y e =
      ap (λ (z : Float). le z (of_bits binary64 k)) e
      ∙ le_units (float_with_sign false x) (of_bits binary64 k) (size_fits x h) (of_bits-fits binary64 k) (size_finite x p) l.0
      ∙ (λ i. le_z (size_units x i) (l.1 i))

  pub size_at_least : (y : Float) → y ≡ float_with_sign false x → le (of_bits binary64 k) y ≡ leb n (nat_abs (units_of x))
  size_at_least y e =
      ap (λ (z : Float). le (of_bits binary64 k) z) e
      ∙ le_units (of_bits binary64 k) (float_with_sign false x) (of_bits-fits binary64 k) (size_fits x h) l.0 (size_finite x p)
      ∙ (λ i. le_z (l.1 i) (size_units x i))

  pub above_lit : lt (of_bits binary64 k) x ≡ lt_z (pos n) (units_of x)
  above_lit = lt_units (of_bits binary64 k) x (of_bits-fits binary64 k) h l.0 p ∙ ap (λ (z : ℤ). lt_z z (units_of x)) l.1

  pub below_lit : lt x (of_bits binary64 k) ≡ lt_z (units_of x) (pos n)
  below_lit = lt_units x (of_bits binary64 k) h (of_bits-fits binary64 k) p l.0 ∙ ap (lt_z (units_of x)) l.1
