-- Units and finiteness of a negated value. Assumes nothing.
use Rattle.std.proofs.Common.{◌≡◌, ◌*◌, ◌/◌, ◌^◌, true, false, T, pos, neg_ℤ, sym, refl}
use lib.IntN.{neg_ℤ-neg_ℤ}
use lib.Ieee.{Float, Format, nan, inf, fin, low, up, down, neg}
use Rattle.std.specs.Float.{float_is_finite}
use Rattle.floats.specs.Units.{units_in}

pub units_neg : (f : Format) (x : Float) → units_in f (neg x) ≡ neg_ℤ (units_in f x)
unfolding neg
units_neg f nan = refl
units_neg f (inf s) = refl
units_neg f (fin true m e) = sym (neg_ℤ-neg_ℤ (pos (m * up e * 2 ^ low f / down e)))
units_neg f (fin false m e) = refl

pub finite_neg : (x : Float) → T (float_is_finite x) → T (float_is_finite (neg x))
unfolding neg float_is_finite
finite_neg nan h = h
finite_neg (inf s) h = h
finite_neg (fin s m e) h = h
