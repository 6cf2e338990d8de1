-- Floats as whole numbers. A finite value of a format is a whole number of the format's smallest value, its unit, so that no digit is lost:
-- 2 ^ -149 for f32, 2 ^ -1074 for f64. Assumes nothing.
--     units_in f x        a finite value of the format f in units
--     units_of x          the same of an f64
--     floor_by u z        the greatest whole number that is not above z / u
--     floor_of z, ceil_of z the greatest whole number not above z units of an f64, the least not below
use Rattle.std.specs.Prelude.{ℕ, ◌*◌, ◌/◌, ◌^◌, cond, ℤ, pos, negsuc, neg_ℤ, Float}
use Rattle.std.specs.Float.{Format, nan, inf, fin, binary64}
use Rattle.std.specs.Float.Ieee.{low, up, down}

-- m * 2 ^ e with its sign; `up e / down e` is 2 ^ e, and `low f` is 149 or 1074. What is not finite has no units, and counts as 0 here
abbrev pub units_in : Format → Float → ℤ
units_in f nan = pos 0
units_in f (inf s) = pos 0
units_in f (fin s m e) = cond s (neg_ℤ (pos (m * up e * 2 ^ low f / down e))) (pos (m * up e * 2 ^ low f / down e))

abbrev pub units_of : Float → ℤ
units_of x = units_in binary64 x

abbrev pub floor_by : ℕ → ℤ → ℤ
floor_by u (pos n) = pos (n / u)
floor_by u (negsuc n) = negsuc (n / u)

abbrev pub floor_of : ℤ → ℤ
floor_of z = floor_by (2 ^ 1074) z

abbrev pub ceil_of : ℤ → ℤ
ceil_of z = neg_ℤ (floor_of (neg_ℤ z))
