-- The tests on one number of a transform by the comparisons of IEEE 754, which round nothing. The literals are f64 bit patterns.
--     nearly_straight x    |x| is at most 1 / 4096
--     nearly_unit x        |x| lies from 1 - 1 / 4096 to 1 + 1 / 4096
use Rattle.std.specs.Prelude.{Bool, false, ◌&&◌, from_bits, Float}
use Rattle.std.specs.Float.Ieee.{le}
use Rattle.std.specs.Float.{float_with_sign, binary64}

abbrev pub nearly_zero : Float
nearly_zero = from_bits binary64 0x3f30_0000_0000_0000

abbrev pub under_one : Float
under_one = from_bits binary64 0x3fef_fe00_0000_0000

abbrev pub over_one : Float
over_one = from_bits binary64 0x3ff0_0100_0000_0000

abbrev pub nearly_straight : Float → Bool
nearly_straight x = le (float_with_sign false x) nearly_zero

abbrev pub nearly_unit : Float → Bool
nearly_unit x = le under_one (float_with_sign false x) && le (float_with_sign false x) over_one
