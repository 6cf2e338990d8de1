-- Which transforms can use a picture on a page, by whole numbers of units of 2 ^ -1074: 2 ^ 1074 of them are 1, and 2 ^ 1062 are 1 / 4096. Assumes nothing.
--     straight z       at most 1 / 4096 in size
--     unit_sized z     in size within 1 / 4096 of 1
--     linear_finite t  the numbers a to d, which the test looks at, are finite
--     supported g t    the transform t serves a glyph of the kind of g; none does whose a to d are not finite
use Rattle.std.specs.Prelude.{◌+◌, ◌-◌, ◌^◌, Bool, not, ◌&&◌, ℤ, pos, int_lt, nat_le, unsigned_abs}
use Rattle.std.specs.Float.{float_is_finite, is_sign_negative}
use Rattle.floats.specs.Units.{units_of}
use Rattle.shapes.specs.declared.Affine.{Affine}
use Rattle.raster.specs.declared.glyph.Glyph.{Glyph}
use Rattle.raster.specs.declared.glyph.Glyph.TheVariants.{Outline, Bitmap}

abbrev pub straight : ℤ → Bool
straight z = nat_le (unsigned_abs z) (2 ^ 1062)

abbrev pub unit_sized : ℤ → Bool
unit_sized z = nat_le (2 ^ 1074 - 2 ^ 1062) (unsigned_abs z) && nat_le (unsigned_abs z) (2 ^ 1074 + 2 ^ 1062)

abbrev pub linear_finite : Affine → Bool
linear_finite t = float_is_finite t.a && float_is_finite t.b && float_is_finite t.c && float_is_finite t.d

abbrev pub unskewed : Affine → Bool
unskewed t = straight (units_of t.b) && straight (units_of t.c)

-- a is positive and d negative, since an outline has y upward
abbrev pub outline_ok : Affine → Bool
outline_ok t = unskewed t && unit_sized (units_of t.a) && unit_sized (units_of t.d) && int_lt (pos 0) (units_of t.a) && int_lt (units_of t.d) (pos 0)

-- the sign bits of a and d are plus: a bitmap may be scaled, and -0 is not served
abbrev pub bitmap_ok : Affine → Bool
bitmap_ok t = unskewed t && not (is_sign_negative t.a) && not (is_sign_negative t.d)

abbrev pub by_kind : Glyph → Affine → Bool
by_kind (Outline o) t = outline_ok t
by_kind (Bitmap b) t = bitmap_ok t

abbrev pub supported : Glyph → Affine → Bool
supported g t = linear_finite t && by_kind g t
