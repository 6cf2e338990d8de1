-- Shapes made of floats. Assumes nothing.
--     finite_affine t, finite_rect r, finite_path p, finite_color c    every number of it is finite: no NaN, no infinity
--     times r k           the box with each number multiplied by k, each product rounded once
--     color_of r g b a    the colour whose numbers have these bit patterns
--     zero, one           0 and 1
--     natural n, whole z  a whole number as an f64
use Rattle.std.specs.Prelude.{ℕ, Bool, ◌&&◌, ℤ, pos, from_bits, Float}
use Rattle.std.specs.Float.Ieee.{mul, of_int}
use Rattle.std.specs.Float.{float_is_finite, binary32, binary64}
pub use Rattle.std.specs.Float.{float_zero as zero, float_one as one}
pub use Rattle.floats.specs.Units.{units_of, floor_of, ceil_of}
use Rattle.shapes.specs.declared.Affine.{Affine}
use Rattle.shapes.specs.declared.Rect.{Rect}
use Rattle.shapes.specs.declared.Path.{Path}
use Rattle.shapes.specs.declared.Color.{Color}

abbrev pub finite_affine : Affine → Bool
finite_affine t = float_is_finite t.a && float_is_finite t.b && float_is_finite t.c && float_is_finite t.d && float_is_finite t.e && float_is_finite t.f

abbrev pub finite_rect : Rect → Bool
finite_rect r = float_is_finite r.x0 && float_is_finite r.y0 && float_is_finite r.x1 && float_is_finite r.y1

abbrev pub finite_path : Path → Bool
finite_path p = finite_rect p.bounds

abbrev pub finite_color : Color → Bool
finite_color c = float_is_finite c.r && float_is_finite c.g && float_is_finite c.b && float_is_finite c.a

abbrev pub color_of : (r g b a : ℕ) → Color
color_of r g b a = record { r = from_bits binary32 r; g = from_bits binary32 g; b = from_bits binary32 b; a = from_bits binary32 a }

abbrev pub times : Rect → Float → Rect
times r k = record { x0 = mul binary64 r.x0 k; y0 = mul binary64 r.y0 k; x1 = mul binary64 r.x1 k; y1 = mul binary64 r.y1 k }

abbrev pub whole : ℤ → Float
whole z = of_int binary64 z

abbrev pub natural : ℕ → Float
natural n = whole (pos n)
