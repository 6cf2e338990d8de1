-- The size of a picture, by whole numbers alone. A finite f64 is a whole number of units of 2 ^ -1074. Assumes nothing.
--     metrics_of g     the metrics of a glyph, or the refusal
--     from_box b       those of a box of products, y upward: one pixel more to the right, since a picture is shifted by up to three quarters
--     bounds_of o      the outline's box with each number multiplied by its scale, rounded once
use Rattle.std.specs.Prelude.{ℕ, Bool, cond, ◌&&◌, ◌||◌, ℤ, pos, negsuc, ◌+ℤ◌, ◌-ℤ◌, neg_ℤ, Ok, Err, Result, int_le, nat_lt, unsigned_abs}
use Rattle.shapes.specs.declared.Rect.{Rect}
use Rattle.shapes.specs.Numbers.{units_of, floor_of, ceil_of, finite_rect, times}
use Rattle.raster.specs.declared.glyph.RasterMetrics.{RasterMetrics}
use Rattle.raster.specs.declared.fault.RasterFault.{RasterFault}
use Rattle.raster.specs.declared.fault.RasterFault.TheVariants.{Metrics}
use Rattle.raster.specs.declared.glyph.Glyph.{Glyph}
use Rattle.raster.specs.declared.glyph.Glyph.TheVariants.{Outline, Bitmap}
use Rattle.raster.specs.declared.glyph.GlyphOutline.{GlyphOutline}
use Rattle.raster.specs.declared.glyph.GlyphBitmap.{GlyphBitmap}

abbrev pub between : ℤ → ℤ → ℤ → Bool
between lo hi z = int_le lo z && int_le z hi

-- a width or a height that a slot can have
abbrev pub is_extent : ℤ → Bool
is_extent z = between (pos 0) (pos 65533) z

-- a bearing in 16 signed bits
abbrev pub is_bearing : ℤ → Bool
is_bearing z = between (negsuc 32767) (pos 32767) z

abbrev pub extent_of : ℤ → Result ℕ RasterFault
extent_of z = cond (is_extent z) (Ok (unsigned_abs z)) (Err Metrics)

abbrev pub bearing_of : ℤ → Result ℤ RasterFault
bearing_of z = cond (is_bearing z) (Ok z) (Err Metrics)

-- from the four edges
abbrev pub from_edges : (left right top bottom : ℤ) → Result RasterMetrics RasterFault
from_edges left right top bottom =
    cond (is_extent (right -ℤ left) && is_extent (bottom -ℤ top) && is_bearing left && is_bearing top)
    (Ok (record { width = unsigned_abs (right -ℤ left); height = unsigned_abs (bottom -ℤ top); left = left; top = top }))
    (Err Metrics)

-- the box is not inverted
abbrev pub in_order : Rect → Bool
in_order b = int_le (units_of b.x0) (units_of b.x1) && int_le (units_of b.y0) (units_of b.y1)

-- the edges of a picture: outward to whole pixels, y turned downward
abbrev pub from_ordered : Rect → Result RasterMetrics RasterFault
from_ordered b = from_edges (floor_of (units_of b.x0)) (ceil_of (units_of b.x1) +ℤ pos 1) (floor_of (neg_ℤ (units_of b.y1))) (ceil_of (neg_ℤ (units_of b.y0)))

-- a product that overflows to an infinity is refused as well: no width or height in range comes of it
abbrev pub from_box : Rect → Result RasterMetrics RasterFault
from_box b = cond (finite_rect b) (cond (in_order b) (from_ordered b) (Err Metrics)) (Err Metrics)

abbrev pub bounds_of : GlyphOutline → Rect
bounds_of o = times o.path.bounds o.scale

-- a bitmap has its pixmap's size and bearings 0
abbrev pub bitmap_metrics : GlyphBitmap → RasterMetrics
bitmap_metrics b = record { width = b.pixmap.width; height = b.pixmap.height; left = pos 0; top = pos 0 }

-- wider or higher than a slot can be
abbrev pub too_large : RasterMetrics → Bool
too_large m = nat_lt 65533 m.width || nat_lt 65533 m.height

abbrev pub metrics_of : Glyph → Result RasterMetrics RasterFault
metrics_of (Outline o) = from_box (bounds_of o)
metrics_of (Bitmap b) = cond (too_large (bitmap_metrics b)) (Err Metrics) (Ok (bitmap_metrics b))
