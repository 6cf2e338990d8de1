-- What the numbers of an outline's picture say of its box, in the words of pixels, with no floor and no ceiling. Assumes nothing.
--     Covers u x0 y0 x1 y1 m    u units being one pixel, the picture m begins in the column and the row that the box begins in, and ends in the row that it
--                               ends in; it has one column more than the box, for the shift by a fraction of a pixel. y is turned downward
--     covers g r                so it is of an outline that has a picture
--     Measured g r              r is the answer for the glyph g: its metrics, with this said of them, or a refusal with 5
use Rattle.std.specs.Prelude.{◌≡◌, ℕ, ◌^◌, ℤ, pos, ◌+ℤ◌, ◌-ℤ◌, ◌*ℤ◌, neg_ℤ, ◌≤ℤ◌, ◌<ℤ◌, IfErr, Ok, Err, Result}
use Rattle.floats.specs.Units.{units_of}
use Rattle.shapes.specs.declared.Rect.{Rect}
use Rattle.raster.specs.declared.glyph.Glyph.{Glyph}
use Rattle.raster.specs.declared.glyph.Glyph.TheVariants.{Outline, Bitmap}
use Rattle.raster.specs.declared.glyph.RasterMetrics.{RasterMetrics}
use Rattle.raster.specs.declared.fault.RasterFault.{RasterFault}
use Rattle.raster.specs.Faults.{raster_number}
use Rattle.raster.specs.Metric.{bounds_of, metrics_of}

pub record Covers (u : ℕ) (x0 y0 x1 y1 : ℤ) (m : RasterMetrics) : Type 0 where
  pub left_edge : (m.left *ℤ pos u) ≤ℤ x0
  pub left_near : x0 <ℤ ((m.left +ℤ pos 1) *ℤ pos u)
  pub right_edge : x1 ≤ℤ ((m.left +ℤ pos m.width -ℤ pos 1) *ℤ pos u)
  pub right_near : ((m.left +ℤ pos m.width -ℤ pos 2) *ℤ pos u) <ℤ x1
  pub top_edge : (m.top *ℤ pos u) ≤ℤ neg_ℤ y1
  pub top_near : neg_ℤ y1 <ℤ ((m.top +ℤ pos 1) *ℤ pos u)
  pub bottom_edge : neg_ℤ y0 ≤ℤ ((m.top +ℤ pos m.height) *ℤ pos u)
  pub bottom_near : ((m.top +ℤ pos m.height -ℤ pos 1) *ℤ pos u) <ℤ neg_ℤ y0

abbrev pub covers_box : Rect → RasterMetrics → Type 0
covers_box b m = Covers (2 ^ 1074) (units_of b.x0) (units_of b.y0) (units_of b.x1) (units_of b.y1) m

abbrev pub covers : Glyph → Result RasterMetrics RasterFault → Type 0
covers (Outline o) (Ok m) = covers_box (bounds_of o) m
covers (Outline o) (Err e) = Unit {0}
covers (Bitmap b) r = Unit {0}

pub record Measured (g : Glyph) (r : Result RasterMetrics RasterFault) : Type 0 where
  pub answer : r ≡ metrics_of g
  pub number : IfErr r (λ e. raster_number e ≡ 5)
  pub covered : covers g r
