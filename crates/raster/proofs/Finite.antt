-- Each number of a shape is finite where all are. Assumes nothing.
use Rattle.std.proofs.Common.{Bool, ◌&&◌, T}
use lib.Ieee.Fits.{and_l, and_r}
use Rattle.std.specs.Float.{float_is_finite}
use Rattle.shapes.specs.declared.Affine.{Affine}
use Rattle.shapes.specs.declared.Rect.{Rect}
use Rattle.shapes.specs.Numbers.{finite_rect}
use Rattle.raster.specs.Supported.{linear_finite}

-- four tests in a row
record AllFour (a b c d : Bool) : Type 0 where
  one : T a
  two : T b
  three : T c
  four : T d

all_four : (a b c d : Bool) → T (a && b && c && d) → AllFour a b c d
all_four a b c d h =
    let abc = and_l (a && b && c) d h in
    let ab = and_l (a && b) c abc in
    record { one = and_l a b ab; two = and_r a b ab; three = and_r (a && b) c abc; four = and_r (a && b && c) d h }

-- the numbers a to d of a transform
pub record FiniteLinear (t : Affine) : Type 0 where
  pub a_is : T (float_is_finite t.a)
  pub b_is : T (float_is_finite t.b)
  pub c_is : T (float_is_finite t.c)
  pub d_is : T (float_is_finite t.d)

pub linear : (t : Affine) → T (linear_finite t) → FiniteLinear t
linear t h =
    let all = all_four (float_is_finite t.a) (float_is_finite t.b) (float_is_finite t.c) (float_is_finite t.d) h in
    record { a_is = all.one; b_is = all.two; c_is = all.three; d_is = all.four }

-- the four numbers of a box
pub record FiniteSides (b : Rect) : Type 0 where
  pub x0_is : T (float_is_finite b.x0)
  pub y0_is : T (float_is_finite b.y0)
  pub x1_is : T (float_is_finite b.x1)
  pub y1_is : T (float_is_finite b.y1)

pub sides : (b : Rect) → T (finite_rect b) → FiniteSides b
sides b h =
    let all = all_four (float_is_finite b.x0) (float_is_finite b.y0) (float_is_finite b.x1) (float_is_finite b.y1) h in
    record { x0_is = all.one; y0_is = all.two; x1_is = all.three; y1_is = all.four }
