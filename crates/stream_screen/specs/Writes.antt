-- What a write adds to a lent buffer, and that numbers are of their format. Assumes nothing.
--     written w        the bytes that the writer has written
--     Wrote bs v w     the writer v has written the bs more, and is w: nothing before them differs, and the buffer is as long as it was
--     Room n w         the writer has room for n bytes more
--     FitsCall c       every number of the call c is one of its type: a float of its format, a handle of 32 bits
use Rattle.std.specs.Prelude.{◌≡◌, ℕ, ◌+◌, ◌^◌, ◌<◌, ◌≤◌, T, List, ◌++◌, length, take, Some, None, Option}
use Rattle.std.specs.Float.{binary32, binary64}
use Rattle.std.specs.Float.Ieee.{fits}
use Rattle.shapes.specs.declared.Affine.{Affine}
use Rattle.shapes.specs.declared.Rect.{Rect}
use Rattle.shapes.specs.declared.Path.{Path}
use Rattle.shapes.specs.declared.Color.{Color}
use Rattle.interface.specs.declared.values.AtlasPaint.{AtlasPaint}
use Rattle.interface.specs.declared.values.AtlasPaint.TheVariants.{Solid, Gradient}
use Rattle.interface.specs.declared.values.AtlasCommand.{AtlasCommand}
use Rattle.interface.specs.declared.values.AtlasCommand.TheVariants.{SetTransform, SetPaint, SetPaintTransform, FillPath, FillRect, PushClipLayer, PushClipPath, PushClipRect, PushBlendLayer, PopLayer, PopClipPath}
use Rattle.interface.specs.declared.call.Picture.{Picture}
use Rattle.interface.specs.declared.call.Picture.TheVariants.{PixmapHandle, AtlasPage}
use Rattle.interface.specs.declared.call.Call.{Call}
use Rattle.interface.specs.declared.call.Call.TheVariants.{Command, SaveState, RestoreState, StrokePath, SetPaintImage, SetTint}
use Rattle.stream_screen.specs.declared.writer.Writer.{Writer}

abbrev pub written : Writer → List ℕ
written w = take w.used w.out.now

-- by the plain parts of the two writers
pub record WroteIn (bs out : List ℕ) (used : ℕ) (out' : List ℕ) (used' : ℕ) : Type 0 where
  pub adds : take used' out' ≡ take used out ++ bs
  pub more : used' ≡ used + length bs
  pub long : length out' ≡ length out

abbrev pub Wrote : List ℕ → Writer → Writer → Type 0
Wrote bs v w = WroteIn bs v.out.now v.used w.out.now w.used

abbrev pub Room : ℕ → Writer → Type 0
Room n w = w.used + n ≤ length w.out.now

pub record FitsAffine (t : Affine) : Type 0 where
  pub a_fits : T (fits binary64 t.a)
  pub b_fits : T (fits binary64 t.b)
  pub c_fits : T (fits binary64 t.c)
  pub d_fits : T (fits binary64 t.d)
  pub e_fits : T (fits binary64 t.e)
  pub f_fits : T (fits binary64 t.f)

pub record FitsRect (r : Rect) : Type 0 where
  pub x0_fits : T (fits binary64 r.x0)
  pub y0_fits : T (fits binary64 r.y0)
  pub x1_fits : T (fits binary64 r.x1)
  pub y1_fits : T (fits binary64 r.y1)

abbrev pub FitsHandle : ℕ → Type 0
FitsHandle n = n < 2 ^ 32

pub record FitsPath (p : Path) : Type 0 where
  pub handle_fits : FitsHandle p.handle
  pub bounds_fit : FitsRect p.bounds

pub record FitsColor (c : Color) : Type 0 where
  pub r_fits : T (fits binary32 c.r)
  pub g_fits : T (fits binary32 c.g)
  pub b_fits : T (fits binary32 c.b)
  pub a_fits : T (fits binary32 c.a)

abbrev pub FitsPaint : AtlasPaint → Type 0
FitsPaint (Solid c) = FitsColor c
FitsPaint (Gradient g) = FitsHandle g

abbrev pub FitsPicture : Picture → Type 0
FitsPicture (PixmapHandle h q) = FitsHandle h
FitsPicture (AtlasPage n q) = FitsHandle n

abbrev pub FitsTint : Option Color → Type 0
FitsTint None = Unit {0}
FitsTint (Some c) = FitsColor c

abbrev pub FitsCommand : AtlasCommand → Type 0
FitsCommand (SetTransform t) = FitsAffine t
FitsCommand (SetPaint p) = FitsPaint p
FitsCommand (SetPaintTransform t) = FitsAffine t
FitsCommand (FillPath p) = FitsPath p
FitsCommand (FillRect r) = FitsRect r
FitsCommand (PushClipLayer p) = FitsPath p
FitsCommand (PushClipPath p) = FitsPath p
FitsCommand (PushClipRect r) = FitsRect r
FitsCommand (PushBlendLayer b) = Unit {0}
FitsCommand PopLayer = Unit {0}
FitsCommand PopClipPath = Unit {0}

abbrev pub FitsCall : Call → Type 0
FitsCall (Command c) = FitsCommand c
FitsCall SaveState = Unit {0}
FitsCall RestoreState = Unit {0}
FitsCall (StrokePath p) = FitsPath p
FitsCall (SetPaintImage i) = FitsPicture i
FitsCall (SetTint t) = FitsTint t
