-- Calls read back from bytes. Assumes nothing.
--     calls_in bs      the calls of the records in bs, the first first
--     Whole bs         the bytes bs are the records of those calls, and nothing else
--     call_of k p      the call of a record of kind k with the payload p, alone in a list; none where there is no such kind
--     part p i n       n bytes of p, from the byte i on; number_at p i n: as a number, the lowest byte first; byte_at p i: the byte i alone
--     f32_at, f64_at, affine_at, ..    the value whose bytes begin at the byte i of p
use Rattle.std.specs.Prelude.{◌≡◌, ℕ, zero, suc, ◌+◌, ◌*◌, cond, List, [], ◌∷◌, ◌++◌, length, take, drop, Some, None, Option, ◌==◌, from_bits, slice_index, slice_index_or, Float}
use Rattle.std.specs.Float.{binary32, binary64}
use Rattle.shapes.specs.declared.Affine.{Affine}
use Rattle.shapes.specs.declared.Rect.{Rect}
use Rattle.shapes.specs.declared.Path.{Path}
use Rattle.shapes.specs.declared.Color.{Color}
use Rattle.interface.specs.declared.values.AtlasPaint.{AtlasPaint}
use Rattle.interface.specs.declared.values.AtlasPaint.TheVariants.{Solid, Gradient}
use Rattle.interface.specs.declared.values.BlendMode.{BlendMode}
use Rattle.interface.specs.declared.values.ImageQuality.{ImageQuality}
use Rattle.interface.specs.declared.values.ImageQuality.TheVariants.{Low, Medium}
use Rattle.interface.specs.declared.values.AtlasCommand.TheVariants.{SetTransform, SetPaint, SetPaintTransform, FillPath, FillRect, PushClipLayer, PushClipPath, PushClipRect, PushBlendLayer, PopLayer, PopClipPath}
use Rattle.interface.specs.declared.call.Picture.{Picture}
use Rattle.interface.specs.declared.call.Picture.TheVariants.{PixmapHandle, AtlasPage}
use Rattle.interface.specs.declared.call.Call.{Call}
use Rattle.interface.specs.declared.call.Call.TheVariants.{Command, SaveState, RestoreState, StrokePath, SetPaintImage, SetTint}
use Rattle.stream_screen.specs.Stream.{stream_of}

abbrev pub number_of : List ℕ → ℕ
number_of [] = 0
number_of (b ∷ bs) = b + 256 * number_of bs

abbrev pub part : List ℕ → ℕ → ℕ → List ℕ
part p i n = take n (drop i p)

abbrev pub byte_at : List ℕ → ℕ → ℕ
byte_at p i = slice_index p i

abbrev pub number_at : List ℕ → ℕ → ℕ → ℕ
number_at p i n = number_of (part p i n)

abbrev pub f32_at : List ℕ → ℕ → Float
f32_at p i = from_bits binary32 (number_at p i 4)

abbrev pub f64_at : List ℕ → ℕ → Float
f64_at p i = from_bits binary64 (number_at p i 8)

abbrev pub affine_at : List ℕ → Affine
affine_at p = record { a = f64_at p 0; b = f64_at p 8; c = f64_at p 16; d = f64_at p 24; e = f64_at p 32; f = f64_at p 40 }

abbrev pub rect_at : List ℕ → ℕ → Rect
rect_at p i = record { x0 = f64_at p i; y0 = f64_at p (i + 8); x1 = f64_at p (i + 16); y1 = f64_at p (i + 24) }

abbrev pub path_at : List ℕ → Path
path_at p = record { handle = number_at p 0 4; bounds = rect_at p 4 }

abbrev pub color_at : List ℕ → ℕ → Color
color_at p i = record { r = f32_at p i; g = f32_at p (i + 4); b = f32_at p (i + 8); a = f32_at p (i + 12) }

abbrev pub blend_at : List ℕ → BlendMode
blend_at p = record { mix = byte_at p 0; compose = byte_at p 1 }

abbrev pub paint_at : List ℕ → AtlasPaint
paint_at p = cond (byte_at p 0 == 0) (Solid (color_at p 1)) (Gradient (number_at p 1 4))

abbrev pub quality_at : List ℕ → ImageQuality
quality_at p = cond (byte_at p 5 == 0) Low Medium

abbrev pub picture_at : List ℕ → Picture
picture_at p = cond (byte_at p 0 == 0) (PixmapHandle (number_at p 1 4) (quality_at p)) (AtlasPage (number_at p 1 4) (quality_at p))

abbrev pub tint_at : List ℕ → Option Color
tint_at p = cond (byte_at p 0 == 0) None (Some (color_at p 1))

-- by the kind: none at 0, then 1 to 16
abbrev pub calls_by_kind : List ℕ → List (List Call)
calls_by_kind p =
    []
    ∷ (Command (SetTransform (affine_at p)) ∷ [])
    ∷ (Command (SetPaint (paint_at p)) ∷ [])
    ∷ (Command (SetPaintTransform (affine_at p)) ∷ [])
    ∷ (Command (FillPath (path_at p)) ∷ [])
    ∷ (Command (FillRect (rect_at p 0)) ∷ [])
    ∷ (Command (PushClipLayer (path_at p)) ∷ [])
    ∷ (Command (PushClipPath (path_at p)) ∷ [])
    ∷ (Command (PushClipRect (rect_at p 0)) ∷ [])
    ∷ (Command (PushBlendLayer (blend_at p)) ∷ [])
    ∷ (Command PopLayer ∷ [])
    ∷ (Command PopClipPath ∷ [])
    ∷ (SaveState ∷ [])
    ∷ (RestoreState ∷ [])
    ∷ (StrokePath (path_at p) ∷ [])
    ∷ (SetPaintImage (picture_at p) ∷ [])
    ∷ (SetTint (tint_at p) ∷ [])
    ∷ []

abbrev pub call_of : ℕ → List ℕ → List Call
call_of k p = slice_index_or (calls_by_kind p) k []

-- the first n records of bs: the payload's length, the kind, the payload, and what follows
abbrev pub read : ℕ → List ℕ → List Call
read zero bs = []
read (suc n) [] = []
read (suc n) (b ∷ bs) =
    call_of (number_at (b ∷ bs) 2 2) (part (b ∷ bs) 4 (number_at (b ∷ bs) 0 2)) ++ read n (drop (number_at (b ∷ bs) 0 2) (drop 4 (b ∷ bs)))

-- no list of bytes has more records than bytes
abbrev pub calls_in : List ℕ → List Call
calls_in bs = read (length bs) bs

abbrev pub Whole : List ℕ → Type 0
Whole bs = bs ≡ stream_of (calls_in bs)
