-- Calls as bytes: a record is the payload's length and the kind, two bytes each, and then the payload. Assumes nothing.
--     stream_of cs     the records of the calls cs, one after the other
--     record_of c      the record of the call c
--     place            the bytes of a place, 52: no record is longer
--     kind_of c        the number of its kind, 1 to 16
--     payload_of c     the bytes of what it carries
--     bytes_of k n     the number n in k bytes, the lowest first; f32_bytes, f64_bytes: of its bit pattern, every NaN by one pattern
--     quality_byte, paint_bytes, picture_bytes, tint_bytes    a byte says which case it is, and what the case carries follows
use Rattle.std.specs.Prelude.{ℕ, zero, suc, ◌/◌, ◌%◌, List, [], ◌∷◌, ◌++◌, length, flat_map, Some, None, Option, to_bits, Float}
use Rattle.std.specs.Float.{binary32, binary64}
use Rattle.shapes.specs.declared.Affine.{Affine}
use Rattle.shapes.specs.declared.Rect.{Rect}
use Rattle.shapes.specs.declared.Path.{Path}
use Rattle.shapes.specs.declared.Color.{Color}
use Rattle.interface.specs.declared.values.AtlasPaint.{AtlasPaint}
use Rattle.interface.specs.declared.values.AtlasPaint.TheVariants.{Solid, Gradient}
use Rattle.interface.specs.declared.values.BlendMode.{BlendMode}
use Rattle.interface.specs.declared.values.ImageQuality.{ImageQuality}
use Rattle.interface.specs.declared.values.ImageQuality.TheVariants.{Low, Medium}
use Rattle.interface.specs.declared.values.AtlasCommand.{AtlasCommand}
use Rattle.interface.specs.declared.values.AtlasCommand.TheVariants.{SetTransform, SetPaint, SetPaintTransform, FillPath, FillRect, PushClipLayer, PushClipPath, PushClipRect, PushBlendLayer, PopLayer, PopClipPath}
use Rattle.interface.specs.declared.call.Picture.{Picture}
use Rattle.interface.specs.declared.call.Picture.TheVariants.{PixmapHandle, AtlasPage}
use Rattle.interface.specs.declared.call.Call.{Call}
use Rattle.interface.specs.declared.call.Call.TheVariants.{Command, SaveState, RestoreState, StrokePath, SetPaintImage, SetTint}

abbrev pub bytes_of : ℕ → ℕ → List ℕ
bytes_of zero n = []
bytes_of (suc k) n = n % 256 ∷ bytes_of k (n / 256)

abbrev pub f32_bytes : Float → List ℕ
f32_bytes x = bytes_of 4 (to_bits binary32 x)

abbrev pub f64_bytes : Float → List ℕ
f64_bytes x = bytes_of 8 (to_bits binary64 x)

abbrev pub affine_bytes : Affine → List ℕ
affine_bytes t = f64_bytes t.a ++ f64_bytes t.b ++ f64_bytes t.c ++ f64_bytes t.d ++ f64_bytes t.e ++ f64_bytes t.f

abbrev pub rect_bytes : Rect → List ℕ
rect_bytes r = f64_bytes r.x0 ++ f64_bytes r.y0 ++ f64_bytes r.x1 ++ f64_bytes r.y1

abbrev pub path_bytes : Path → List ℕ
path_bytes p = bytes_of 4 p.handle ++ rect_bytes p.bounds

abbrev pub color_bytes : Color → List ℕ
color_bytes c = f32_bytes c.r ++ f32_bytes c.g ++ f32_bytes c.b ++ f32_bytes c.a

abbrev pub blend_bytes : BlendMode → List ℕ
blend_bytes b = b.mix ∷ b.compose ∷ []

abbrev pub paint_bytes : AtlasPaint → List ℕ
paint_bytes (Solid c) = 0 ∷ color_bytes c
paint_bytes (Gradient g) = 1 ∷ bytes_of 4 g

abbrev pub quality_byte : ImageQuality → ℕ
quality_byte Low = 0
quality_byte Medium = 1

abbrev pub picture_bytes : Picture → List ℕ
picture_bytes (PixmapHandle h q) = 0 ∷ (bytes_of 4 h ++ quality_byte q ∷ [])
picture_bytes (AtlasPage n q) = 1 ∷ (bytes_of 4 n ++ quality_byte q ∷ [])

abbrev pub tint_bytes : Option Color → List ℕ
tint_bytes None = 0 ∷ []
tint_bytes (Some c) = 1 ∷ color_bytes c

abbrev pub command_kind : AtlasCommand → ℕ
command_kind (SetTransform t) = 1
command_kind (SetPaint p) = 2
command_kind (SetPaintTransform t) = 3
command_kind (FillPath p) = 4
command_kind (FillRect r) = 5
command_kind (PushClipLayer p) = 6
command_kind (PushClipPath p) = 7
command_kind (PushClipRect r) = 8
command_kind (PushBlendLayer b) = 9
command_kind PopLayer = 10
command_kind PopClipPath = 11

abbrev pub kind_of : Call → ℕ
kind_of (Command c) = command_kind c
kind_of SaveState = 12
kind_of RestoreState = 13
kind_of (StrokePath p) = 14
kind_of (SetPaintImage i) = 15
kind_of (SetTint t) = 16

abbrev pub command_payload : AtlasCommand → List ℕ
command_payload (SetTransform t) = affine_bytes t
command_payload (SetPaint p) = paint_bytes p
command_payload (SetPaintTransform t) = affine_bytes t
command_payload (FillPath p) = path_bytes p
command_payload (FillRect r) = rect_bytes r
command_payload (PushClipLayer p) = path_bytes p
command_payload (PushClipPath p) = path_bytes p
command_payload (PushClipRect r) = rect_bytes r
command_payload (PushBlendLayer b) = blend_bytes b
command_payload PopLayer = []
command_payload PopClipPath = []

abbrev pub payload_of : Call → List ℕ
payload_of (Command c) = command_payload c
payload_of SaveState = []
payload_of RestoreState = []
payload_of (StrokePath p) = path_bytes p
payload_of (SetPaintImage i) = picture_bytes i
payload_of (SetTint t) = tint_bytes t

-- a payload of a kind, with its head
abbrev pub framed : ℕ → List ℕ → List ℕ
framed k p = bytes_of 2 (length p) ++ bytes_of 2 k ++ p

abbrev pub record_of : Call → List ℕ
record_of c = framed (kind_of c) (payload_of c)

abbrev pub place : ℕ
place = 52

abbrev pub stream_of : List Call → List ℕ
stream_of cs = flat_map record_of cs
