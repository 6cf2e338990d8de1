-- Worked cases of records, as one statement. A float is written `fin s m e`: m * 2 ^ e, negative where s is true.
use Rattle.std.specs.Prelude.{◌≡◌, false, [], ◌∷◌, length, take, pos, None}
use Rattle.std.specs.Float.{nan, fin}
use Rattle.shapes.specs.declared.Affine.{Affine}
use Rattle.shapes.specs.declared.Rect.{Rect}
use Rattle.interface.specs.declared.values.AtlasPaint.TheVariants.{Gradient}
use Rattle.interface.specs.declared.values.ImageQuality.TheVariants.{Low, Medium}
use Rattle.interface.specs.declared.values.AtlasCommand.TheVariants.{SetTransform, SetPaint, FillRect, PushBlendLayer, PopLayer}
use Rattle.interface.specs.declared.call.Picture.TheVariants.{PixmapHandle, AtlasPage}
use Rattle.interface.specs.declared.call.Call.TheVariants.{Command, SaveState, RestoreState, SetPaintImage, SetTint}
use Rattle.stream_screen.specs.Stream.{f32_bytes, f64_bytes, record_of}
use Rattle.stream_screen.specs.Reads.{calls_in}

-- 1, and every NaN by one pattern
abbrev pub Numbers : Type 0
Numbers =
    (f64_bytes (fin false 1 (pos 0)) ≡ 0 ∷ 0 ∷ 0 ∷ 0 ∷ 0 ∷ 0 ∷ 240 ∷ 63 ∷ [])
    × (f64_bytes nan ≡ 0 ∷ 0 ∷ 0 ∷ 0 ∷ 0 ∷ 0 ∷ 248 ∷ 127 ∷ [])
    × (f32_bytes nan ≡ 0 ∷ 0 ∷ 192 ∷ 127 ∷ [])

abbrev pub Written : Type 0
Written =
    (record_of (Command PopLayer) ≡ 0 ∷ 0 ∷ 10 ∷ 0 ∷ [])
    × (record_of SaveState ≡ 0 ∷ 0 ∷ 12 ∷ 0 ∷ [])
    × (record_of (Command (PushBlendLayer (record { mix = 3; compose = 4 }))) ≡ 2 ∷ 0 ∷ 9 ∷ 0 ∷ 3 ∷ 4 ∷ [])
    × (record_of (Command (SetPaint (Gradient 258))) ≡ 5 ∷ 0 ∷ 2 ∷ 0 ∷ 1 ∷ 2 ∷ 1 ∷ 0 ∷ 0 ∷ [])
    × (record_of (SetPaintImage (AtlasPage 1 Medium)) ≡ 6 ∷ 0 ∷ 15 ∷ 0 ∷ 1 ∷ 1 ∷ 0 ∷ 0 ∷ 0 ∷ 1 ∷ [])
    × (record_of (SetTint None) ≡ 1 ∷ 0 ∷ 16 ∷ 0 ∷ 0 ∷ [])
    × ((r : Rect) → take 4 (record_of (Command (FillRect r))) ≡ 32 ∷ 0 ∷ 5 ∷ 0 ∷ [])
    × ((t : Affine) → length (record_of (Command (SetTransform t))) ≡ 52)

abbrev pub ReadBack : Type 0
ReadBack =
    (calls_in [] ≡ [])
    × (calls_in (0 ∷ 0 ∷ 12 ∷ 0 ∷ 0 ∷ 0 ∷ 10 ∷ 0 ∷ 0 ∷ 0 ∷ 13 ∷ 0 ∷ []) ≡ SaveState ∷ Command PopLayer ∷ RestoreState ∷ [])
    × (calls_in (6 ∷ 0 ∷ 15 ∷ 0 ∷ 0 ∷ 2 ∷ 1 ∷ 0 ∷ 0 ∷ 0 ∷ []) ≡ SetPaintImage (PixmapHandle 258 Low) ∷ [])
    × (calls_in (1 ∷ 0 ∷ 16 ∷ 0 ∷ 0 ∷ []) ≡ SetTint None ∷ [])

abbrev pub Worked : Type 0
Worked = Numbers × (Written × ReadBack)
