-- What a screen is sent for one glyph. Assumes nothing.
--     Shown m cs r n            the calls cs are to be shown on the screen m; answered with r, m becomes n
--     from_atlas m s t area q c the eight calls that show the slot s on the screen m: by the transform t, over the area, with quality q and tint c
--     show_plain g style t p    the five calls that show the glyph g without the atlas: by the transform t and the paint transform p
--     scaled t k                the transform t of what is k times as large
--     path_call o style         the call that fills or strokes the outline o
use Rattle.std.specs.Prelude.{◌≡◌, ◌<◌, ◌≤◌, List, [], ◌∷◌, None, Ok, Err, Option, Result, Float}
use Rattle.std.specs.Float.{binary64}
use Rattle.std.specs.Float.Ieee.{mul}
use Rattle.shapes.specs.declared.Affine.{Affine}
use Rattle.shapes.specs.declared.Rect.{Rect}
use Rattle.shapes.specs.declared.Color.{Color}
use Rattle.raster.specs.declared.glyph.Glyph.{Glyph}
use Rattle.raster.specs.declared.glyph.Glyph.TheVariants.{Outline, Bitmap}
use Rattle.raster.specs.declared.glyph.GlyphOutline.{GlyphOutline}
use Rattle.interface.specs.declared.region.AtlasSlot.{AtlasSlot}
use Rattle.interface.specs.declared.values.AtlasCommand.TheVariants.{SetTransform, SetPaintTransform, FillPath, FillRect}
use Rattle.interface.specs.declared.values.ImageQuality.{ImageQuality}
use Rattle.interface.specs.declared.values.ImageQuality.TheVariants.{Medium}
use Rattle.interface.specs.declared.call.Call.{Call}
use Rattle.interface.specs.declared.call.Call.TheVariants.{Command, SaveState, RestoreState, StrokePath, SetPaintImage, SetTint}
use Rattle.interface.specs.declared.call.Picture.TheVariants.{PixmapHandle}
use Rattle.interface.specs.declared.fault.SinkFault.{SinkFault}
use Rattle.interface.specs.Faults.{sink_number}
use Rattle.interface.specs.Pictures.{pictured_from}
use Rattle.interface.specs.Sinks.{Sink, Extended}
use Rattle.drawing.specs.declared.style.Style.{Style}
use Rattle.drawing.specs.declared.style.Style.TheVariants.{Fill, Stroke}

-- refused exactly where fewer than eight places are free, and then nothing is sent
abbrev pub Shown : Sink → List Call → Result (Unit {0}) SinkFault → Sink → Type 0
Shown m cs (Ok u) n = (8 ≤ m.free) × Extended m cs n
Shown m cs (Err f) n = (m.free < 8) × (sink_number f ≡ 15) × (n ≡ m)

-- image and paint transform are the screen's answers for the slot; the tint is taken back
abbrev pub from_atlas : Sink → AtlasSlot → Affine → Rect → ImageQuality → Option Color → List Call
from_atlas m s t area q c =
    SaveState ∷ SetTint c ∷ Command (SetTransform t) ∷ SetPaintImage (pictured_from (m.image_at s) q) ∷ Command (SetPaintTransform (m.place_at s))
    ∷ Command (FillRect area) ∷ SetTint None ∷ RestoreState ∷ []

-- a to d times the scale
abbrev pub scaled : Affine → Float → Affine
scaled t k = record { a = mul binary64 t.a k; b = mul binary64 t.b k; c = mul binary64 t.c k; d = mul binary64 t.d k; e = t.e; f = t.f }

abbrev pub path_call : GlyphOutline → Style → Call
path_call o Fill = Command (FillPath o.path)
path_call o Stroke = StrokePath o.path

-- a bitmap has nothing to stroke, so it is shown as it is
abbrev pub show_plain : Glyph → Style → Affine → Affine → List Call
show_plain (Outline o) style t p = SaveState ∷ Command (SetTransform (scaled t o.scale)) ∷ Command (SetPaintTransform p) ∷ path_call o style ∷ RestoreState ∷ []
show_plain (Bitmap b) style t p = SaveState ∷ Command (SetTransform t) ∷ SetPaintImage (PixmapHandle b.pixmap.handle Medium) ∷ Command (FillRect b.area) ∷ RestoreState ∷ []
