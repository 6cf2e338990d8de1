-- The parts of a drawing: the room that it asks for, and what is sent between a save and its restore. Assumes nothing; only private functions cite it.
--     Roomy m r                     r says whether eight places are free on the screen m
--     Steps m cs n                  the screen m takes the calls cs, none a save or a restore, one after the other, and becomes n
--     Sends means ran cs            whatever runs by ran, from one state of a screen to another, takes the calls cs so
--     picture_calls i p t area c    for an image i with the paint transform p: by the transform t, over the area, with tint c
--     outline_calls o style t p     for an outline; bitmap_calls b t for a bitmap; plain_calls g style t p for either
use Rattle.std.specs.Prelude.{◌≡◌, ◌<◌, ◌≤◌, List, [], ◌∷◌, None, Ok, Err, Option, Result}
use Rattle.shapes.specs.declared.Affine.{Affine}
use Rattle.shapes.specs.declared.Rect.{Rect}
use Rattle.shapes.specs.declared.Color.{Color}
use Rattle.raster.specs.declared.glyph.Glyph.{Glyph}
use Rattle.raster.specs.declared.glyph.Glyph.TheVariants.{Outline, Bitmap}
use Rattle.raster.specs.declared.glyph.GlyphOutline.{GlyphOutline}
use Rattle.raster.specs.declared.glyph.GlyphBitmap.{GlyphBitmap}
use Rattle.interface.specs.declared.values.AtlasCommand.TheVariants.{SetTransform, SetPaintTransform, FillRect}
use Rattle.interface.specs.declared.values.ImageQuality.TheVariants.{Medium}
use Rattle.interface.specs.declared.values.PaintImage.{PaintImage}
use Rattle.interface.specs.declared.call.Call.{Call}
use Rattle.interface.specs.declared.call.Call.TheVariants.{Command, SetPaintImage, SetTint}
use Rattle.interface.specs.declared.call.Picture.TheVariants.{PixmapHandle}
use Rattle.interface.specs.declared.fault.SinkFault.{SinkFault}
use Rattle.interface.specs.Faults.{sink_number}
use Rattle.interface.specs.Pictures.{pictured}
use Rattle.interface.specs.Sinks.{Sink, Sent}
use Rattle.drawing.specs.declared.style.Style.{Style}
use Rattle.drawing.specs.Shown.{scaled, path_call}

abbrev pub Roomy : Sink → Result (Unit {0}) SinkFault → Type 0
Roomy m (Ok u) = 8 ≤ m.free
Roomy m (Err f) = (m.free < 8) × (sink_number f ≡ 15)

abbrev pub Steps : Sink → List Call → Sink → Type 0
Steps m [] n = n ≡ m
Steps m (c ∷ cs) n = (k : Sink) × Sent m c (Ok tt) k × Steps k cs n

abbrev pub Sends : {S : Type 0} → (S → Sink) → (S → S → Type 0) → List Call → Type 0
Sends {S = S} means ran cs = (m n : S) → ran m n → Steps (means m) cs (means n)

abbrev pub picture_calls : PaintImage → Affine → Affine → Rect → Option Color → List Call
picture_calls i p t area c =
    SetTint c ∷ Command (SetTransform t) ∷ SetPaintImage (pictured i) ∷ Command (SetPaintTransform p) ∷ Command (FillRect area) ∷ SetTint None ∷ []

abbrev pub outline_calls : GlyphOutline → Style → Affine → Affine → List Call
outline_calls o style t p = Command (SetTransform (scaled t o.scale)) ∷ Command (SetPaintTransform p) ∷ path_call o style ∷ []

abbrev pub bitmap_calls : GlyphBitmap → Affine → List Call
bitmap_calls b t = Command (SetTransform t) ∷ SetPaintImage (PixmapHandle b.pixmap.handle Medium) ∷ Command (FillRect b.area) ∷ []

abbrev pub plain_calls : Glyph → Style → Affine → Affine → List Call
plain_calls (Outline o) style t p = outline_calls o style t p
plain_calls (Bitmap b) style t p = bitmap_calls b t
