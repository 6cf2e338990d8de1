-- Reading a line. Assumes nothing.
--     left_of w            at most how many words are left to read
--     kind_of g            whether a glyph is an outline or a bitmap
--     PartsFrom d p        the key's parts p are what the fields d give, with the defaults for fields that are left out
--     OutlineFrom d o      likewise of an outline
--     BitmapFrom d b       and of a bitmap, whose area is the whole pixmap where it is left out
--     PictureFrom d k g    and of a glyph of the kind k
--     usual_transform k    the transform of a letter of kind k, where it is left out: an outline is turned over
--     axes_from d          the axis values
use Rattle.std.specs.Prelude.{◌≡◌, ℕ, true, false, List, [], ℤ, pos, Some, None, vec_items, Option, Vec, from_bits, Float}
use Rattle.std.specs.Float.Ieee.{of_int}
use Rattle.std.specs.Float.{float_zero, float_one, fin, binary64}
use Rattle.std.specs.Str.Iter.{split_ascii_whitespace_left}
use Rattle.std.specs.Option.{unwrap_or}
use Rattle.std.specs.declared.alloc.Global.{Global}
use Rattle.shapes.specs.declared.Affine.{Affine}
use Rattle.shapes.specs.declared.Rect.{Rect}
use Rattle.glyph_key.specs.declared.key.FontEmbolden.{FontEmbolden}
use Rattle.glyph_key.specs.declared.key.Join.TheVariants.{Miter}
use Rattle.glyph_key.specs.declared.key.KeyParts.{KeyParts}
use Rattle.raster.specs.declared.glyph.Glyph.{Glyph}
use Rattle.raster.specs.declared.glyph.Glyph.TheVariants as glyphs
use Rattle.raster.specs.declared.glyph.GlyphOutline.{GlyphOutline}
use Rattle.raster.specs.declared.glyph.GlyphBitmap.{GlyphBitmap}
use Rattle.try_page.specs.declared.draft.Draft.{Draft}
use Rattle.try_page.specs.declared.field.Kind.{Kind}
use Rattle.try_page.specs.declared.field.Kind.TheVariants.{Outline, Bitmap}
use Rattle.try_page.specs.declared.words.Words.{Words}

abbrev pub left_of : Words → ℕ
left_of w = split_ascii_whitespace_left w.rest

abbrev pub kind_of : Glyph → Kind
kind_of (glyphs.Outline o) = Outline
kind_of (glyphs.Bitmap b) = Bitmap

-- 0 0 miter 4 0.1
abbrev pub no_embolden : FontEmbolden
no_embolden = record { amount_x = float_zero; amount_y = float_zero; join = Miter; miter_limit = fin false 1 (pos 2); tolerance = from_bits binary64 0x3fb9_9999_9999_999a }

pub record PartsFrom (d : Draft) (p : KeyParts) : Type 0 where
  pub of_font : d.font ≡ Some p.font_id
  pub of_index : p.font_index ≡ unwrap_or d.index 0
  pub of_glyph : d.glyph ≡ Some p.glyph_id
  pub of_size : d.size ≡ Some p.size
  pub of_hinted : p.hinted ≡ unwrap_or d.hinted false
  pub of_color : p.context_color_packed ≡ unwrap_or d.color 0
  pub of_embolden : p.embolden ≡ unwrap_or d.embolden no_embolden

pub record OutlineFrom (d : Draft) (o : GlyphOutline) : Type 0 where
  pub of_bounds : d.bounds ≡ Some o.path.bounds
  pub of_path : o.path.handle ≡ unwrap_or d.path 0
  pub of_scale : o.scale ≡ unwrap_or d.scale float_one

-- 0 0 W H
abbrev pub whole : ℕ → ℕ → Rect
whole w h = record { x0 = float_zero; y0 = float_zero; x1 = of_int binary64 (pos w); y1 = of_int binary64 (pos h) }

pub record BitmapFrom (d : Draft) (b : GlyphBitmap) : Type 0 where
  pub of_pixmap : d.pixmap ≡ Some b.pixmap
  pub of_area : b.area ≡ unwrap_or d.area (whole b.pixmap.width b.pixmap.height)

abbrev pub PictureFrom : Draft → Kind → Glyph → Type 0
PictureFrom d Outline (glyphs.Outline o) = OutlineFrom d o
PictureFrom d Outline (glyphs.Bitmap b) = ⊥
PictureFrom d Bitmap (glyphs.Outline o) = ⊥
PictureFrom d Bitmap (glyphs.Bitmap b) = BitmapFrom d b

abbrev pub downward : Kind → Float
downward Outline = fin true 1 (pos 0)
downward Bitmap = float_one

abbrev pub usual_transform : Kind → Affine
usual_transform k = record { a = float_one; b = float_zero; c = float_zero; d = downward k; e = float_zero; f = float_zero }

abbrev pub listed : Option (Vec ℤ Global) → List ℤ
listed None = []
listed (Some v) = vec_items v

abbrev pub axes_from : Draft → List ℤ
axes_from d = listed d.axes
