-- What the atlas makes of a letter, by the definitions of keys, transforms and metrics. Assumes nothing.
--     letter_key l     its key, or why it has none
--     finite_letter l  every number of its transform, scale, box or area is finite
--     verdict_of l     the verdict: the key's refusals come first, then numbers that are not finite, then a transform that the atlas does not serve, which is no refusal, then the metrics'
--     fault_number e   the number of a refusal
--     letter_refusal l the number with which it is refused, by the conditions alone
use Rattle.std.specs.Prelude.{ℕ, Bool, true, false, cond, ◌&&◌, List, ℤ, Some, None, Ok, Err, vec_items, Option, Result, Float}
use Rattle.std.specs.Float.{float_is_finite}
use Rattle.shapes.specs.Answers.{refused_with}
use Rattle.shapes.specs.Numbers.{finite_affine, finite_rect, finite_path}
use Rattle.glyph_key.specs.declared.key.KeyParts.{KeyParts}
use Rattle.glyph_key.specs.declared.key.GlyphCacheKey.{GlyphCacheKey}
use Rattle.glyph_key.specs.declared.fault.KeyFault.{KeyFault}
use Rattle.glyph_key.specs.Bucket.{bucket_of}
use Rattle.glyph_key.specs.Faults.{key_number}
use Rattle.glyph_key.specs.Keys.{key_of, key_refusal}
use Rattle.raster.specs.declared.glyph.Glyph.{Glyph}
use Rattle.raster.specs.declared.glyph.Glyph.TheVariants.{Outline, Bitmap}
use Rattle.raster.specs.declared.glyph.RasterMetrics.{RasterMetrics}
use Rattle.raster.specs.declared.fault.RasterFault.{RasterFault}
use Rattle.raster.specs.Faults.{raster_number}
use Rattle.raster.specs.Metric.{metrics_of}
use Rattle.raster.specs.Supported.{supported}
use Rattle.try_page.specs.declared.letter.Letter.{Letter}
use Rattle.try_page.specs.declared.verdict.Verdict.{Verdict}
use Rattle.try_page.specs.declared.verdict.Verdict.TheVariants.{Atlas, Plain}
use Rattle.try_page.specs.declared.verdict.LetterFault.{LetterFault}
use Rattle.try_page.specs.declared.verdict.LetterFault.TheVariants.{NotFinite, Key, Raster}

abbrev pub fault_number : LetterFault → ℕ
fault_number NotFinite = 1
fault_number (Key e) = key_number e
fault_number (Raster e) = raster_number e

-- an outline's bucket comes of its fraction; every bitmap has bucket 5
abbrev pub key_for : Glyph → KeyParts → Float → List ℤ → Result GlyphCacheKey KeyFault
key_for (Outline o) p x vs = key_of p (bucket_of x) vs
key_for (Bitmap b) p x vs = key_of p 5 vs

abbrev pub letter_key : Letter → Result GlyphCacheKey KeyFault
letter_key l = key_for l.glyph l.parts l.fraction (vec_items l.axes)

abbrev pub finite_glyph : Glyph → Bool
finite_glyph (Outline o) = finite_path o.path && float_is_finite o.scale
finite_glyph (Bitmap b) = finite_rect b.area

abbrev pub finite_letter : Letter → Bool
finite_letter l = finite_affine l.transform && finite_glyph l.glyph

-- from the key, whether all numbers are finite, whether the transform is served, and the metrics, in this order
abbrev pub verdict_from : Result GlyphCacheKey KeyFault → Bool → Bool → Result RasterMetrics RasterFault → Result Verdict LetterFault
verdict_from (Err e) fine served size = Err (Key e)
verdict_from (Ok k) false served size = Err NotFinite
verdict_from (Ok k) true false size = Ok (Plain k)
verdict_from (Ok k) true true (Err e) = Err (Raster e)
verdict_from (Ok k) true true (Ok m) = Ok (Atlas k m)

abbrev pub verdict_of : Letter → Result Verdict LetterFault
verdict_of l = verdict_from (letter_key l) (finite_letter l) (supported l.glyph l.transform) (metrics_of l.glyph)

abbrev pub or_else : Option ℕ → Option ℕ → Option ℕ
or_else (Some n) later = Some n
or_else None later = later

-- 2 or 3 for the key, else 1, else 5 where the transform is served
abbrev pub letter_refusal : Letter → Option ℕ
letter_refusal l =
    or_else (key_refusal l.parts (vec_items l.axes))
    (cond (finite_letter l) (cond (supported l.glyph l.transform) (refused_with raster_number (metrics_of l.glyph)) None) (Some 1))
