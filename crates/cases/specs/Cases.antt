-- Worked cases, as one statement. A float is written `fin s m e`: m * 2 ^ e, negative where s is true; `negsuc n` is -(n + 1).
use Rattle.std.specs.Prelude.{◌≡◌, ℕ, ◌-◌, ◌*◌, ◌^◌, true, false, pos, negsuc, Some, Ok, Float}
use Rattle.std.specs.Float.{nan, inf, fin}
use Rattle.shapes.specs.declared.Affine.{Affine}
use Rattle.shapes.specs.declared.Rect.{Rect}
use Rattle.shapes.specs.Answers.{refused_with}
use Rattle.shapes.specs.Numbers.{zero, one}
use Rattle.glyph_key.specs.Bucket.{bucket_of, quarters}
use Rattle.raster.specs.declared.glyph.Glyph.{Glyph}
use Rattle.raster.specs.declared.glyph.Glyph.TheVariants.{Outline, Bitmap}
use Rattle.raster.specs.Faults.{raster_number}
use Rattle.raster.specs.Metric.{metrics_of}
use Rattle.raster.specs.Supported.{supported}
use Rattle.cases.specs.Cells.{Lists, Cells}

-- 0.125, 0.875, -0.25, NaN; both infinities; -0.375, whose sum with 1 is a tie and goes up
-- and -(0.375 + 2 ^ -25), whose sum with 1 an f32 rounds to 0.625, so that it gives 3; exactly it would be 2
abbrev pub Buckets : Type 0
Buckets =
    (bucket_of (fin false 1 (negsuc 2)) ≡ 1)
    × (bucket_of (fin false 7 (negsuc 2)) ≡ 3)
    × (bucket_of (fin true 1 (negsuc 1)) ≡ 3)
    × (bucket_of nan ≡ 0)
    × (bucket_of (inf false) ≡ 0)
    × (bucket_of (inf true) ≡ 0)
    × (bucket_of (fin true 3 (negsuc 2)) ≡ 3)
    × (bucket_of (fin true 12582913 (negsuc 24)) ≡ 3)
    × (quarters (2 ^ 149 - 12582913 * 2 ^ 124) ≡ 2)

abbrev pub outline : Rect → Glyph
outline b = Outline (record { path = record { handle = 0; bounds = b }; scale = one })

abbrev pub bitmap : ℕ → Glyph
bitmap w = Bitmap (record { pixmap = record { handle = 0; width = w; height = 1 }; area = record { x0 = zero; y0 = zero; x1 = one; y1 = one } })

-- box (0.5, -2, 6.25, 7.5)
abbrev pub letter : Rect
letter = record { x0 = fin false 1 (negsuc 0); y0 = fin true 1 (pos 1); x1 = fin false 25 (negsuc 1); y1 = fin false 15 (negsuc 0) }

-- box (0, 0, w, 1), one pixel wider as a picture
abbrev pub wide : Float → Rect
wide w = record { x0 = zero; y0 = zero; x1 = w; y1 = one }

abbrev pub skewed : Float → Affine
skewed b = record { a = one; b = b; c = zero; d = fin true 1 (pos 0); e = zero; f = zero }

abbrev pub upright : Float → Affine
upright a = record { a = a; b = zero; c = zero; d = one; e = zero; f = zero }

-- a skew of exactly 1 / 4096 serves, the next f64 does not; an outline has y upward, a bitmap downward; -0 has no plus sign
abbrev pub Transforms : Type 0
Transforms =
    (supported (outline letter) (skewed (fin false 1 (negsuc 11))) ≡ true)
    × (supported (outline letter) (skewed (fin true 1 (negsuc 11))) ≡ true)
    × (supported (outline letter) (skewed (fin false 4503599627370497 (negsuc 63))) ≡ false)
    × (supported (outline letter) (upright one) ≡ false)
    × (supported (bitmap 1) (upright one) ≡ true)
    × (supported (bitmap 1) (upright (fin true 0 (pos 0))) ≡ false)
    × (supported (bitmap 1) (upright (inf false)) ≡ false)

-- 8 by 10 with bearings 0 and -8; a width of 65533 passes, 65534 is refused with 5; so is a product that overflows
abbrev pub Sizes : Type 0
Sizes =
    (metrics_of (outline letter) ≡ Ok (record { width = 8; height = 10; left = pos 0; top = negsuc 7 }))
    × (metrics_of (outline (wide (fin false 16383 (pos 2)))) ≡ Ok (record { width = 65533; height = 1; left = pos 0; top = negsuc 0 }))
    × (refused_with raster_number (metrics_of (outline (wide (fin false 65533 (pos 0))))) ≡ Some 5)
    × (metrics_of (bitmap 65533) ≡ Ok (record { width = 65533; height = 1; left = pos 0; top = pos 0 }))
    × (refused_with raster_number (metrics_of (bitmap 65534)) ≡ Some 5)
    × (refused_with raster_number (metrics_of (Outline (record { path = record { handle = 0; bounds = wide (fin false 1 (pos 1023)) }; scale = fin false 1 (pos 1) }))) ≡ Some 5)

abbrev pub Cases : Type 0
Cases = Buckets × Transforms × Sizes × Lists × Cells
