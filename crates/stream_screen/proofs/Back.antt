-- A call's payload, read back, is the call.
use Rattle.std.proofs.Common.{◌≡◌, ℕ, zero, suc, ◌/◌, ◌^◌, ◌<◌, T, [], ◌∷◌, Option, ap, ◌∙◌, pow-suc, arith}
use lib.Ieee.{Float, binary32, binary64, to_bits, of_bits, fits}
use lib.Ieee.Bits.{of_bits-to_bits, to_bits-lt}
use Rattle.shapes.specs.declared.Affine.{Affine}
use Rattle.shapes.specs.declared.Rect.{Rect}
use Rattle.shapes.specs.declared.Path.{Path}
use Rattle.shapes.specs.declared.Color.{Color}
use Rattle.interface.specs.declared.values.AtlasPaint.{AtlasPaint}
use Rattle.interface.specs.declared.call.Picture.{Picture}
use Rattle.interface.specs.declared.call.Call.{Call}
use Rattle.stream_screen.specs.Stream.{bytes_of, f32_bytes, f64_bytes, affine_bytes, rect_bytes, path_bytes, color_bytes, paint_bytes, picture_bytes, tint_bytes, kind_of, payload_of}
use Rattle.stream_screen.specs.Reads.{number_of, affine_at, rect_at, path_at, color_at, paint_at, picture_at, tint_at, call_of}
use Rattle.stream_screen.specs.Writes.{FitsAffine, FitsRect, FitsPath, FitsColor, FitsPaint, FitsPicture, FitsTint, FitsCall}

-- k bytes back to their number
pub number_back : (k n : ℕ) → n < 256 ^ k → number_of (bytes_of k n) ≡ n
number_back zero n h = omega arith
number_back (suc k) n h =
    let ih = number_back k (n / 256) (omega (arith, pow-suc 256 k)) in
    omega (arith, ih)

f64_back : (x : Float) → T (fits binary64 x) → of_bits binary64 (number_of (f64_bytes x)) ≡ x
f64_back x h = ap (of_bits binary64) (number_back 8 (to_bits binary64 x) (to_bits-lt binary64 x h)) ∙ of_bits-to_bits binary64 x h

f32_back : (x : Float) → T (fits binary32 x) → of_bits binary32 (number_of (f32_bytes x)) ≡ x
f32_back x h = ap (of_bits binary32) (number_back 4 (to_bits binary32 x) (to_bits-lt binary32 x h)) ∙ of_bits-to_bits binary32 x h

affine_back : (t : Affine) → FitsAffine t → affine_at (affine_bytes t) ≡ t
affine_back t h = grind (arith, f64_back)

rect_back : (r : Rect) → FitsRect r → rect_at (rect_bytes r) 0 ≡ r
rect_back r h = grind (arith, f64_back)

path_back : (p : Path) → FitsPath p → path_at (path_bytes p) ≡ p
path_back p h = grind (arith, number_back, rect_back)

color_back : (c : Color) → FitsColor c → color_at (color_bytes c) 0 ≡ c
color_back c h = grind (arith, f32_back)

paint_back : (p : AtlasPaint) → FitsPaint p → paint_at (paint_bytes p) ≡ p
paint_back p h = grind (arith, color_back, number_back)

picture_back : (i : Picture) → FitsPicture i → picture_at (picture_bytes i) ≡ i
picture_back i h = grind (arith, number_back)

tint_back : (t : Option Color) → FitsTint t → tint_at (tint_bytes t) ≡ t
tint_back t h = grind (arith, color_back)

pub call_back : (c : Call) → FitsCall c → call_of (kind_of c) (payload_of c) ≡ c ∷ []
call_back c h = grind (arith, affine_back, rect_back, path_back, paint_back, picture_back, tint_back)
