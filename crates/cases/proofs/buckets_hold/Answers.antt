-- Each bucket by computation.
use Rattle.std.proofs.Common.{◌≡◌, true, ◌&&◌, eqb, refl, ◌∙◌}
use lib.Ieee.{of_bits, neg, size}
use Rattle.glyph_key.specs.Bucket.{near_of}
use Rattle.cases.proofs.buckets_hold.Goals as goal

pub returns : goal.returns
unfolding near_of of_bits neg size
returns c =
    let a : c.quantize_subpixel.result ≡ 1 = c.quantize_subpixel.ensures.value in
    let b : c.quantize_subpixel-2.result ≡ 3 = c.quantize_subpixel-2.ensures.value in
    let d : c.quantize_subpixel-3.result ≡ 3 = c.quantize_subpixel-3.ensures.value in
    let e : c.quantize_subpixel-4.result ≡ 0 = c.quantize_subpixel-4.ensures.value in
    let f : c.quantize_subpixel-5.result ≡ 3 = c.quantize_subpixel-5.ensures.value in
    record {
      cases = (refl, refl, refl, refl, refl, refl, refl, refl, refl);
      run = c.eq.ensures ∙ (λ i. eqb (a i) 1 && (eqb (b i) 3 && (eqb (d i) 3 && (eqb (e i) 0 && (eqb (f i) 3 && true)))));
    }
