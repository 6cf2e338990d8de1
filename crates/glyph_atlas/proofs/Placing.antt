-- The slot in an image that a lawful cache has just taken. Assumes nothing.
use Rattle.std.proofs.Common.{◌≡◌, ℕ, ◌+◌, ◌<◌, Some, sym, ap, ◌∙◌, arith}
use Rattle.image_cache.specs.declared.image.Image.{Image}
use Rattle.image_cache.specs.Caches.{Cache, Lawful, Added}
use Rattle.interface.specs.declared.region.AtlasSlot.{AtlasSlot}
use Rattle.raster.specs.declared.glyph.RasterMetrics.{RasterMetrics}
use Rattle.glyph_atlas.specs.Atlases.{slot_in}
use Rattle.glyph_atlas.specs.Calls.{Placed}

-- the image ends before the last pixel that 16 bits can name
pub below_last : (c d : Cache) (w h id : ℕ) (i : Image) → Lawful d → Added c (w + 2) (h + 2) id d → d.live id ≡ Some i → (i.x < 65535) × (i.y < 65535)
below_last c d w h id i law a e =
    let q : a.image ≡ i = cc (a.here, e) in
    let wide : i.w ≡ w + 2 = ap (λ (j : Image). j.w) (sym q) ∙ a.wide in
    let high : i.h ≡ h + 2 = ap (λ (j : Image). j.h) (sym q) ∙ a.high in
    let r = (law.inside id i e).right in
    let b = (law.inside id i e).bottom in
    let x = law.limits.width.1 in
    let y = law.limits.height.1 in
    (omega arith, omega arith)

pub placed : (c d : Cache) (m : RasterMetrics) (id : ℕ) (i : Image) (s : AtlasSlot) → Lawful d → Added c (m.width + 2) (m.height + 2) id d → d.live id ≡ Some i → s ≡ slot_in i m → Placed c m s d
placed c d m id i s law a e z =
    let q : a.image ≡ i = cc (a.here, e) in
    let n : s.id ≡ id = ap (λ (t : AtlasSlot). t.id) z ∙ law.named id i e in
    record {
      added = record {
        fitted = a.fitted;
        fresh = ap c.live n ∙ a.fresh;
        image = i;
        wide = ap (λ (j : Image). j.w) (sym q) ∙ a.wide;
        high = ap (λ (j : Image). j.h) (sym q) ∙ a.high;
        here = ap d.live n ∙ e;
        others = λ j ne. a.others j (λ p. ne (p ∙ sym n));
        sizes = a.sizes;
      };
      its_slot = z;
    }
