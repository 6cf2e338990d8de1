-- By computation.
use Rattle.std.proofs.Common.{false, negsuc, refl, ap, ◌∙◌}
use lib.Ieee.{fin, of_bits, neg}
use Rattle.std.specs.Float.{float_is_finite, is_sign_negative}
use Rattle.raster.specs.declared.glyph.Glyph.{Glyph}
use Rattle.raster.specs.Supported.{supported}
use Rattle.cases.specs.Cases.{skewed}
use Rattle.cases.proofs.transforms_hold.Goals as goal

pub returns : goal.returns
unfolding of_bits neg float_is_finite is_sign_negative
returns c = record {
  cases = (refl, refl, refl, refl, refl, refl, refl);
  run = c.supports_atlas_caching.ensures ∙ ap (λ (g : Glyph). supported g (skewed (fin false 1 (negsuc 11)))) c.outline.ensures;
}
