-- The result by IEEE 754's operations is the one by whole numbers.
use Rattle.std.proofs.Common.{◌≡◌, ap, ◌∙◌, rules}
use lib.Ieee.{to_unsigned}
use Rattle.glyph_key.specs.Steps.{near_by_ieee}
use Rattle.floats.proofs.Numbers.{passes}
use Rattle.glyph_key.proofs.Agrees.{near_is, within_an_eighth}
use Rattle.glyph_key.proofs.Nearer.{to_nearest}
use Rattle.glyph_key.proofs.bucket.nearest_quarter.Goals as goal

pub returns : goal.returns
returns c =
    let e : c.saturating_f32_to_u8.result ≡ near_by_ieee c.args.frac = c.saturating_f32_to_u8.ensures ∙ ap (to_unsigned 8) c.in_quarters.ensures in
    record { steps = e; value = e ∙ near_is c.args.frac (passes _ (search rules)); nearest = within_an_eighth; rounding = to_nearest }
