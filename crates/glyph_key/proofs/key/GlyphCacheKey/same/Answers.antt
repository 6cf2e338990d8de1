-- The derived comparison compares all numbers, and so it decides equality.
use Rattle.std.proofs.Common.{◌∙◌}
use Rattle.std.proofs.lemmas.Bool.Decides.{Decides-at}
use Rattle.glyph_key.proofs.Equality.{derived_same, same_decides}
use Rattle.glyph_key.proofs.key.GlyphCacheKey.same.Goals as goal

pub returns : goal.returns
returns c =
    let value = c.eq.ensures ∙ derived_same c.args.self.now c.args.other.now in
    record { value = value; equality = Decides-at _ _ value (same_decides c.args.self.now c.args.other.now) }
