use Rattle.std.proofs.Common.{Bool, ap, ◌∙◌}
use Rattle.indexmap.specs.IndexSet.{contains}
use Rattle.glyph_key.specs.declared.key.GlyphCacheKey.{GlyphCacheKey}
use Rattle.try_page.proofs.Keys.{alike}
use Rattle.try_page.proofs.key_set.KeySet.has.Goals as goal

pub returns : goal.returns
returns c = c.contains.ensures ∙ ap (λ (same : GlyphCacheKey → GlyphCacheKey → Bool). contains same c.args.self.now.items c.args.key.now) alike
