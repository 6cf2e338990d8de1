use Rattle.std.proofs.Common.{Bool, subst}
use Rattle.indexmap.specs.IndexSet.{IsUnique}
use Rattle.glyph_key.specs.declared.key.GlyphCacheKey.{GlyphCacheKey}
use Rattle.try_page.proofs.Keys.{alike}
use Rattle.try_page.proofs.key_set.KeySet.len.Goals as goal

pub returns-clause-once : goal.returns-clause-once
returns-clause-once c = let Once : (GlyphCacheKey → GlyphCacheKey → Bool) → Type 0 = λ same. IsUnique same c.args.self.now.items in subst Once alike c.len.ensures.unique
