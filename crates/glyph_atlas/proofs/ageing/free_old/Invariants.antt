-- The old ones of the entries looked at are gone.
use Rattle.glyph_atlas.proofs.Sweeping.{Gone}
use Rattle.glyph_atlas.proofs.ageing.free_old.Given as goal

abbrev pub invariant-loop-entry : goal.invariant-loop-entry
invariant-loop-entry g l = Gone l.limit l.entries l.initial.clears (g.C.ImageCache.meaning l.initial.cache) l.entry-index l.clears (g.C.ImageCache.meaning l.cache)
