-- The entry's key and slot stay, so the table is still as every table is, and the entry is the one that a lookup of the key finds.
use Rattle.std.proofs.Common.{filter, sym, ap, ◌∙◌}
use Rattle.glyph_key.specs.Once.{repeats}
use Rattle.glyph_atlas.specs.declared.entry.GlyphCacheEntry.{GlyphCacheEntry}
use Rattle.glyph_atlas.specs.Places.{HeldAt}
use Rattle.glyph_atlas.specs.Shape.{keys_of, oversized}
use Rattle.glyph_atlas.proofs.Lookups.{reads, renewed_there}
use Rattle.glyph_atlas.proofs.Invariants.{once_renewed, sized_renewed}
use Rattle.glyph_atlas.proofs.table.EntryTable.renew.Goals as goal

pub invariant_of-self : goal.invariant_of-self
invariant_of-self c =
    let k = c.args.key.now in
    let es = c.args.self.now in
    let t = c.args.tick in
    let i = c.in_ok-i.i in
    let h : HeldAt k es i = c.in_ok-i.ensures in
    let read = reads k es i h _ (c.as_slice.ensures.value ∙ c.self.view_is) _ in
    let put = c.put.ensures ∙ renewed_there k es i h _ c.self.view_is _ t read in
    let once = ap (λ ys. repeats (keys_of ys)) (sym c.self.view_is) ∙ c.self.invariant.0 in
    let sized = ap (filter oversized) (sym c.self.view_is) ∙ c.self.invariant.1 in
    (ap (λ ys. repeats (keys_of ys)) put ∙ once_renewed k t es once, ap (filter oversized) put ∙ sized_renewed k t es sized)

pub returns : goal.returns
returns c =
    let k = c.args.key.now in
    let es = c.args.self.now in
    let i = c.in_ok-i.i in
    let h : HeldAt k es i = c.in_ok-i.ensures in
    let read = reads k es i h _ (c.as_slice.ensures.value ∙ c.self.view_is) _ in
    (h.entry, (h.found, ap (λ (e : GlyphCacheEntry). e.slot) read, c.put.ensures ∙ renewed_there k es i h _ c.self.view_is _ c.args.tick read))
