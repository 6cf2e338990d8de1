-- The table without its old entries is as every table is.
use Rattle.std.proofs.Common.{filter, ap, ◌∙◌}
use Rattle.glyph_key.specs.Once.{repeats}
use Rattle.glyph_atlas.specs.Shape.{keys_of, oversized}
use Rattle.glyph_atlas.specs.Places.{unaged}
use Rattle.glyph_atlas.proofs.Invariants.{once_less, sized_less}
use Rattle.glyph_atlas.proofs.table.EntryTable.evict.Goals as goal

pub invariant_of-self : goal.invariant_of-self
invariant_of-self g c =
    let es = c.self.inside.entries in
    let stay = unaged c.args.limit in
    let kept = c.retain.ensures in
    (ap (λ ys. repeats (keys_of ys)) kept ∙ once_less stay es c.self.invariant.0, ap (filter oversized) kept ∙ sized_less oversized stay es c.self.invariant.1)
