-- The table with one entry more is as every table is.
use Rattle.std.proofs.Common.{cond, [], ◌∷◌, ◌++◌, length, filter, sym, ap, ◌∙◌}
use Rattle.std.proofs.lemmas.Bool.{lt-ltb}
use Rattle.lists.specs.Bounds.{appended}
use Rattle.glyph_key.specs.Once.{repeats}
use Rattle.glyph_atlas.specs.Shape.{keys_of, oversized}
use Rattle.glyph_atlas.proofs.Invariants.{once_more, sized_more}
use Rattle.glyph_atlas.proofs.table.EntryTable.add.Goals as goal

pub invariant_of-self : goal.invariant_of-self
invariant_of-self c =
    let es = c.args.self.now in
    let e = c.args.entry in
    let there = ap (λ b. cond b (es ++ e ∷ []) es) (lt-ltb (length es) 256 c.requires.room) in
    let put = c.push.ensures.items ∙ (ap (λ ys. appended 256 ys e) c.self.view_is ∙ there) in
    let once = ap (λ ys. repeats (keys_of ys)) (sym c.self.view_is) ∙ c.self.invariant.0 in
    let sized = ap (filter oversized) (sym c.self.view_is) ∙ c.self.invariant.1 in
    (ap (λ ys. repeats (keys_of ys)) put ∙ once_more es e once c.requires.new, ap (filter oversized) put ∙ sized_more es e sized c.requires.narrow c.requires.low)
