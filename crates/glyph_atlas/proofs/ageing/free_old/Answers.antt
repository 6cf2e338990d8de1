-- One entry more: it is old, and its image and its place are given up, or it is not.
use Rattle.std.proofs.Common.{sym, ap, ◌∙◌}
use Rattle.lists.specs.Bounds.{appended}
use Rattle.glyph_atlas.proofs.Sweeping.{gone_more, gone_stays, sized_at}
use Rattle.glyph_atlas.proofs.ageing.free_old.Goals as goal
use Rattle.glyph_atlas.proofs.ageing.free_old.Goals.{then-is_past, else-is_past}

pub pad-requires : goal.pad-requires
pad-requires g c = sized_at c.args.entries.now c.loop-entry.entry-index _ c.loop-entry-test.true c.requires.sized

pub loop-entry-preserved : goal.loop-entry-preserved
loop-entry-preserved g c =
    let gone = c.loop-entry.invariant in
    let there = c.loop-entry-test.true in
    elim c.if-is_past.branch [
      | then-is_past w ↦
          let pushed = w.push.ensures.items ∙ ap (appended 256 c.loop-entry.clears) w.pad.ensures in
          rw (w.clears-is, w.cache-is) (gone_more gone _ there (sym c.is_past.ensures ∙ w.if-is_past.true) c.requires.room w.free.result (g.C.ImageCache.meaning w.free.new.self) w.free.ensures.frees w.push.new.self pushed)
      | else-is_past w ↦ rw (w.clears-is, w.cache-is) (gone_stays gone _ there (sym c.is_past.ensures ∙ w.if-is_past.false))
    ]
