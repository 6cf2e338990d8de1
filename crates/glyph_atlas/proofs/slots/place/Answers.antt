-- The image is live and inside a page, so that its slot fits 16 bits, and it is the one that the cache took.
use Rattle.std.proofs.Common.{sym, ◌∙◌}
use Rattle.glyph_atlas.proofs.Placing.{below_last, placed}
use Rattle.glyph_atlas.proofs.slots.place.Goals as goal

pub slot_in-requires : goal.slot_in-requires
slot_in-requires g c =
    below_last (g.C.ImageCache.meaning c.args.cache.now) (g.C.ImageCache.meaning c.allocate.new.self) c.args.metrics.width c.args.metrics.height c.in_ok-id.id c.unwrap-image.result
    (g.met.C.ImageCache.lawful c.allocate.new.self) c.in_ok-id.ensures.allocates (sym c.get.ensures ∙ c.unwrap-image.ensures)

pub returns : goal.returns
returns g c =
    record {
      places = placed (g.C.ImageCache.meaning c.args.cache.now) (g.C.ImageCache.meaning c.allocate.new.self) c.args.metrics c.in_ok-id.id c.unwrap-image.result c.slot_in.result
          (g.met.C.ImageCache.lawful c.allocate.new.self) c.in_ok-id.ensures.allocates (sym c.get.ensures ∙ c.unwrap-image.ensures) c.slot_in.ensures;
      keeps = tt;
    }
