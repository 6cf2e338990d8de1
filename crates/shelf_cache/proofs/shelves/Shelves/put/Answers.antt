-- With the image put where it goes, all is sound, and one image more is live.
use Rattle.std.proofs.Common.{is_some, ap, ◌∙◌, rules}
use Rattle.shelf_cache.proofs.Coming.{holds_more, max_reach, come}
use Rattle.shelf_cache.proofs.shelves.Shelves.put.Goals as goal

pub with_image-requires : goal.with_image-requires
with_image-requires c =
    let m = holds_more c.args.self.now c.args.size.w c.args.size.h c.args.place c.requires.fit in
    record { room = m.0; count = m.1 }

pub invariant_of-self : goal.invariant_of-self
invariant_of-self c =
    let k = come c.args.self.now c.args.size.w c.args.size.h c.args.place c.requires.fit (search rules) (search rules) (search rules)
    c.max.result (c.max.ensures ∙ max_reach _ _) c.with_image.result c.with_image.ensures c.spot.result c.spot.ensures in
    let S = k.sound in
    search rules

pub returns : goal.returns
returns c =
    let k = come c.args.self.now c.args.size.w c.args.size.h c.args.place c.requires.fit (search rules) (search rules) (search rules)
    c.max.result (c.max.ensures ∙ max_reach _ _) c.with_image.result c.with_image.ensures c.spot.result c.spot.ensures in
    record {
      adds = k.adds (ap is_some c.requires.chosen);
      put = record { place = c.args.place; chosen = c.requires.chosen; fit = c.requires.fit; image = k.image; shelves = k.shelf; standing = k.stands };
    }
