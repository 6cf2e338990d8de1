-- With the image gone and the empty lowest shelves with it, all is sound, and one image less is live.
use Rattle.std.proofs.Common.{refl, rules}
use Rattle.shelf_cache.specs.Rows.{spot_at}
use Rattle.shelf_cache.proofs.Leaving.{counted_here, left}
use Rattle.shelf_cache.proofs.shelves.Shelves.remove.Goals as goal

pub without_image-shelf-requires : goal.without_image-shelf-requires
without_image-shelf-requires c = counted_here c.args.self.now (spot_at c.args.self.now.spots c.args.k).id c.args.k (search rules) (search rules) c.requires refl

pub invariant_of-self : goal.invariant_of-self
invariant_of-self c =
    let l = left c.args.self.now (spot_at c.args.self.now.spots c.args.k).id c.args.k (search rules) (search rules) c.requires refl (search rules)
    c.retire.new.spots c.retire.ensures c.without_image-shelf.result c.without_image-shelf.ensures c.left_standing.result c.left_standing.ensures in
    let S = l.sound in
    search rules

pub returns : goal.returns
returns c =
    let l = left c.args.self.now (spot_at c.args.self.now.spots c.args.k).id c.args.k (search rules) (search rules) c.requires refl (search rules)
    c.retire.new.spots c.retire.ensures c.without_image-shelf.result c.without_image-shelf.ensures c.left_standing.result c.left_standing.ensures in
    record { removes = l.removes; leaves = l.settles }
