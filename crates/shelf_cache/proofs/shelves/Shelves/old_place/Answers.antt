-- The place at the first shelf that takes the image.
use Rattle.std.proofs.Common.{None, Some, ◌∙◌}
use Rattle.shelf_cache.specs.Places.{taking, old_place}
use Rattle.shelf_cache.proofs.Searches.{map_first}
use Rattle.shelf_cache.proofs.shelves.Shelves.old_place.Goals as goal

pub returns-in_err-at : goal.returns-in_err-at
returns-in_err-at c =
    let g = c.args.self.now in
    c.from_residual.ensures ∙ map_first (old_place g.shelves) (taking g c.args.size.w c.args.size.h) 64 None c.in_err-at.ensures

pub returns : goal.returns
returns c =
    let g = c.args.self.now in
    map_first (old_place g.shelves) (taking g c.args.size.w c.args.size.h) 64 (Some c.in_ok-at.at) c.in_ok-at.ensures
