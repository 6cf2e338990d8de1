-- The highest free cell of the first page with room is the one that is meant.
use Rattle.std.proofs.Common.{◌<◌, ◌^◌, get_or, arith}
use Rattle.grid_cache.proofs.Rooms.{chosen_is}
use Rattle.grid_cache.proofs.grid.Grid.place.Goals as goal

pub returns-clause-chosen : goal.returns-clause-chosen
returns-clause-chosen c =
    let g = c.args.self.now in
    let page = c.in_ok-page.page in
    let first = c.in_ok-page.ensures.first in
    let there : page < g.count = grind (arith, g.idle page, first.1) in
    let small : get_or g.free page 0 < 2 ^ 64 = omega arith in
    rw c.highest.ensures (chosen_is g page there first.1 small first.2)
