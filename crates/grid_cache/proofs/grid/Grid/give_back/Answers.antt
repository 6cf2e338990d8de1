-- The cell that is turned holds no image any more.
use Rattle.std.proofs.Common.{rules}
use Rattle.grid_cache.proofs.Turning.{removed_is}
use Rattle.grid_cache.proofs.grid.Grid.give_back.Goals as goal

pub returns : goal.returns
returns c =
    let g = c.args.self.now in
    rw c.turn.ensures (removed_is g.cell g.count g.free g.sizes c.args.id (search rules) c.requires)
