-- The cell that is turned holds the image.
use Rattle.std.proofs.Common.{rules}
use Rattle.grid_cache.proofs.Turning.{added_is}
use Rattle.grid_cache.proofs.grid.Grid.take.Goals as goal

pub returns : goal.returns
returns c =
    let g = c.args.self.now in
    let f = c.requires.chosen in
    rw c.turn.ensures (added_is g.cell g.count g.free g.sizes c.args.id (search rules) c.args.size f.there f.vacant (search rules) c.requires.fits)
