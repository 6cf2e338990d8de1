-- Each spot has its number as its id.
use Rattle.std.proofs.Common.{rules}
use Rattle.shelf_cache.specs.Rows.{no_spot}
use Rattle.shelf_cache.proofs.tables.free_spots.Goals as goal

pub returns : goal.returns
returns c = λ k l. let f = c.from_fn.ensures.items.at k no_spot l in search rules
