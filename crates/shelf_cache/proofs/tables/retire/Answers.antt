-- The table closed up, with the spot that left at its end.
use Rattle.shelf_cache.proofs.Moves.{closed_last}
use Rattle.shelf_cache.proofs.tables.retire.Goals as goal

pub returns : goal.returns
returns c = closed_last _ _ _ c.requires c.close_up.ensures
