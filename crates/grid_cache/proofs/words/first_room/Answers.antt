-- A page with room is found exactly where there is one.
use Rattle.std.proofs.Common.{rules}
use Rattle.grid_cache.proofs.Rooms.{found_any}
use Rattle.grid_cache.proofs.words.first_room.Goals as goal

pub returns-clause-some : goal.returns-clause-some
returns-clause-some c = found_any c.args.words.now c.position.result (search rules)
