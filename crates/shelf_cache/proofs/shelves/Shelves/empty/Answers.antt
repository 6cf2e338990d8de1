-- New shelves are sound, and mean an empty cache of those sizes.
use Rattle.std.proofs.Common.{refl, rules, arith}
use Rattle.shelf_cache.specs.Names.{dead_when}
use Rattle.shelf_cache.proofs.Opening.{new_sound, none_stands}
use Rattle.shelf_cache.proofs.shelves.Shelves.empty.Goals as goal

pub invariant_of-result : goal.invariant_of-result
invariant_of-result c =
    let S = new_sound c.args.width c.args.height c.args.count c.free_spots.result c.requires.wide c.requires.high c.requires.pages c.free_spots.ensures in
    search rules

pub returns : goal.returns
returns c = record { wide = refl; high = refl; pages = refl; none_live = λ i. dead_when c.free_spots.result 0 i (λ j l _. omega arith); no_shelves = none_stands }
