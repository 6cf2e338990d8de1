-- So far the pictures before the one at hand are placed, and there is a reserved place for each answer.
use Rattle.std.proofs.Common.{◌≡◌, ◌≤◌, length, take, vec_items, vec_len, vec_capacity}
use Rattle.packing.specs.Run.{PlacedAll}
use Rattle.packing.proofs.place.place_all.Given as goal

abbrev pub invariant-loop-size : goal.invariant-loop-size
invariant-loop-size g l =
    PlacedAll (g.C.ImageCache.meaning l.initial.cache) (take l.size-index l.sizes) (vec_items l.answers) (g.C.ImageCache.meaning l.cache)
    × (vec_len l.answers ≡ l.size-index)
    × (length l.sizes ≤ vec_capacity l.answers)
