-- The ghost fields as one fact, and back.
use Rattle.std.specs.Prelude.{ℕ, List}
use Rattle.shelf_cache.specs.declared.shelf.Shelf.{Shelf}
use Rattle.shelf_cache.specs.declared.shelf.Spot.{Spot}
use Rattle.shelf_cache.specs.declared.shelves.Shelves.{Shelves}
use Rattle.shelf_cache.specs.Sound.{Sound, Side, Pages, Paged, Sixteen, Inside, Inner, Stacked, Few, Sized, Placed, Stood, Upright, Beside, Reset, Counted, Lowest, Small, Single}

pub sound_of : (g : Shelves) → Sound g.width g.height g.count g.shelves g.standing g.spots g.live
sound_of g = record {
  wide = g.wide;
  high = g.high;
  pages = g.pages;
  paged = g.paged;
  sixteen = g.sixteen;
  inside = g.inside;
  inner = g.inner;
  stacked = g.stacked;
  few = g.few;
  sized = g.sized;
  placed = g.placed;
  stood = g.stood;
  upright = g.upright;
  beside = g.beside;
  reset = g.reset;
  counted = g.counted;
  lowest = g.lowest;
  small = g.small;
  single = g.single;
}

pub parts : (width height count : ℕ) (shelves : List Shelf) (standing : List ℕ) (spots : List Spot) (live : ℕ) → Sound width height count shelves standing spots live
    → Side width × (Side height × (Pages count × (Paged count standing × (Sixteen standing × (Inside height shelves standing × (Inner width shelves × (Stacked shelves standing × (Few live × (Sized spots live × (Placed shelves spots live × (Stood standing spots live × (Upright shelves spots live × (Beside spots live × (Reset shelves spots live × (Counted shelves spots live × (Lowest shelves standing × (Small spots × (Single spots × Unit {0}))))))))))))))))))
parts width height count shelves standing spots live S =
    (S.wide, (S.high, (S.pages, (S.paged, (S.sixteen, (S.inside, (S.inner, (S.stacked, (S.few, (S.sized, (S.placed, (S.stood, (S.upright, (S.beside, (S.reset, (S.counted, (S.lowest, (S.small, (S.single, tt)))))))))))))))))))
