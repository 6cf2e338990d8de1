-- Several calls in a row. Assumes nothing.
--     PlacedAll c sizes rs d      pictures of these sizes were placed one after the other, with these answers, and the cache c became d
use Rattle.std.specs.Prelude.{◌≡◌, List, [], ◌∷◌, Result}
use Rattle.image_cache.specs.declared.image.Image.{Image}
use Rattle.image_cache.specs.declared.image.Size.{Size}
use Rattle.image_cache.specs.declared.fault.CacheFault.{CacheFault}
use Rattle.image_cache.specs.Caches.{Cache}
use Rattle.packing.specs.Packed.{Placed}

abbrev pub PlacedAll : Cache → List Size → List (Result Image CacheFault) → Cache → Type 0
PlacedAll c [] [] d = d ≡ c
PlacedAll c [] (r ∷ rs) d = ⊥
PlacedAll c (size ∷ sizes) [] d = ⊥
PlacedAll c (size ∷ sizes) (r ∷ rs) d = (m : Cache) × (Placed c size r m × PlacedAll m sizes rs d)
