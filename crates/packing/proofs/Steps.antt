-- One more picture at the end of a run. Assumes nothing.
use Rattle.std.proofs.Common.{List, [], ◌∷◌, ◌++◌, Result, refl, subst}
use Rattle.image_cache.specs.declared.image.Image.{Image}
use Rattle.image_cache.specs.declared.image.Size.{Size}
use Rattle.image_cache.specs.declared.fault.CacheFault.{CacheFault}
use Rattle.image_cache.specs.Caches.{Cache}
use Rattle.packing.specs.Packed.{Placed}
use Rattle.packing.specs.Run.{PlacedAll}

pub one_more : (c : Cache) (sizes : List Size) (rs : List (Result Image CacheFault)) (m : Cache) (size : Size) (r : Result Image CacheFault) (d : Cache)
    → PlacedAll c sizes rs m → Placed m size r d → PlacedAll c (sizes ++ size ∷ []) (rs ++ r ∷ []) d
one_more c [] [] m size r d h p = let P : Cache → Type 0 = λ x. Placed x size r d in (d, (subst P h p, refl))
one_more c [] (x ∷ rs) m size r d h p = absurd h
one_more c (x ∷ sizes) [] m size r d h p = absurd h
one_more c (x ∷ sizes) (y ∷ rs) m size r d h p = (h.0, (h.1.0, one_more h.0 sizes rs m size r d h.1.1 p))
