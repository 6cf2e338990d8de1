-- Packing pictures onto a cache. Assumes nothing.
--     Placed c size r d    a picture of that size was placed: the cache c became d, and r is the image, or the refusal, which changes nothing
use Rattle.std.specs.Prelude.{◌≡◌, ℕ, Some, Ok, Err, Result}
use Rattle.image_cache.specs.declared.image.Image.{Image}
use Rattle.image_cache.specs.declared.image.Size.{Size}
use Rattle.image_cache.specs.declared.fault.CacheFault.{CacheFault}
use Rattle.image_cache.specs.Caches.{Cache, Added, NoRoom}

-- one live image more, a, of that size, under an id that no live image had; that it lies inside a page and shares no pixel with another is the law of d
pub record NewImage (c : Cache) (size : Size) (a : Image) (d : Cache) : Type 0 where
  pub id : ℕ
  pub added : Added c size.w size.h id d
  pub here : Some a ≡ d.live id

abbrev pub Placed : Cache → Size → Result Image CacheFault → Cache → Type 0
Placed c size (Ok a) d = NewImage c size a d
Placed c size (Err e) d = NoRoom c size.w size.h e d
