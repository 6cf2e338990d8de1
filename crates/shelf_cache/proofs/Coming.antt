-- What `put` leaves, from the contracts of the calls that it makes.
use Rattle.std.proofs.Common.{◌≡◌, ℕ, ◌+◌, ◌/◌, ◌%◌, ◌<◌, ◌≤◌, true, max, List, length, set, Some, refl, arith}
use Rattle.std.proofs.lemmas.Bool.Decides.{nat_tests}
use Rattle.image_cache.specs.Caches.{Added}
use Rattle.shelf_cache.specs.declared.shelf.Shelf.{Shelf}
use Rattle.shelf_cache.specs.declared.shelf.Spot.{Spot}
use Rattle.shelf_cache.specs.declared.shelf.Place.{Place}
use Rattle.shelf_cache.specs.declared.shelves.Shelves.{Shelves}
use Rattle.shelf_cache.specs.Rows.{spot_at, on_page}
use Rattle.shelf_cache.specs.Sound.{Sound, stands_on}
use Rattle.shelf_cache.specs.Places.{cache_of, live_of, image_of, cache_of_shelves, FitIn, filled, put_on, reach, raised}
use Rattle.shelf_cache.proofs.Meanings.{live_here, added_is}
use Rattle.shelf_cache.proofs.Counts.{count_le}
use Rattle.shelf_cache.proofs.Fits.{admits_is}
use Rattle.shelf_cache.proofs.Putting.{put_sound}
use Rattle.shelf_cache.proofs.Ready.{Ready, ready}

pub record Come (g : Shelves) (w h i : ℕ) (p : Place) (shelves : List Shelf) (standing : List ℕ) (spots : List Spot) : Type 0 where
  pub sound : Sound g.width g.height g.count shelves standing spots (g.live + 1)
  pub adds : (cache_of_shelves g).fits w h ≡ true → Added (cache_of_shelves g) w h i (cache_of g.width g.height g.count shelves standing spots (g.live + 1))
  pub image : live_of spots (g.live + 1) i ≡ Some (image_of (put_on i p w h))
  pub shelf : shelves ≡ set g.shelves p.at (filled p.shelf w)
  pub stands : standing ≡ raised g.standing p.at

-- a page reaches as far as it did, or to the place
pub max_reach : (n k : ℕ) → max n (k + 1) ≡ reach n k
max_reach n k = grind (arith, nat_tests)

module _ (g : Shelves) (w h : ℕ) (p : Place) (fit : FitIn g w h p) where
  size : (g.live < 256) × (0 < w) × (w ≤ g.width) × (0 < h) × (h ≤ g.height)
  size = admits_is g.live g.width g.height w h fit.admitted

  pub spare : g.live < 256
  spare = size.0

  ready_here : Ready g w h p
  ready_here = ready g w h size.2 p fit

  -- the shelf has room for the width and the count
  pub holds_more : (p.shelf.used + w ≤ 65535) × (p.shelf.images < 256)
  holds_more = (omega (arith, ready_here.room, g.wide), omega (arith, spare, ready_here.counted, count_le (stands_on g.spots p.at) g.live))

  pub come : length g.spots ≡ 256 → length g.shelves ≡ 64 → length g.standing ≡ 4
      → (n : ℕ) → n ≡ reach (on_page g.standing (p.at / 16)) (p.at % 16) → (z : Shelf) → z ≡ filled p.shelf w → (a : Spot) → a ≡ put_on (spot_at g.spots g.live).id p w h
      → Come g w h (spot_at g.spots g.live).id p (set g.shelves p.at z) (set g.standing (p.at / 16) n) (set g.spots g.live a)
  come many all four n f z q a r =
      let i : ℕ = (spot_at g.spots g.live).id in
      let shelves : List Shelf = set g.shelves p.at (filled p.shelf w) in
      let standing : List ℕ = raised g.standing p.at in
      let t = fit.there in
      let l : g.live < length g.spots = omega (arith, spare) in
      let S = put_sound g w h size.1 size.3 p ready_here (omega arith) (omega arith) spare l in
      rw (f, q, r) (record {
        sound = S;
        adds = added_is g shelves standing l (put_on i p w h) refl S;
        image = live_here g shelves standing l (put_on i p w h) refl S;
        shelf = refl;
        stands = refl;
      })
