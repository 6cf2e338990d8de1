-- Where an image goes, from the first shelf that takes it and the first place that opens.
use Rattle.std.specs.Prelude.{◌≡◌, ℕ, ◌<◌, ◌≤◌, true, false, List, Some, None, Option}
use Rattle.std.specs.Option.{option_map, option_or}
use Rattle.std.proofs.Common.{arith}
use Rattle.std.proofs.lemmas.Bool.Decides.{nat_tests}
use Rattle.shelf_cache.specs.declared.shelf.Place.{Place}
use Rattle.shelf_cache.specs.declared.shelf.Shelf.{Shelf}
use Rattle.shelf_cache.specs.Rows.{first_below, FirstBelow}
use Rattle.shelf_cache.specs.Places.{takes_at, opens_at, admits, old_place, new_place, place_of}
use Rattle.shelf_cache.specs.First.{first_is, first_spec}

pub admitted : (live width height w h : ℕ) → live < 256 → 0 < w → w ≤ width → 0 < h → h ≤ height → admits live width height w h ≡ true
admitted live width height w h l a b c d = grind (arith, nat_tests)

module _ (width height count : ℕ) (shelves : List Shelf) (standing : List ℕ) (live w h : ℕ) where
  -- from what the two searches find
  abbrev pub either : Option ℕ → Option ℕ → Option Place
  either a b = option_or (option_map (old_place shelves) a) (option_map (new_place shelves h) b)

  pub place_both : (a b : Option ℕ) → admits live width height w h ≡ true → FirstBelow (takes_at width w h shelves standing) 64 a → FirstBelow (opens_at count height h shelves standing) 64 b
      → place_of width height count shelves standing live w h ≡ either a b
  place_both a b z f o =
      rw (z, first_is (takes_at width w h shelves standing) 64 a f, first_is (opens_at count height h shelves standing) 64 b o)

  pub place_none : admits live width height w h ≡ false → place_of width height count shelves standing live w h ≡ None
  place_none z = rw z

  pub place_old : (s : ℕ) → admits live width height w h ≡ true → FirstBelow (takes_at width w h shelves standing) 64 (Some s) → place_of width height count shelves standing live w h ≡ Some (old_place shelves s)
  place_old s z f = place_both (Some s) (first_below (opens_at count height h shelves standing) 64) z f (first_spec (opens_at count height h shelves standing) 64)
