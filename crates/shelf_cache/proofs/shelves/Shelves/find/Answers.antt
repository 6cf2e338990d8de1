-- The first image with the id is the one that the id means.
use Rattle.std.proofs.Common.{◌≡◌, ◌==◌, ℕ, Bool, true, false, Some, None, Option, length, take, ap, arith, rules}
use Rattle.std.specs.Option.{option_map}
use Rattle.std.proofs.lemmas.Bool.{eqb-true}
use Rattle.std.proofs.lemmas.Iterator.{YieldsList-from_slice, IsFirst-from_position}
use borrow.Author.Tests.{tests}
use Rattle.shelf_cache.specs.declared.shelf.Spot.{Spot}
use Rattle.shelf_cache.specs.declared.shelves.Shelves.{Shelves}
use Rattle.shelf_cache.specs.Rows.{no_spot, spot_at, FirstBelow}
use Rattle.shelf_cache.specs.Places.{has_at, image_of, Finds}
use Rattle.shelf_cache.specs.First.{first_is}
use Rattle.shelf_cache.proofs.Searches.{first_in_list}
use Rattle.shelf_cache.proofs.shelves.Shelves.find.Goals as goal

finds : (g : Shelves) (i : ℕ) (r : Option ℕ) → FirstBelow (has_at g.spots i) g.live r → Finds g i r
finds g i None f = ap (option_map (λ j. image_of (spot_at g.spots j))) (first_is (has_at g.spots i) g.live None f)
finds g i (Some k) f = (f.0, eqb-true _ _ f.1, ap (option_map (λ j. image_of (spot_at g.spots j))) (first_is (has_at g.spots i) g.live (Some k) f))

pub returns : goal.returns
returns c =
    let g = c.args.self.now in
    let many : length g.spots ≡ 256 = search rules in
    let has : Spot → Bool = λ a. a.id == c.args.id in
    finds g c.args.id c.position.result (first_in_list has g.spots g.live no_spot c.position.result (omega (arith, g.few))
    (IsFirst-from_position _ _ c.position.result (λ a. has a ≡ true) (λ a. has a ≡ false) c.position.ensures.ran (YieldsList-from_slice (take g.live g.spots) cc)
    (λ x q k. search (rules, tests)) (λ x q k. search (rules, tests))))
