-- What an image that comes or goes changes of the cache's meaning: that image alone.
use Rattle.std.proofs.Common.{◌≡◌, ℕ, ◌+◌, ◌-◌, ◌<◌, true, List, length, set, Some, sym, refl, ap, ◌∙◌, subst, arith}
use Rattle.std.proofs.lemmas.List.{get_or-set_same, get_or-set_other}
use Rattle.image_cache.specs.Caches.{Added, Removed}
use Rattle.shelf_cache.specs.declared.shelf.Shelf.{Shelf}
use Rattle.shelf_cache.specs.declared.shelf.Spot.{Spot}
use Rattle.shelf_cache.specs.declared.shelves.Shelves.{Shelves}
use Rattle.shelf_cache.specs.Rows.{no_spot, spot_at}
use Rattle.shelf_cache.specs.Places.{live_of, image_of, left_of, cache_of, cache_of_shelves}
use Rattle.shelf_cache.specs.Sound.{Sound}
use Rattle.shelf_cache.proofs.Moves.{was, was_live, was_other, moved_is, kept_at}
use Rattle.shelf_cache.specs.Names.{Unnamed, live_when, dead_when, same_live}

module _ (g : Shelves) (shelves' : List Shelf) (standing' : List ℕ) where
  -- the image a comes, with the first id that is free
  module _ (l : g.live < length g.spots) (a : Spot) (own : a.id ≡ (spot_at g.spots g.live).id) (S' : Sound g.width g.height g.count shelves' standing' (set g.spots g.live a) (g.live + 1)) where
    unnamed : Unnamed g.spots g.live a.id
    unnamed j m e = let q = g.single j g.live (record { one = omega (arith, g.few); other = omega (arith, S'.few); same = e ∙ own }) in omega arith

    here : spot_at (set g.spots g.live a) g.live ≡ a
    here = get_or-set_same g.spots g.live a no_spot l

    pub live_here : live_of (set g.spots g.live a) (g.live + 1) a.id ≡ Some (image_of a)
    live_here = live_when (set g.spots g.live a) (g.live + 1) S'.few S'.single a.id g.live (omega arith) (ap (λ (b : Spot). b.id) here) ∙ ap (λ (b : Spot). Some (image_of b)) here

    pub added_is : (cache_of_shelves g).fits a.w a.h ≡ true
        → Added (cache_of_shelves g) a.w a.h a.id (cache_of g.width g.height g.count shelves' standing' (set g.spots g.live a) (g.live + 1))
    added_is f = record {
      fitted = f;
      fresh = dead_when g.spots g.live a.id unnamed;
      image = image_of a;
      wide = refl;
      high = refl;
      here = live_here;
      others = λ i ne. same_live g.spots (set g.spots g.live a) g.live (g.live + 1) g.few g.single S'.few S'.single i
          (λ k m e. (k, (omega arith, get_or-set_other g.spots g.live k a no_spot (λ q. omega arith))))
          (λ k m e.
          let other : k ≡ g.live → ⊥ = λ q. ne (sym e ∙ (ap (λ n. (spot_at (set g.spots g.live a) n).id) q ∙ ap (λ (b : Spot). b.id) here)) in
          (k, (omega arith, get_or-set_other g.spots g.live k a no_spot other)));
      sizes = record { width = refl; height = refl; count = refl; widest = refl; highest = refl };
    }

  -- the image at k goes
  module _ (i k : ℕ) (n : length g.spots ≡ 256) (kl : k < g.live) (e : (spot_at g.spots k).id ≡ i) (S' : Sound g.width g.height g.count shelves' standing' (left_of g.spots k) (g.live - 1)) where
    k₁ : k < 256
    k₁ = omega (arith, g.few)

    other_than : (j : ℕ) → j < g.live → (spot_at g.spots j).id ≡ i → j ≡ k
    other_than j l q = g.single j k (record { one = omega (arith, g.few); other = k₁; same = q ∙ sym e })

    -- where an image that is left was
    was_at : (j : ℕ) → j < g.live - 1 → spot_at (left_of g.spots k) j ≡ spot_at g.spots (was k j)
    was_at j l = moved_is g.spots k n k₁ j (omega (arith, g.few))

    pub removed_is : Removed (cache_of_shelves g) i (cache_of g.width g.height g.count shelves' standing' (left_of g.spots k) (g.live - 1))
    removed_is = record {
      image = image_of (spot_at g.spots k);
      was = live_when g.spots g.live g.few g.single i k kl e;
      gone = dead_when (left_of g.spots k) (g.live - 1) i (λ j l q.
          let I : Spot → Type 0 = λ b. b.id ≡ i in
          was_other k j g.live kl g.few l (other_than (was k j) (was_live k j g.live kl g.few l) (subst I (was_at j l) q)));
      others = λ m ne. same_live g.spots (left_of g.spots k) g.live (g.live - 1) g.few g.single S'.few S'.single m
          (λ j jl u. kept_at g.spots k n k₁ g.live g.few kl j jl (λ q. ne (sym u ∙ (ap (λ x. (spot_at g.spots x).id) q ∙ e))))
          (λ j l _. (was k j, (was_live k j g.live kl g.few l, was_at j l)));
      sizes = record { width = refl; height = refl; count = refl; widest = refl; highest = refl };
    }
