-- What `remove` leaves, from the contracts of the calls that it makes.
use Rattle.std.proofs.Common.{◌≡◌, ℕ, ◌-◌, ◌/◌, ◌<◌, List, length, set, sym, refl, ◌∙◌, subst, arith}
use Rattle.image_cache.specs.Caches.{Removed}
use Rattle.shelf_cache.specs.declared.shelf.Shelf.{Shelf}
use Rattle.shelf_cache.specs.declared.shelf.Spot.{Spot}
use Rattle.shelf_cache.specs.declared.shelves.Shelves.{Shelves}
use Rattle.shelf_cache.specs.Rows.{shelf_at, spot_at, on_page}
use Rattle.shelf_cache.specs.Sound.{Sound, Lowered}
use Rattle.shelf_cache.specs.Places.{cache_of, cache_of_shelves, Settled, left_of, eased}
use Rattle.shelf_cache.proofs.Meanings.{removed_is}
use Rattle.shelf_cache.proofs.Freeing.{some_here, left_sound, settled}

pub record Left (g : Shelves) (i : ℕ) (shelves : List Shelf) (standing : List ℕ) (spots : List Spot) : Type 0 where
  pub sound : Sound g.width g.height g.count shelves standing spots (g.live - 1)
  pub removes : Removed (cache_of_shelves g) i (cache_of g.width g.height g.count shelves standing spots (g.live - 1))
  pub settles : (k : ℕ) → k < g.live → (spot_at g.spots k).id ≡ i → Settled g.shelves g.standing (spot_at g.spots k).shelf shelves standing spots (g.live - 1)

-- the shelf of an image is one of the 64
pub on_shelf : (g : Shelves) (k : ℕ) → k < g.live → (spot_at g.spots k).shelf < 64
on_shelf g k l = let p = g.paged ((spot_at g.spots k).shelf / 16) (omega (arith, g.stood k l)) in omega (arith, g.pages)

module _ (g : Shelves) (i k : ℕ) (n : length g.spots ≡ 256) (m : length g.shelves ≡ 64) (kl : k < g.live) (e : (spot_at g.spots k).id ≡ i) where
  abbrev at : ℕ
  at = (spot_at g.spots k).shelf

  al : at < length g.shelves
  al = omega (arith, on_shelf g k kl)

  pub counted_here : 0 < (shelf_at g.shelves at).images
  counted_here = some_here g k n kl at refl al

  pub left : length g.standing ≡ 4 → (spots : List Spot) → spots ≡ left_of g.spots k → (z : Shelf) → z ≡ eased (shelf_at g.shelves at) → (r : ℕ)
      → Lowered (set g.shelves at z) (at / 16) (on_page g.standing (at / 16)) r → Left g i (set g.shelves at z) (set g.standing (at / 16) r) spots
  left four spots q z f r lowered =
      let pl : at / 16 < length g.standing = omega (arith, on_shelf g k kl) in
      let T : List Spot → Type 0 = λ spots. Left g i (set g.shelves at z) (set g.standing (at / 16) r) spots in
      let U : Shelf → Type 0 = λ z. Lowered (set g.shelves at z) (at / 16) (on_page g.standing (at / 16)) r → Left g i (set g.shelves at z) (set g.standing (at / 16) r) (left_of g.spots k) in
      subst T (sym q) (subst U (sym f)
      (λ L.
      let S = left_sound g k n kl at refl al pl r L in
      let s = settled g k n kl at refl al pl r L in
      record {
        sound = S;
        removes = removed_is g (set g.shelves at (eased (shelf_at g.shelves at))) (set g.standing (at / 16) r) i k n kl e S;
        settles = λ j jl b.
            let only = g.single k j (record { one = omega (arith, g.few); other = omega (arith, g.few); same = e ∙ sym b }) in
            let P : ℕ → Type 0 = λ j. Settled g.shelves g.standing (spot_at g.spots j).shelf (set g.shelves at (eased (shelf_at g.shelves at))) (set g.standing (at / 16) r) (left_of g.spots k) (g.live - 1) in
            subst P only s;
      })
      lowered)
