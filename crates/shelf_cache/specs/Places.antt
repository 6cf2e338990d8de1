-- Where an image goes and what it leaves: on the first shelf that takes it, else on a new shelf of the first page with room. Assumes nothing.
--     takes width w h z       the shelf z is tall enough, and has w left at its right end
--     takes_at .. s           a shelf that takes the image stands at the place s
--     opens_at .. s           a new shelf of height h can be opened at the place s
--     admits live width height w h   a spot is free, and the size is from 1 by 1 to the page
--     taking g w h s, opening g h s   the same two of the shelves g
--     FitIn g w h p           p is where the image goes, by the rules above
--     place_for g w h         that place, if there is one
--     Finds g i r             r is the place of the image i, if there is one
--     cache_of_shelves g      what the shelves g mean as an image cache
--     PutAt g w h i d         an image of w by h stands where it goes, and no other shelf changes: g before, d after
--     LeftBy g i d            the shelf that the image i left, and all others: g before, d after
--     InLimits width height count    the sides of a page and the number of pages are within the limits
--     Fresh width height count g     g are new shelves on pages of those sizes
--     SideOf n r                     the answer r to a call for the side of a page
--     Opened width height count r    the answer r to a call for such shelves
use Rattle.std.specs.Prelude.{◌≡◌, ℕ, zero, suc, ◌+◌, ◌-◌, ◌*◌, ◌/◌, ◌%◌, ◌<◌, ◌≤◌, Bool, true, false, cond, ◌&&◌, ◌⊎◌, List, [], ◌∷◌, ◌++◌, is_some, Some, None, Ok, Err, Option, Result, ◌==◌, ◌≢◌, nat_le, nat_lt, slice_set}
use Rattle.std.specs.Option.{option_map, option_or}
use Rattle.std.specs.List.{remove}
use Rattle.image_cache.specs.Faults.{cache_number}
use Rattle.image_cache.specs.Caches.{Cache, Empty}
use Rattle.image_cache.specs.declared.image.Image.{Image}
use Rattle.image_cache.specs.declared.fault.CacheFault.{CacheFault}
use Rattle.shelf_cache.specs.declared.shelf.Shelf.{Shelf}
use Rattle.shelf_cache.specs.declared.shelf.Spot.{Spot}
use Rattle.shelf_cache.specs.declared.shelf.Place.{Place}
use Rattle.shelf_cache.specs.declared.shelves.Shelves.{Shelves}
use Rattle.shelf_cache.specs.Rows.{shelf_at, spot_at, on_page, stands, There, first_below}
use Rattle.shelf_cache.specs.Sound.{Side, Pages, Bare, Idle}

abbrev pub takes : ℕ → ℕ → ℕ → Shelf → Bool
takes width w h s = nat_le h s.height && nat_le (s.used + w) width

-- a shelf stands here and takes it
abbrev pub takes_at : ℕ → ℕ → ℕ → List Shelf → List ℕ → ℕ → Bool
takes_at width w h shelves standing s = stands standing s && takes width w h (shelf_at shelves s)

-- where the shelf above a place ends: 0 at the top of a page
abbrev pub end_above : List Shelf → ℕ → ℕ
end_above shelves s = cond (s % 16 == 0) 0 ((shelf_at shelves (s - 1)).top + (shelf_at shelves (s - 1)).height)

-- a shelf of height h can be opened here: the page is there, this is the place below its last shelf, and that height is left
abbrev pub opens_at : ℕ → ℕ → ℕ → List Shelf → List ℕ → ℕ → Bool
opens_at count height h shelves standing s = nat_lt s (16 * count) && (s % 16 == on_page standing (s / 16) && nat_le (end_above shelves s + h) height)

-- a spot is free, and the size is from 1 by 1 to the page
abbrev pub admits : ℕ → ℕ → ℕ → ℕ → ℕ → Bool
admits live width height w h = nat_lt live 256 && ((nat_lt 0 w && nat_le w width) && (nat_lt 0 h && nat_le h height))

abbrev pub old_place : List Shelf → ℕ → Place
old_place shelves s = record { at = s; shelf = shelf_at shelves s }

abbrev pub new_place : List Shelf → ℕ → ℕ → Place
new_place shelves h s = record { at = s; shelf = record { top = end_above shelves s; height = h; used = 0; images = 0 } }

abbrev pub place_of : ℕ → ℕ → ℕ → List Shelf → List ℕ → ℕ → ℕ → ℕ → Option Place
place_of width height count shelves standing live w h =
    cond (admits live width height w h)
    (option_or (option_map (old_place shelves) (first_below (takes_at width w h shelves standing) 64)) (option_map (new_place shelves h) (first_below (opens_at count height h shelves standing) 64)))
    None

abbrev pub place_for : Shelves → ℕ → ℕ → Option Place
place_for g w h = place_of g.width g.height g.count g.shelves g.standing g.live w h

-- which places have a shelf that takes it, and at which a shelf of height h can be opened
abbrev pub taking : Shelves → ℕ → ℕ → ℕ → Bool
taking g w h = takes_at g.width w h g.shelves g.standing

abbrev pub opening : Shelves → ℕ → ℕ → Bool
opening g h = opens_at g.count g.height h g.shelves g.standing

-- the first shelf that takes it
pub record FirstTaking (width w h : ℕ) (shelves : List Shelf) (standing : List ℕ) (p : Place) : Type 0 where
  pub is : p ≡ old_place shelves p.at
  pub takes_it : takes_at width w h shelves standing p.at ≡ true
  pub none_before : (s : ℕ) → s < p.at → takes_at width w h shelves standing s ≡ false

-- where the last of n shelves of a page ends
abbrev pub end_of_last : List Shelf → ℕ → ℕ → ℕ
end_of_last shelves page zero = 0
end_of_last shelves page (suc k) = (shelf_at shelves (16 * page + k)).top + (shelf_at shelves (16 * page + k)).height

-- the page has n shelves, under 16, and that height is left below the last
pub record RoomOn (count height h : ℕ) (shelves : List Shelf) (standing : List ℕ) (page n : ℕ) : Type 0 where
  pub there : page < count
  pub has : on_page standing page ≡ n
  pub under : n < 16
  pub left : end_of_last shelves page n + h ≤ height

-- the place is below the last shelf of the first page with room
pub record FirstPage (count height h : ℕ) (shelves : List Shelf) (standing : List ℕ) (s : ℕ) : Type 0 where
  pub room : RoomOn count height h shelves standing (s / 16) (s % 16)
  pub below : end_above shelves s ≡ end_of_last shelves (s / 16) (s % 16)
  pub none_earlier : (q n : ℕ) → q < s / 16 → RoomOn count height h shelves standing q n → ⊥

-- no shelf takes it, and this is a new one on the first page with room
pub record FirstOpened (width height count w h : ℕ) (shelves : List Shelf) (standing : List ℕ) (p : Place) : Type 0 where
  pub no_shelf_takes : (s : ℕ) → s < 64 → takes_at width w h shelves standing s ≡ false
  pub is : p ≡ new_place shelves h p.at
  pub opens : opens_at count height h shelves standing p.at ≡ true
  pub none_before : (s : ℕ) → s < p.at → opens_at count height h shelves standing s ≡ false
  pub page : FirstPage count height h shelves standing p.at

pub record Fit (width height count : ℕ) (shelves : List Shelf) (standing : List ℕ) (live w h : ℕ) (p : Place) : Type 0 where
  pub admitted : admits live width height w h ≡ true
  pub there : p.at < 64
  pub chosen : FirstTaking width w h shelves standing p ⊎ FirstOpened width height count w h shelves standing p

abbrev pub FitIn : Shelves → ℕ → ℕ → Place → Type 0
FitIn g w h p = Fit g.width g.height g.count g.shelves g.standing g.live w h p

abbrev pub image_of : Spot → Image
image_of a = record { id = a.id; page = a.shelf / 16; x = a.x; y = a.y; w = a.w; h = a.h }

-- the spot at that place has that id
abbrev pub has_at : List Spot → ℕ → ℕ → Bool
has_at spots i j = (spot_at spots j).id == i

-- the image with that id, among the first `live` spots
abbrev pub live_of : List Spot → ℕ → ℕ → Option Image
live_of spots live i = option_map (λ j. image_of (spot_at spots j)) (first_below (has_at spots i) live)

-- an image fits where it has a place
abbrev pub cache_of : ℕ → ℕ → ℕ → List Shelf → List ℕ → List Spot → ℕ → Cache
cache_of width height count shelves standing spots live = record {
  page_width = width;
  page_height = height;
  page_count = count;
  largest_width = width;
  largest_height = height;
  live = live_of spots live;
  fits = λ w h. is_some (place_of width height count shelves standing live w h);
}

abbrev pub cache_of_shelves : Shelves → Cache
cache_of_shelves g = cache_of g.width g.height g.count g.shelves g.standing g.spots g.live

-- where the image with that id is, or that there is none
abbrev pub Finds : Shelves → ℕ → Option ℕ → Type 0
Finds g i None = live_of g.spots g.live i ≡ None
Finds g i (Some k) = (k < g.live) × ((spot_at g.spots k).id ≡ i) × (live_of g.spots g.live i ≡ Some (image_of (spot_at g.spots k)))

-- the shelf with one image more at its right end, and that image
abbrev pub filled : Shelf → ℕ → Shelf
filled z w = record { top = z.top; height = z.height; used = z.used + w; images = z.images + 1 }

abbrev pub put_on : ℕ → Place → ℕ → ℕ → Spot
put_on i p w h = record { id = i; shelf = p.at; x = p.shelf.used; y = p.shelf.top; w = w; h = h }

-- that many shelves on a page, and one more where the place is the next
abbrev pub reach : ℕ → ℕ → ℕ
reach n k = cond (nat_lt k n) n (k + 1)

-- a shelf stands at that place now
abbrev pub raised : List ℕ → ℕ → List ℕ
raised standing s = slice_set standing (s / 16) (reach (on_page standing (s / 16)) (s % 16))

-- the image stands at the left of what was free, at the shelf's top; no other shelf changes
pub record PutAt (g : Shelves) (w h i : ℕ) (d : Shelves) : Type 0 where
  pub place : Place
  pub chosen : place_for g w h ≡ Some place
  pub fit : FitIn g w h place
  pub image : live_of d.spots d.live i ≡ Some (image_of (put_on i place w h))
  pub shelves : d.shelves ≡ slice_set g.shelves place.at (filled place.shelf w)
  pub standing : d.standing ≡ raised g.standing place.at

-- the shelf with one image less: with none left it starts from its left again
abbrev pub eased : Shelf → Shelf
eased z = record { top = z.top; height = z.height; used = cond (z.images == 1) 0 z.used; images = z.images - 1 }

-- The shelf that an image left: used from its left only when no image is left on it. No other shelf changes, but that the empty lowest ones of its page vanish.
pub record Settled (before : List Shelf) (stood : List ℕ) (at : ℕ) (after : List Shelf) (standing : List ℕ) (left : List Spot) (live : ℕ) : Type 0 where
  pub tops : (s : ℕ) → (shelf_at after s).top ≡ (shelf_at before s).top
  pub heights : (s : ℕ) → (shelf_at after s).height ≡ (shelf_at before s).height
  pub others_used : (s : ℕ) → (s ≢ at) → (shelf_at after s).used ≡ (shelf_at before s).used
  pub still_used : (Bare left live at → ⊥) → (shelf_at after at).used ≡ (shelf_at before at).used
  pub left_again : Bare left live at → (shelf_at after at).used ≡ 0
  pub other_pages : (p : ℕ) → (p ≢ at / 16) → on_page standing p ≡ on_page stood p
  pub none_new : (s : ℕ) → There standing s → There stood s
  pub vanished : (s : ℕ) → There stood s → on_page standing (s / 16) ≤ s % 16 → Idle after s
  pub none_lowest : (s : ℕ) → Idle after s → on_page standing (s / 16) ≤ s % 16

pub record InLimits (width height count : ℕ) : Type 0 where
  pub wide : Side width
  pub high : Side height
  pub pages : Pages count

-- new shelves: of those sizes, with no image and no shelf
pub record Fresh (width height count : ℕ) (g : Shelves) : Type 0 where
  pub wide : g.width ≡ width
  pub high : g.height ≡ height
  pub pages : g.count ≡ count
  pub none_live : Empty (cache_of_shelves g)
  pub no_shelves : (p : ℕ) → on_page g.standing p ≡ 0

pub record Outside (width height count : ℕ) (e : CacheFault) : Type 0 where
  pub outside : InLimits width height count → ⊥
  pub fault : cache_number e ≡ 11

-- the side itself, refused exactly when it is out of its limits
abbrev pub SideOf : ℕ → Result ℕ CacheFault → Type 0
SideOf n (Ok side) = Side n × (side ≡ n)
SideOf n (Err e) = (Side n → ⊥) × (cache_number e ≡ 11)

-- refused exactly when a size is out of its limits
abbrev pub Opened : ℕ → ℕ → ℕ → Result Shelves CacheFault → Type 0
Opened width height count (Ok g) = InLimits width height count × Fresh width height count g
Opened width height count (Err e) = Outside width height count e

-- the spots after the image at k left: the later ones are one place further down, and its own is the last, so that its id is free
abbrev pub left_of : List Spot → ℕ → List Spot
left_of spots k = remove spots k ++ spot_at spots k ∷ []

-- 256 spots with the ids 0 to 255
abbrev pub Numbered : List Spot → Type 0
Numbered spots = (k : ℕ) → k < 256 → (spot_at spots k).id ≡ k

-- the shelf of the image with that id, after it left
abbrev pub LeftBy : Shelves → ℕ → Shelves → Type 0
LeftBy g i d = (k : ℕ) → k < g.live → (spot_at g.spots k).id ≡ i → Settled g.shelves g.standing (spot_at g.spots k).shelf d.shelves d.standing d.spots d.live
