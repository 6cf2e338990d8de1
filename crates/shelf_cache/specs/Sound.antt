-- What always holds of the shelves and the images on them. Assumes nothing.
-- Of the 16 places of a page the first `on_page standing p` have a shelf.
-- The first `live` of the 256 spots are the images; the spots after them keep the ids that are free.
--     Over standing s t    a shelf stands at t, and s is a place above it on its page
--     Row spots live i j   two images on one shelf, the first of them not further right
--     Bare spots live s    no image is on the shelf s
--     Idle shelves s       nothing is used from the place s of its page down
--     Sound ..             all that holds
--     Lowered shelves page n r     of the n shelves of the page the empty lowest ones are gone, and r are left
use Rattle.std.specs.Prelude.{◌≡◌, ℕ, ◌+◌, ◌-◌, ◌*◌, ◌/◌, ◌%◌, ◌<◌, ◌≤◌, Bool, List, ◌==◌, ◌≢◌}
use Rattle.shelf_cache.specs.declared.shelf.Shelf.{Shelf}
use Rattle.shelf_cache.specs.declared.shelf.Spot.{Spot}
use Rattle.shelf_cache.specs.Rows.{shelf_at, spot_at, on_page, There, count_below}

-- the side of a page, and the number of pages
abbrev pub Side : ℕ → Type 0
Side n = (2 ≤ n) × (n ≤ 65535)

abbrev pub Pages : ℕ → Type 0
Pages n = (1 ≤ n) × (n ≤ 4)

-- shelves are on the pages, at most 16 on each, and inside them
abbrev pub Paged : ℕ → List ℕ → Type 0
Paged count standing = (p : ℕ) → 0 < on_page standing p → p < count

abbrev pub Sixteen : List ℕ → Type 0
Sixteen standing = (p : ℕ) → on_page standing p ≤ 16

abbrev pub Inside : ℕ → List Shelf → List ℕ → Type 0
Inside height shelves standing = (s : ℕ) → There standing s → (shelf_at shelves s).top + (shelf_at shelves s).height ≤ height

abbrev pub Inner : ℕ → List Shelf → Type 0
Inner width shelves = (s : ℕ) → (shelf_at shelves s).used ≤ width

pub record Over (standing : List ℕ) (s t : ℕ) : Type 0 where
  pub upper : s < t
  pub page : s / 16 ≡ t / 16
  pub there : There standing t

-- each shelf ends before the next begins
abbrev pub Stacked : List Shelf → List ℕ → Type 0
Stacked shelves standing = (s t : ℕ) → Over standing s t → (shelf_at shelves s).top + (shelf_at shelves s).height ≤ (shelf_at shelves t).top

-- no more images than spots, and each has a pixel
abbrev pub Few : ℕ → Type 0
Few live = live ≤ 256

abbrev pub Sized : List Spot → ℕ → Type 0
Sized spots live = (i : ℕ) → i < live → (0 < (spot_at spots i).w) × (0 < (spot_at spots i).h)

-- an image begins where its shelf does, within what is used of it, and is not higher
abbrev pub Placed : List Shelf → List Spot → ℕ → Type 0
Placed shelves spots live = (i : ℕ) → i < live
    → ((spot_at spots i).x + (spot_at spots i).w ≤ (shelf_at shelves (spot_at spots i).shelf).used) × ((spot_at spots i).y ≡ (shelf_at shelves (spot_at spots i).shelf).top)

-- it is on a shelf that stands
abbrev pub Stood : List ℕ → List Spot → ℕ → Type 0
Stood standing spots live = (i : ℕ) → i < live → There standing (spot_at spots i).shelf

abbrev pub Upright : List Shelf → List Spot → ℕ → Type 0
Upright shelves spots live = (i : ℕ) → i < live → (spot_at spots i).h ≤ (shelf_at shelves (spot_at spots i).shelf).height

pub record Row (spots : List Spot) (live i j : ℕ) : Type 0 where
  pub two : i ≡ j → ⊥
  pub one_live : i < live
  pub other_live : j < live
  pub same : (spot_at spots i).shelf ≡ (spot_at spots j).shelf
  pub left : (spot_at spots i).x ≤ (spot_at spots j).x

-- of two images on one shelf, one ends before the other begins
abbrev pub Beside : List Spot → ℕ → Type 0
Beside spots live = (i j : ℕ) → Row spots live i j → (spot_at spots i).x + (spot_at spots i).w ≤ (spot_at spots j).x

abbrev pub Bare : List Spot → ℕ → ℕ → Type 0
Bare spots live s = (i : ℕ) → i < live → (spot_at spots i).shelf ≢ s

-- a shelf with no image starts from its left
abbrev pub Reset : List Shelf → List Spot → ℕ → Type 0
Reset shelves spots live = (s : ℕ) → Bare spots live s → (shelf_at shelves s).used ≡ 0

-- a shelf knows how many images are on it
abbrev pub stands_on : List Spot → ℕ → ℕ → Bool
stands_on spots s i = (spot_at spots i).shelf == s

abbrev pub Counted : List Shelf → List Spot → ℕ → Type 0
Counted shelves spots live = (s : ℕ) → (shelf_at shelves s).images ≡ count_below (stands_on spots s) live

abbrev pub Idle : List Shelf → ℕ → Type 0
Idle shelves s = (t : ℕ) → s ≤ t → s / 16 ≡ t / 16 → (shelf_at shelves t).used ≡ 0

-- there no shelf is: the lowest shelf is never empty
abbrev pub Lowest : List Shelf → List ℕ → Type 0
Lowest shelves standing = (s : ℕ) → Idle shelves s → on_page standing (s / 16) ≤ s % 16

-- ids are small, and no two of the 256 spots have one
abbrev pub Small : List Spot → Type 0
Small spots = (i : ℕ) → i < 256 → (spot_at spots i).id < 256

pub record Twins (spots : List Spot) (i j : ℕ) : Type 0 where
  pub one : i < 256
  pub other : j < 256
  pub same : (spot_at spots i).id ≡ (spot_at spots j).id

abbrev pub Single : List Spot → Type 0
Single spots = (i j : ℕ) → Twins spots i j → i ≡ j

pub record Sound (width height count : ℕ) (shelves : List Shelf) (standing : List ℕ) (spots : List Spot) (live : ℕ) : Type 0 where
  pub wide : Side width
  pub high : Side height
  pub pages : Pages count
  pub paged : Paged count standing
  pub sixteen : Sixteen standing
  pub inside : Inside height shelves standing
  pub inner : Inner width shelves
  pub stacked : Stacked shelves standing
  pub few : Few live
  pub sized : Sized spots live
  pub placed : Placed shelves spots live
  pub stood : Stood standing spots live
  pub upright : Upright shelves spots live
  pub beside : Beside spots live
  pub reset : Reset shelves spots live
  pub counted : Counted shelves spots live
  pub lowest : Lowest shelves standing
  pub small : Small spots
  pub single : Single spots

pub record Lowered (shelves : List Shelf) (page n r : ℕ) : Type 0 where
  pub fewer : r ≤ n
  pub gone : (j : ℕ) → r ≤ j → j < n → (shelf_at shelves (16 * page + j)).used ≡ 0
  pub last : 0 < r → 0 < (shelf_at shelves (16 * page + (r - 1))).used
