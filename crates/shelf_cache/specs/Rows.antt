-- What stands at a place of a table, and how many places pass a test. Assumes nothing.
-- The places 16 * p to 16 * p + 15 of the shelves are those of page p, from the top.
--     shelf_at shelves s, spot_at spots i    the shelf or the spot at that place; past the end of the table one of zeros
--     on_page standing p     how many shelves stand on the page p, from its top
--     stands standing s, There standing s    a shelf stands at the place s
--     first_below p n    the first number below n that passes p
--     FirstBelow p n r   the same by what is true of it
--     count_below p n    how many numbers below n pass p
use Rattle.std.specs.Prelude.{◌≡◌, ℕ, zero, suc, ◌+◌, ◌/◌, ◌%◌, ◌<◌, Bool, true, false, cond, List, Some, None, Option, nat_lt, slice_index, slice_index_or}
use Rattle.std.specs.Option.{option_or}
use Rattle.shelf_cache.specs.declared.shelf.Shelf.{Shelf}
use Rattle.shelf_cache.specs.declared.shelf.Spot.{Spot}

abbrev pub no_shelf : Shelf
no_shelf = record { top = 0; height = 0; used = 0; images = 0 }

abbrev pub no_spot : Spot
no_spot = record { id = 0; shelf = 0; x = 0; y = 0; w = 0; h = 0 }

abbrev pub shelf_at : List Shelf → ℕ → Shelf
shelf_at shelves s = slice_index_or shelves s no_shelf

abbrev pub spot_at : List Spot → ℕ → Spot
spot_at spots i = slice_index_or spots i no_spot

abbrev pub on_page : List ℕ → ℕ → ℕ
on_page standing p = slice_index standing p

abbrev pub stands : List ℕ → ℕ → Bool
stands standing s = nat_lt (s % 16) (on_page standing (s / 16))

abbrev pub There : List ℕ → ℕ → Type 0
There standing s = s % 16 < on_page standing (s / 16)

unfoldable pub first_below : (ℕ → Bool) → ℕ → Option ℕ
first_below p zero = None
first_below p (suc n) = option_or (first_below p n) (cond (p n) (Some n) None)

abbrev pub FirstBelow : (ℕ → Bool) → ℕ → Option ℕ → Type 0
FirstBelow p n None = (k : ℕ) → k < n → p k ≡ false
FirstBelow p n (Some i) = (i < n) × (p i ≡ true) × ((k : ℕ) → k < i → p k ≡ false)

unfoldable pub count_below : (ℕ → Bool) → ℕ → ℕ
count_below p zero = 0
count_below p (suc n) = count_below p n + cond (p n) 1 0
