-- What a grid of cells means as an image cache. Cells are numbered row by row, 8 to a row and 64 to a page, and the id of an image is the number of its cell.
-- The words ws have a bit for each cell, a word for each page: it is set where the cell is free. Assumes nothing.
--     bit k word           whether the bit k of a word is set
--     is_free ws i         the cell i is free
--     is_taken n ws i      the cell i is on one of the n pages, and not free
--     image_at c ss i      the image in the cell i, with cells of side c and the sizes ss: at the cell's left and top edge
--     size_fits c w h      w and h are 1 to c
--     any_free ws          some cell is free
--     fits_in c ws w h     both
--     cache_of_grid g      what the grid g means
--     Chosen g i           the cell i is the free one of highest number on the first page that has one
--     FirstRoom ws r       r is the first page with a free cell, or none where none has one
--     toggled ws i         the cell i is taken where it was free, free where it was taken; all others are as they were
--     Fresh c n g          g is a new grid of them, every cell free
--     Opened c n r         the answer r to a call for such a grid
--     word_of p n          the word of the page p in a new grid of n pages
use Rattle.std.specs.Prelude.{◌≡◌, ℕ, ◌-◌, ◌*◌, ◌/◌, ◌%◌, ◌^◌, ◌<◌, Bool, true, false, cond, not, ◌&&◌, List, length, Some, None, Ok, Err, Option, Result, ◌==◌, bit_xor, nat_le, nat_lt, slice_index, slice_index_or, slice_set}
use Rattle.std.specs.List.{list_any}
use Rattle.image_cache.specs.Faults.{cache_number}
use Rattle.image_cache.specs.Caches.{Cache, Empty}
use Rattle.image_cache.specs.declared.image.Image.{Image}
use Rattle.image_cache.specs.declared.fault.CacheFault.{CacheFault}
use Rattle.image_cache.specs.declared.image.Size.{Size}
use Rattle.grid_cache.specs.declared.grid.Grid.{Grid}
use Rattle.grid_cache.specs.Sizes.{no_size, InLimits}

abbrev pub bit : ℕ → ℕ → Bool
bit k word = word / 2 ^ k % 2 == 1

abbrev pub is_free : List ℕ → ℕ → Bool
is_free words i = bit (i % 64) (slice_index words (i / 64))

abbrev pub is_taken : ℕ → List ℕ → ℕ → Bool
is_taken count words i = nat_lt i (64 * count) && not (is_free words i)

abbrev pub image_at : ℕ → List Size → ℕ → Image
image_at cell sizes i = record { id = i; page = i / 64; x = i % 8 * cell; y = i % 64 / 8 * cell; w = (slice_index_or sizes i no_size).w; h = (slice_index_or sizes i no_size).h }

abbrev pub size_fits : ℕ → ℕ → ℕ → Bool
size_fits cell w h = nat_lt 0 w && (nat_le w cell && (nat_lt 0 h && nat_le h cell))

abbrev pub any_free : List ℕ → Bool
any_free = list_any (λ word. not (word == 0))

abbrev pub fits_in : ℕ → List ℕ → ℕ → ℕ → Bool
fits_in cell words w h = size_fits cell w h && any_free words

abbrev pub cache_of : ℕ → ℕ → List ℕ → List Size → Cache
cache_of cell count words sizes = record {
  page_width = 8 * cell;
  page_height = 8 * cell;
  page_count = count;
  largest_width = cell;
  largest_height = cell;
  live = λ i. cond (is_taken count words i) (Some (image_at cell sizes i)) None;
  fits = fits_in cell words;
}

abbrev pub cache_of_grid : Grid → Cache
cache_of_grid g = cache_of g.cell g.count g.free g.sizes

pub record Chosen (g : Grid) (i : ℕ) : Type 0 where
  pub there : i < 64 * g.count
  pub vacant : is_free g.free i ≡ true
  pub none_higher : (j : ℕ) → j / 64 ≡ i / 64 → i < j → is_free g.free j ≡ false
  pub none_earlier : (j : ℕ) → j / 64 < i / 64 → is_free g.free j ≡ false

abbrev pub FirstRoom : List ℕ → Option ℕ → Type 0
FirstRoom words None = (k : ℕ) → k < length words → slice_index words k ≡ 0
FirstRoom words (Some p) = (p < length words) × (0 < slice_index words p) × ((k : ℕ) → k < p → slice_index words k ≡ 0)

abbrev pub toggled : List ℕ → ℕ → List ℕ
toggled words i = slice_set words (i / 64) (bit_xor (slice_index words (i / 64)) (2 ^ (i % 64)))

pub record Fresh (cell count : ℕ) (g : Grid) : Type 0 where
  pub side : g.cell ≡ cell
  pub pages : g.count ≡ count
  pub all_free : (i : ℕ) → i < 64 * count → is_free g.free i ≡ true
  pub none_live : Empty (cache_of_grid g)

pub record Outside (cell count : ℕ) (e : CacheFault) : Type 0 where
  pub outside : InLimits cell count → ⊥
  pub fault : cache_number e ≡ 11

abbrev pub Opened : ℕ → ℕ → Result Grid CacheFault → Type 0
Opened cell count (Ok g) = InLimits cell count × Fresh cell count g
Opened cell count (Err e) = Outside cell count e

abbrev pub word_of : ℕ → ℕ → ℕ
word_of page count = cond (nat_lt page count) (2 ^ 64 - 1) 0
