-- Worked cases of closing up and of cells, as one statement.
--     place a    where the image a lies: its page, and its left and top edge
use Rattle.std.specs.Prelude.{◌≡◌, ℕ, true, false, List, [], ◌∷◌}
use Rattle.lists.specs.Lists.{removed, closed_up}
use Rattle.image_cache.specs.declared.image.Image.{Image}
use Rattle.grid_cache.specs.Cells.{image_at, size_fits, is_free, is_taken, any_free}

abbrev pub three : List ℕ
three = 7 ∷ 8 ∷ 9 ∷ []

-- the first, the last, and a place just past the end
abbrev pub Lists : Type 0
Lists =
    (removed three 0 ≡ 8 ∷ 9 ∷ [])
    × (removed three 2 ≡ 7 ∷ 8 ∷ [])
    × (removed three 3 ≡ three)
    × (closed_up three 0 ≡ 8 ∷ 9 ∷ 9 ∷ [])
    × (closed_up three 2 ≡ three)
    × (closed_up three 3 ≡ three)

abbrev pub place : Image → ℕ × ℕ × ℕ
place a = (a.page, a.x, a.y)

-- Cells of ten pixels: the end of a row, the next row, the end of a page, the next page. A size of ten fits, eleven and zero do not.
-- The word 5 has the bits 0 and 2; a cell past the last page is neither free nor taken.
abbrev pub Cells : Type 0
Cells =
    (place (image_at 10 [] 7) ≡ (0, 70, 0))
    × (place (image_at 10 [] 8) ≡ (0, 0, 10))
    × (place (image_at 10 [] 63) ≡ (0, 70, 70))
    × (place (image_at 10 [] 64) ≡ (1, 0, 0))
    × (size_fits 10 10 10 ≡ true)
    × (size_fits 10 11 10 ≡ false)
    × (size_fits 10 10 11 ≡ false)
    × (size_fits 10 0 10 ≡ false)
    × (is_free (5 ∷ []) 2 ≡ true)
    × (is_free (5 ∷ []) 1 ≡ false)
    × (is_taken 1 (5 ∷ []) 63 ≡ true)
    × (is_taken 1 (5 ∷ []) 64 ≡ false)
    × (any_free (0 ∷ 1 ∷ []) ≡ true)
    × (any_free (0 ∷ 0 ∷ []) ≡ false)
