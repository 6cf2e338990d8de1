-- The numbers of pages. Assumes nothing.
--     numbers ps      the numbers of the pages
--     page_numbers    0 to 3
--     Fits p          the page holds at most 120 commands
use Rattle.std.specs.Prelude.{ℕ, ◌≤◌, List, [], ◌∷◌, map, length}
use Rattle.pages.specs.Pages.{Page}

abbrev pub number_of : Page → ℕ
number_of p = p.number

abbrev pub numbers : List Page → List ℕ
numbers ps = map number_of ps

abbrev pub page_numbers : List ℕ
page_numbers = 0 ∷ 1 ∷ 2 ∷ 3 ∷ []

abbrev pub Fits : Page → Type 0
Fits p = length p.commands ≤ 120
