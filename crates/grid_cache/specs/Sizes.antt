-- The sizes in a grid, and its limits. Assumes nothing.
--     no_size            the size 0 by 0, which stands where no image ever was
--     GoesInto c s       the size s is no larger than a cell of side c
--     InLimits c n       cells of side c and n pages are within the limits
use Rattle.std.specs.Prelude.{ℕ, ◌≤◌}
use Rattle.image_cache.specs.declared.image.Size.{Size}

abbrev pub no_size : Size
no_size = record { w = 0; h = 0 }

pub record GoesInto (cell : ℕ) (size : Size) : Type 0 where
  pub wide : size.w ≤ cell
  pub high : size.h ≤ cell

pub record InLimits (cell count : ℕ) : Type 0 where
  pub large : 2 ≤ cell
  pub small : cell ≤ 8191
  pub some : 1 ≤ count
  pub few : count ≤ 4
