-- Pixels and images, by a test.
--     covers a page x y    the image a covers that pixel of that page
use Rattle.std.specs.Prelude.{ℕ, ◌+◌, Bool, ◌&&◌, ◌==◌, nat_le, nat_lt}
use Rattle.image_cache.specs.declared.image.Image.{Image}

abbrev pub covers : Image → ℕ → ℕ → ℕ → Bool
covers a page x y = a.page == page && nat_le a.x x && nat_lt x (a.x + a.w) && nat_le a.y y && nat_lt y (a.y + a.h)
