-- What an atlas holds, in lists, and the words that its calls are described by. Assumes nothing.
--     Atlas             an atlas: set age and frequency, entries in order of making, tick, last due tick, counters, and what waits: clears, uploads, pages
--     Unused a          nothing held, nothing counted, nothing waiting, tick 0, and four pages
--     lookup k es       the entry with the key k, if one has it
--     renewed k t es    the entries, with the one of key k at tick t
--     slot_in i m       the place in the image i, inside the padding, for a picture of metrics m
--     padded s          the slot with one pixel more on every side, to be cleared
--     Around i s        the image i is the slot s with one pixel more on every side
--     raised n          one more, up to 2 ^ 64 - 1
--     is_due f t last   at tick t, with the last due tick before it, the frequency f has been reached
--     is_old g t n      at tick t, a use at tick n lies more than the age g back
use Rattle.std.specs.Prelude.{◌≡◌, ℕ, ◌+◌, ◌-◌, ◌^◌, min, Bool, cond, List, [], ◌∷◌, map, Some, None, Option, nat_le, nat_lt}
use Rattle.glyph_key.specs.declared.key.GlyphCacheKey.{GlyphCacheKey}
use Rattle.glyph_key.specs.Keys.{same_key}
use Rattle.image_cache.specs.declared.image.Image.{Image}
use Rattle.interface.specs.declared.region.AtlasSlot.{AtlasSlot}
use Rattle.raster.specs.declared.glyph.RasterMetrics.{RasterMetrics}
use Rattle.pages.specs.Pages.{Page}
use Rattle.atlas_pages.specs.Sets.{page_numbers}
use Rattle.atlas_pages.specs.AllPages.{blank}
use Rattle.glyph_atlas.specs.declared.config.GlyphCacheConfig.{GlyphCacheConfig}
use Rattle.glyph_atlas.specs.declared.entry.GlyphCacheEntry.{GlyphCacheEntry}
use Rattle.glyph_atlas.specs.declared.pending.PendingBitmapUpload.{PendingBitmapUpload}
use Rattle.glyph_atlas.specs.declared.pending.PendingClearRect.{PendingClearRect}

pub record Atlas : Type 0 where
  pub age : ℕ
  pub frequency : ℕ
  pub entries : List GlyphCacheEntry
  pub tick : ℕ
  pub last_due : ℕ
  pub hits : ℕ
  pub misses : ℕ
  pub clears : List PendingClearRect
  pub uploads : List PendingBitmapUpload
  pub pages : List Page

abbrev pub config_of : Atlas → GlyphCacheConfig
config_of a = record { max_entry_age = a.age; eviction_frequency = a.frequency }

abbrev pub default_config : GlyphCacheConfig
default_config = record { max_entry_age = 64; eviction_frequency = 64 }

pub record Unused (a : Atlas) : Type 0 where
  pub entries : a.entries ≡ []
  pub tick : a.tick ≡ 0
  pub last_due : a.last_due ≡ 0
  pub hits : a.hits ≡ 0
  pub misses : a.misses ≡ 0
  pub clears : a.clears ≡ []
  pub uploads : a.uploads ≡ []
  pub pages : a.pages ≡ map blank page_numbers

abbrev pub raised : ℕ → ℕ
raised n = min (n + 1) (2 ^ 64 - 1)

abbrev pub new_entry : GlyphCacheKey → AtlasSlot → ℕ → GlyphCacheEntry
new_entry k s t = record { key = k; slot = s; tick = t }

abbrev pub lookup : GlyphCacheKey → List GlyphCacheEntry → Option GlyphCacheEntry
lookup k [] = None
lookup k (e ∷ es) = cond (same_key e.key k) (Some e) (lookup k es)

abbrev pub renewed : GlyphCacheKey → ℕ → List GlyphCacheEntry → List GlyphCacheEntry
renewed k t [] = []
renewed k t (e ∷ es) = cond (same_key e.key k) (new_entry e.key e.slot t ∷ es) (e ∷ renewed k t es)

abbrev pub slot_in : Image → RasterMetrics → AtlasSlot
slot_in i m = record { id = i.id; page = i.page; x = i.x + 1; y = i.y + 1; width = m.width; height = m.height; left = m.left; top = m.top }

-- a slot lies at least one pixel from the page's left and top edge, so nothing is cut off here
abbrev pub padded : AtlasSlot → PendingClearRect
padded s = record { page = s.page; x = s.x - 1; y = s.y - 1; width = s.width + 2; height = s.height + 2 }

pub record Around (i : Image) (s : AtlasSlot) : Type 0 where
  pub its_id : i.id ≡ s.id
  pub its_page : i.page ≡ s.page
  pub left : i.x + 1 ≡ s.x
  pub top : i.y + 1 ≡ s.y
  pub wide : i.w ≡ s.width + 2
  pub high : i.h ≡ s.height + 2

abbrev pub is_due : ℕ → ℕ → ℕ → Bool
is_due frequency t last = nat_le frequency (t - last)

abbrev pub is_old : ℕ → ℕ → ℕ → Bool
is_old age t n = nat_lt age (t - n)
