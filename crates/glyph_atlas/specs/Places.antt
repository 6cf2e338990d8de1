-- Words of the inner functions, which no public contract cites. Assumes nothing.
--     HeldAt k es i        the entry with the key k stands at the place i
--     PlaceOf k es r       r is that place, or no entry has the key
--     Renewed k t es r fs  of the entries es, the one with the key k has the slot r, and tick t in fs; or no entry has the key, and fs is es
--     PlacedOr c m r d     the cache took an image for a picture of metrics m, and r is the slot in it; or it refused
--     barred es k m        why no entry of that key and those metrics can be made, whatever the cache, by number: 5, 6, 12
--     grown a es           the atlas with other entries
--     Clean a r            r refuses exactly while a clear waits, with 7
--     aged m e, unaged m e at the tick of the limit m, the last use of the entry lies more than its age back; it does not
use Rattle.std.specs.Prelude.{◌≡◌, ℕ, ◌+◌, ◌<◌, Bool, cond, not, List, [], length, is_some, Some, None, Ok, Err, Option, Result, slice_set}
use Rattle.std.specs.List.{slice_get}
use Rattle.glyph_key.specs.declared.key.GlyphCacheKey.{GlyphCacheKey}
use Rattle.image_cache.specs.declared.fault.CacheFault.{CacheFault}
use Rattle.image_cache.specs.Caches.{Cache, NoRoom}
use Rattle.interface.specs.declared.region.AtlasSlot.{AtlasSlot}
use Rattle.raster.specs.declared.glyph.RasterMetrics.{RasterMetrics}
use Rattle.raster.specs.Metric.{too_large}
use Rattle.glyph_atlas.specs.declared.entry.GlyphCacheEntry.{GlyphCacheEntry}
use Rattle.glyph_atlas.specs.declared.fault.AtlasFault.{AtlasFault}
use Rattle.glyph_atlas.specs.declared.limit.AgeLimit.{AgeLimit}
use Rattle.glyph_atlas.specs.Faults.{atlas_number}
use Rattle.glyph_atlas.specs.Atlases.{Atlas, lookup, renewed, new_entry, is_old}
use Rattle.glyph_atlas.specs.Calls.{Placed, is_full}

pub record HeldAt (k : GlyphCacheKey) (es : List GlyphCacheEntry) (i : ℕ) : Type 0 where
  pub within : i < length es
  pub entry : GlyphCacheEntry
  pub there : slice_get es i ≡ Some entry
  pub found : lookup k es ≡ Some entry
  pub renewing : (t : ℕ) → slice_set es i (new_entry entry.key entry.slot t) ≡ renewed k t es

abbrev pub PlaceOf : GlyphCacheKey → List GlyphCacheEntry → Option ℕ → Type 0
PlaceOf k es None = lookup k es ≡ None
PlaceOf k es (Some i) = HeldAt k es i

abbrev pub Renewed : GlyphCacheKey → ℕ → List GlyphCacheEntry → Option AtlasSlot → List GlyphCacheEntry → Type 0
Renewed k t es (Some s) fs = (e : GlyphCacheEntry) × ((lookup k es ≡ Some e) × (s ≡ e.slot) × (fs ≡ renewed k t es))
Renewed k t es None fs = (lookup k es ≡ None) × (fs ≡ es)

abbrev pub PlacedOr : Cache → RasterMetrics → Result AtlasSlot CacheFault → Cache → Type 0
PlacedOr c m (Ok s) d = Placed c m s d
PlacedOr c m (Err f) d = NoRoom c (m.width + 2) (m.height + 2) f d

abbrev pub barred : List GlyphCacheEntry → GlyphCacheKey → RasterMetrics → Option ℕ
barred es k m =
    cond (too_large m) (Some 5)
    (cond (is_some (lookup k es)) (Some 6)
    (cond (is_full (length es)) (Some 12) None))

abbrev pub grown : Atlas → List GlyphCacheEntry → Atlas
grown a es = record { age = a.age; frequency = a.frequency; entries = es; tick = a.tick; last_due = a.last_due; hits = a.hits; misses = a.misses; clears = a.clears; uploads = a.uploads; pages = a.pages }

abbrev pub Clean : Atlas → Result (Unit {0}) AtlasFault → Type 0
Clean a (Ok u) = a.clears ≡ []
Clean a (Err f) = (0 < length a.clears) × (atlas_number f ≡ 7)

abbrev pub aged : AgeLimit → GlyphCacheEntry → Bool
aged m e = is_old m.age m.tick e.tick

abbrev pub unaged : AgeLimit → GlyphCacheEntry → Bool
unaged m e = not (aged m e)
