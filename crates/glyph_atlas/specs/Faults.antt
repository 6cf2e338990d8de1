-- The number of each refusal of the atlas, through the layers below it.
use Rattle.std.specs.Prelude.{ℕ}
use Rattle.raster.specs.Faults.{raster_number}
use Rattle.image_cache.specs.Faults.{cache_number}
use Rattle.glyph_atlas.specs.declared.fault.AtlasFault.{AtlasFault}
use Rattle.glyph_atlas.specs.declared.fault.AtlasFault.TheVariants.{Raster, KeyHeld, ClearWaits, Waits, Full, QueueFull, LastTick, Cache}

abbrev pub atlas_number : AtlasFault → ℕ
atlas_number (Raster f) = raster_number f
atlas_number KeyHeld = 6
atlas_number ClearWaits = 7
atlas_number Waits = 8
atlas_number Full = 12
atlas_number QueueFull = 13
atlas_number LastTick = 16
atlas_number (Cache f) = cache_number f
