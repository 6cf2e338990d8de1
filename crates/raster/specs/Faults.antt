-- The number of a refusal of metrics.
use Rattle.std.specs.Prelude.{ℕ}
use Rattle.raster.specs.declared.fault.RasterFault.{RasterFault}
use Rattle.raster.specs.declared.fault.RasterFault.TheVariants.{Metrics}

abbrev pub raster_number : RasterFault → ℕ
raster_number Metrics = 5
