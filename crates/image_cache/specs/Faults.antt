-- The number of each refusal of a cache.
use Rattle.std.specs.Prelude.{ℕ}
use Rattle.image_cache.specs.declared.fault.CacheFault.{CacheFault}
use Rattle.image_cache.specs.declared.fault.CacheFault.TheVariants.{NotLive, Sizes, NoFit}

abbrev pub cache_number : CacheFault → ℕ
cache_number NotLive = 9
cache_number Sizes = 11
cache_number NoFit = 14
