-- The number of each refusal of a sink or a screen.
use Rattle.std.specs.Prelude.{ℕ}
use Rattle.interface.specs.declared.fault.SinkFault.{SinkFault}
use Rattle.interface.specs.declared.fault.SinkFault.TheVariants.{NotLatest, NoPlace}

abbrev pub sink_number : SinkFault → ℕ
sink_number NotLatest = 10
sink_number NoPlace = 15
