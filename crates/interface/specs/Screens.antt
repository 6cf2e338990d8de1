-- What a screen means, by what holds its calls; and one call more in a store of calls. Assumes nothing.
--     screen_of cs n saved number colour    the screen that holds the calls cs and has n places more, with so many states still saved
--     Put cs n c r ds m                     the store of the calls cs, with n places free, is given the call c, answers r, and holds ds, with m places free
use Rattle.std.specs.Prelude.{◌≡◌, ℕ, ◌+◌, ◌-◌, ◌<◌, ◌≤◌, List, [], ◌∷◌, ◌++◌, Ok, Err, Result}
use Rattle.shapes.specs.declared.Color.{Color}
use Rattle.interface.specs.declared.fault.SinkFault.{SinkFault}
use Rattle.interface.specs.declared.call.Call.{Call}
use Rattle.interface.specs.Faults.{sink_number}
use Rattle.interface.specs.Sinks.{Sink}
use Rattle.interface.specs.Slots.{slot_page, slot_place}

-- each state still saved keeps a place for its restore
abbrev pub screen_of : List Call → (places saved number : ℕ) → Color → Sink
screen_of cs places saved number colour = record {
  calls = cs;
  free = places - saved;
  saved = saved;
  number = number;
  colour = colour;
  image_at = slot_page;
  place_at = slot_place;
}

-- refused exactly where no place is free
abbrev pub Put : List Call → ℕ → Call → Result (Unit {0}) SinkFault → List Call → ℕ → Type 0
Put cs n c (Ok u) ds m = (0 < n) × (ds ≡ cs ++ c ∷ []) × (n ≤ m + 1)
Put cs n c (Err f) ds m = (n ≡ 0) × (sink_number f ≡ 15) × (ds ≡ cs) × (m ≡ n)
