-- What the screen that is a list of calls means. Assumes nothing.
--     listed cs saved number colour    the list of at most 512 calls cs, with so many states still saved
--     list_means l                     the screen l: the calls that its list holds, oldest first
use Rattle.std.specs.Prelude.{ℕ, ◌-◌, List, length}
use Rattle.shapes.specs.declared.Color.{Color}
use Rattle.interface.specs.declared.call.Call.{Call}
use Rattle.interface.specs.declared.screen.Screen.{Screen}
use Rattle.interface.specs.Sinks.{Sink}
use Rattle.interface.specs.Screens.{screen_of}
use Rattle.list_screen.specs.declared.list.CallList.{CallList}

abbrev pub listed : List Call → (saved number : ℕ) → Color → Sink
listed cs = screen_of cs (512 - length cs)

abbrev pub list_means : {S : _} → Screen CallList S → Sink
list_means l = listed l.calls.list l.states.depth l.states.screen l.colour
