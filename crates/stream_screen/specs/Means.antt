-- What a screen that writes its calls as bytes means. Assumes nothing.
--     stream_means s   the calls are read back from the written bytes; a call has at most the bytes of a place, and each saved state keeps a place for its restore
--     new_screen n number colour    a screen over n bytes, to which nothing was sent yet
use Rattle.std.specs.Prelude.{ℕ, ◌-◌, ◌/◌, [], length}
use Rattle.shapes.specs.declared.Color.{Color}
use Rattle.interface.specs.declared.screen.Screen.{Screen}
use Rattle.interface.specs.Sinks.{Sink}
use Rattle.interface.specs.Screens.{screen_of}
use Rattle.stream_screen.specs.Stream.{place}
use Rattle.stream_screen.specs.Reads.{calls_in}
use Rattle.stream_screen.specs.Writes.{written}
use Rattle.stream_screen.specs.declared.call_bytes.CallBytes.{CallBytes}

abbrev pub stream_means : {S : _} → Screen CallBytes S → Sink
stream_means s =
    let w = s.calls.writer in
    screen_of (calls_in (written w)) ((length w.out.now - w.used) / place) s.states.depth s.states.screen s.colour

abbrev pub new_screen : ℕ → ℕ → Color → Sink
new_screen n = screen_of [] (n / place) 0
