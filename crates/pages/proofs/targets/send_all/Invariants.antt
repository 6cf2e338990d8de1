-- The commands before the one at hand are sent.
use Rattle.std.proofs.Common.{map, take}
use Rattle.interface.specs.declared.call.Call.TheVariants.{Command}
use Rattle.interface.specs.Sinks.{Extended}
use Rattle.pages.proofs.targets.send_all.Given as goal

abbrev pub invariant-loop-command : goal.invariant-loop-command
invariant-loop-command g l =
    Extended (g.S.DrawSink.means l.initial.sink) (map Command (take l.command-index l.commands)) (g.S.DrawSink.means l.sink)
