-- So far a front of the values is written.
use Rattle.std.proofs.Common.{take}
use Rattle.std.specs.Prelude.{flat_map}
use Rattle.stream_screen.specs.Writes.{Wrote}
use Rattle.stream_screen.proofs.encode.ArrayEncode.encode.Given as goal

abbrev pub invariant-loop-x : goal.invariant-loop-x
invariant-loop-x g l = Wrote (flat_map g.T.Encode.bytes (take l.x-index l.x-items)) l.initial.writer l.writer
