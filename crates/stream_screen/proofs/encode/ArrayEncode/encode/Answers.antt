-- Each turn writes one value more.
use Rattle.std.proofs.Common.{arith}
use Rattle.stream_screen.proofs.Bytes.{room_one, wrote_one, wrote_all}
use Rattle.stream_screen.proofs.encode.ArrayEncode.encode.Goals as goal

pub encode-requires : goal.encode-requires
encode-requires g c = room_one g.T.Encode.bytes c.args.self c.loop-x.x-index _ (omega arith) c.requires c.loop-x.invariant

pub loop-x-preserved : goal.loop-x-preserved
loop-x-preserved g c = wrote_one g.T.Encode.bytes c.args.self c.loop-x.x-index _ (omega arith) c.loop-x.invariant c.encode.ensures

pub returns : goal.returns
returns g c = wrote_all g.T.Encode.bytes c.args.self c.loop-x.x-index (omega arith) c.loop-x.invariant
