-- The bytes over the buffer's next ones.
use Rattle.std.proofs.Common.{◌+◌, ◌-◌, length, arith}
use Rattle.stream_screen.proofs.Bytes.{wrote_at}
use Rattle.stream_screen.proofs.writer.Writer.put.Goals as goal

pub returns : goal.returns
returns c = wrote_at _ _ (c.args.self.now.used + length c.args.bytes.now - c.args.self.now.used) c.copy_from_slice.ensures.after (omega arith) c.requires
