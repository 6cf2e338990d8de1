-- The head with no length yet, the payload, and then the length over the head's first two bytes.
use Rattle.std.proofs.Common.{◌≡◌, ◌-◌, ◌≤◌, [], ◌∷◌, length, ap, ◌∙◌, arith}
use Rattle.stream_screen.specs.Stream.{bytes_of, payload_of}
use Rattle.stream_screen.proofs.Bytes.{wrote_both, wrote_over}
use Rattle.stream_screen.proofs.Streams.{record_short}
use Rattle.stream_screen.proofs.writer.Writer.put_call.Goals as goal

pub returns : goal.returns
returns c =
    let wrote = rw c.kind.ensures at (wrote_both c.encode.ensures c.encode-2.ensures) in
    let count : c.encode-2.new.writer.used - c.args.self.now.used - 4 ≡ length (payload_of c.args.call) = omega (arith, wrote.more) in
    let bytes : c.copy_from_slice.new.self ≡ bytes_of 2 (length (payload_of c.args.call)) = c.copy_from_slice.ensures.after ∙ c.to_le_bytes.ensures ∙ ap (bytes_of 2) count in
    let room : c.encode-2.new.writer.used ≤ length c.encode-2.new.writer.out.now = omega (arith, wrote.more, wrote.long, record_short c.args.call) in
    rw bytes (wrote_over (0 ∷ 0 ∷ []) (bytes_of 2 (length (payload_of c.args.call))) _ (omega arith) room (omega arith) (omega arith) wrote)
