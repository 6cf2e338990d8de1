-- The bytes are whole records again, and read back as one call more.
use Rattle.std.proofs.Common.{arith, rules}
use Rattle.stream_screen.proofs.Streams.{record_short, calls_added, whole_added}
use Rattle.stream_screen.proofs.call_bytes.CallBytesCallStore.put.Goals as goal

pub invariant_of-self : goal.invariant_of-self
invariant_of-self c =
    let w = c.put_call.ensures in
    record { within = omega (arith, w.more, w.long, record_short c.args.call); whole = whole_added _ _ _ _ c.args.call c.args.self.now.whole (search rules) w }

pub returns-clause-puts : goal.returns-clause-puts
returns-clause-puts c =
    let w = c.put_call.ensures in
    (omega arith, calls_added _ _ _ _ c.args.call c.args.self.now.whole (search rules) w, omega (arith, w.more, w.long, record_short c.args.call))
