-- From the contracts alone: what the screen has written is the records of its three calls.
use Rattle.std.proofs.Common.{sym, ap, ◌∙◌}
use Rattle.std.proofs.lemmas.Slice.Eq.{slice_eq-Decides}
use Rattle.stream_screen.proofs.Streams.{reads_back, record_short}
use Rattle.stream_screen.proofs.Cases.{worked, three_records}
use Rattle.stream_screen.proofs.worked.records_hold.Goals as goal
use Rattle.std.proofs.lemmas.Bool.Decides.{Decides-eqb}

pub returns : goal.returns
returns c =
    let saved = rw c.unwrap-state.ensures at c.save_state.ensures.saves in
    let popped = rw c.unwrap.ensures at c.pop_layer.ensures.sends in
    let restored = rw c.unwrap-2.ensures at c.restore_state.ensures.restores in
    let wrote = three_records (ap (λ m. m.calls) c.screen-screen.ensures.means) saved.1.calls popped.1.calls restored.1.calls in
    let bytes = rw c.calls.ensures at c.bytes.ensures in
    record {
      cases = worked;
      reads = reads_back;
      short = record_short;
      run = (slice_eq-Decides Decides-eqb _ _ _ c.eq.ensures).1 (bytes ∙ wrote ∙ sym c.as_slice.ensures);
    }
