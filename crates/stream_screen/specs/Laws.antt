-- What holds of the format for every call. Assumes nothing.
--     ReadsBack       the records of calls, one after the other, read back as these calls: so no two lists of calls have the same bytes
--     Short           no record is longer than a place, 52 bytes: so a buffer with a place left takes any call
use Rattle.std.specs.Prelude.{◌≡◌, ◌≤◌, List, [], ◌∷◌, length}
use Rattle.interface.specs.declared.call.Call.{Call}
use Rattle.stream_screen.specs.Stream.{place, record_of, stream_of}
use Rattle.stream_screen.specs.Reads.{calls_in}
use Rattle.stream_screen.specs.Writes.{FitsCall}

abbrev pub Fit : List Call → Type 0
Fit [] = Unit {0}
Fit (c ∷ cs) = FitsCall c × Fit cs

abbrev pub ReadsBack : Type 0
ReadsBack = (cs : List Call) → Fit cs → calls_in (stream_of cs) ≡ cs

abbrev pub Short : Type 0
Short = (c : Call) → length (record_of c) ≤ place
