-- Saved states, handed out and taken back. Assumes nothing.
--     IsLatest k s        k is the latest state that s handed out and did not take back: its screen and its depth agree
--     Issued s r t        s hands a state out, and becomes t
--     TakenBack s k r t   s takes the state k back, and becomes t
use Rattle.std.specs.Prelude.{◌≡◌, ◌+◌, ◌-◌, ◌^◌, ◌<◌, Ok, Err, Result}
use Rattle.interface.specs.declared.fault.SinkFault.{SinkFault}
use Rattle.interface.specs.declared.state.SavedState.{SavedState}
use Rattle.interface.specs.declared.state.SavedStates.{SavedStates}
use Rattle.interface.specs.declared.state.RestoreRefused.{RestoreRefused}
use Rattle.interface.specs.Faults.{sink_number}

abbrev pub IsLatest : SavedState → SavedStates → Type 0
IsLatest k s = (k.screen ≡ s.screen) × (k.depth ≡ s.depth) × (0 < s.depth)

-- refused exactly where 2 ^ 64 - 1 are out
abbrev pub Issued : SavedStates → Result SavedState SinkFault → SavedStates → Type 0
Issued s (Ok k) t = (t.screen ≡ s.screen) × (t.depth ≡ s.depth + 1) × IsLatest k t
Issued s (Err f) t = (s.depth ≡ 2 ^ 64 - 1) × (sink_number f ≡ 15) × (t ≡ s)

-- refused exactly where it is not the latest, and then handed back
abbrev pub TakenBack : SavedStates → SavedState → Result (Unit {0}) RestoreRefused → SavedStates → Type 0
TakenBack s k (Ok u) t = IsLatest k s × (t.screen ≡ s.screen) × (t.depth + 1 ≡ s.depth)
TakenBack s k (Err e) t = (IsLatest k s → ⊥) × (sink_number e.fault ≡ 10) × (e.state ≡ k) × (t ≡ s)
