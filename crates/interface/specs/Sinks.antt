-- What a sink and a screen mean, and what their calls do to that. Assumes nothing.
--     Sink              the calls held, oldest first, and the free places; of a screen also the saved states, its number, its colour, its answers for each slot
--     Sent m c r n      the call c, answered with r, makes n of m. Likewise Saved m r n and Restored m k r n
--     Appended m c k n  n is m with the call c more: at most k places fewer are free, and what no call changes is as it was
--     Extended m cs n   n is m with the calls cs more: nothing else differs but the free places, which are fewer by at most as many
--     Latest k m        k is the latest saved state of the screen
use Rattle.std.specs.Prelude.{◌≡◌, ℕ, ◌+◌, ◌<◌, ◌≤◌, List, [], ◌∷◌, ◌++◌, length, Ok, Err, Result}
use Rattle.shapes.specs.declared.Affine.{Affine}
use Rattle.shapes.specs.declared.Color.{Color}
use Rattle.interface.specs.declared.region.AtlasSlot.{AtlasSlot}
use Rattle.interface.specs.declared.values.ImageSource.{ImageSource}
use Rattle.interface.specs.declared.fault.SinkFault.{SinkFault}
use Rattle.interface.specs.declared.state.SavedState.{SavedState}
use Rattle.interface.specs.declared.state.RestoreRefused.{RestoreRefused}
use Rattle.interface.specs.declared.call.Call.{Call}
use Rattle.interface.specs.declared.call.Call.TheVariants.{SaveState, RestoreState}
pub use Rattle.interface.specs.Faults.{sink_number}

pub record Sink : Type 0 where
  pub calls : List Call
  pub free : ℕ
  pub saved : ℕ
  pub number : ℕ
  pub colour : Color
  pub image_at : AtlasSlot → ImageSource
  pub place_at : AtlasSlot → Affine

-- what no call changes
pub record SameScreen (m n : Sink) : Type 0 where
  pub number : n.number ≡ m.number
  pub colour : n.colour ≡ m.colour
  pub image_at : n.image_at ≡ m.image_at
  pub place_at : n.place_at ≡ m.place_at

pub record Appended (m : Sink) (c : Call) (k : ℕ) (n : Sink) : Type 0 where
  pub calls : n.calls ≡ m.calls ++ c ∷ []
  pub free : m.free ≤ n.free + k
  pub same : SameScreen m n

pub record Extended (m : Sink) (cs : List Call) (n : Sink) : Type 0 where
  pub calls : n.calls ≡ m.calls ++ cs
  pub free : m.free ≤ n.free + length cs
  pub saved : n.saved ≡ m.saved
  pub same : SameScreen m n

-- a call other than save and restore: refused exactly where no place is free
abbrev pub Sent : Sink → Call → Result (Unit {0}) SinkFault → Sink → Type 0
Sent m c (Ok u) n = (0 < m.free) × Appended m c 1 n × (n.saved ≡ m.saved)
Sent m c (Err f) n = (m.free ≡ 0) × (sink_number f ≡ 15) × (n ≡ m)

abbrev pub Latest : SavedState → Sink → Type 0
Latest k m = (k.screen ≡ m.number) × (k.depth ≡ m.saved) × (0 < m.saved)

-- a save needs two places, so that its restore finds one
abbrev pub Saved : Sink → Result SavedState SinkFault → Sink → Type 0
Saved m (Ok k) n = (2 ≤ m.free) × Appended m SaveState 2 n × (n.saved ≡ m.saved + 1) × Latest k n
Saved m (Err f) n = (m.free < 2) × (sink_number f ≡ 15) × (n ≡ m)

-- a restore is never refused for want of a place
abbrev pub Restored : Sink → SavedState → Result (Unit {0}) RestoreRefused → Sink → Type 0
Restored m k (Ok u) n = Latest k m × Appended m RestoreState 0 n × (n.saved + 1 ≡ m.saved)
Restored m k (Err e) n = (Latest k m → ⊥) × (sink_number e.fault ≡ 10) × (e.state ≡ k) × (n ≡ m)
