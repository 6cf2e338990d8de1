-- The fact of a screen has one proof, so a screen with the same states is the same screen.
use Rattle.std.proofs.Common.{◌≡◌, ◌≤◌, sym, ap, subst}
use Rattle.std.specs.Coded.{le_prop}
use Rattle.interface.specs.declared.state.SavedStates.{SavedStates}
use Rattle.interface.specs.declared.screen.Screen.{Screen}

module _ {C : Type 0} {S : _} (s : Screen C S) where
  abbrev with_states : (t : SavedStates) → t.depth ≤ S.places s.calls → Screen C S
  with_states t room = record { calls = s.calls; states = t; colour = s.colour; room = room }

  pub same_states : (t : SavedStates) (room : t.depth ≤ S.places s.calls) → t ≡ s.states → with_states t room ≡ s
  same_states t room e = subst (λ u. (r : u.depth ≤ S.places s.calls) → with_states u r ≡ s) (sym e) (λ r. ap (with_states s.states) (le_prop r s.room)) room
