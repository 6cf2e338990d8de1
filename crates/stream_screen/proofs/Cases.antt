-- The worked cases hold by computing, and three calls have these bytes.
use Rattle.std.proofs.Common.{◌≡◌, List, [], ◌∷◌, ◌++◌, refl, ap, ◌∙◌}
use lib.Ieee.{to_bits}
use Rattle.interface.specs.declared.values.AtlasCommand.TheVariants.{PopLayer}
use Rattle.interface.specs.declared.call.Call.{Call}
use Rattle.interface.specs.declared.call.Call.TheVariants.{Command, SaveState, RestoreState}
use Rattle.stream_screen.specs.Stream.{stream_of}
use Rattle.stream_screen.specs.Worked.{Numbers, Worked}

numbers : Numbers
unfolding to_bits
numbers = (refl, refl, refl)

pub worked : Worked
worked = (numbers, ((refl, refl, refl, refl, refl, refl, (λ r. refl), (λ t. refl)), (refl, refl, refl, refl)))

pub three_records : {k l m n : List Call} → k ≡ [] → l ≡ k ++ SaveState ∷ [] → m ≡ l ++ Command PopLayer ∷ [] → n ≡ m ++ RestoreState ∷ [] → stream_of n ≡ 0 ∷ 0 ∷ 12 ∷ 0 ∷ 0 ∷ 0 ∷ 10 ∷ 0 ∷ 0 ∷ 0 ∷ 13 ∷ 0 ∷ []
three_records {k} {l} {m} {n} e f g h =
    let three : n ≡ SaveState ∷ Command PopLayer ∷ RestoreState ∷ [] = h ∙ ap (λ x. x ++ RestoreState ∷ []) (g ∙ ap (λ x. x ++ Command PopLayer ∷ []) (f ∙ ap (λ x. x ++ SaveState ∷ []) e)) in
    ap stream_of three
