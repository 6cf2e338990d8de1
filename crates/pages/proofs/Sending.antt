-- The steps of sending a page's commands. Assumes nothing.
use Rattle.std.proofs.Common.{◌≡◌, ℕ, ◌+◌, ◌<◌, ◌≤◌, List, map, length, get_or, take, Ok, Err, Result, IsOk, sym, ◌∙◌, subst, arith, rules}
use Rattle.std.proofs.lemmas.List.{map_more, take_all, length-map, length-take-le}
use Rattle.interface.specs.declared.values.AtlasCommand.{AtlasCommand}
use Rattle.interface.specs.declared.fault.SinkFault.{SinkFault}
use Rattle.interface.specs.declared.call.Call.{Call}
use Rattle.interface.specs.declared.call.Call.TheVariants.{Command}
use Rattle.interface.specs.Sinks.{Sink, Sent, Extended}
use Rattle.interface.proofs.Steps.{one_more}

-- a call is accepted where a place is free
accepted : (m : Sink) (c : Call) (r : Result (Unit {0}) SinkFault) (n : Sink) → 0 < m.free → Sent m c r n → IsOk r
accepted m c (Ok u) n h s = search rules
accepted m c (Err f) n h s = absurd (omega (arith, s.0))

-- while commands are left, a place is free
pub has_place : (xs : List AtlasCommand) (i : ℕ) (m n p : Sink) (c : Call) (r : Result (Unit {0}) SinkFault) → i < length xs → length xs ≤ m.free → Extended m (map Command (take i xs)) n → Sent n c r p → IsOk r
has_place xs i m n p c r h room e s =
    let l : length (map Command (take i xs)) ≡ i = length-map (take i xs) Command ∙ length-take-le i xs (omega arith) in
    accepted n c r p (omega (arith, e.free)) s

-- the commands before the one at hand, and that one
pub sent_more : (xs : List AtlasCommand) (i : ℕ) (d : AtlasCommand) (m n p : Sink) (r : Result (Unit {0}) SinkFault) (u : Unit {0}) → i < length xs → Extended m (map Command (take i xs)) n → r ≡ Ok u → Sent n (Command (get_or xs i d)) r p → Extended m (map Command (take (i + 1) xs)) p
sent_more xs i d m n p r u h e ok s =
    let t : Sent n (Command (get_or xs i d)) (Ok u) p = subst (λ z. Sent n (Command (get_or xs i d)) z p) ok s in
    subst (λ l. Extended m l p) (sym (map_more Command xs i d h)) (one_more e t)

pub sent_all : (xs : List AtlasCommand) (i : ℕ) (m n : Sink) → length xs ≤ i → Extended m (map Command (take i xs)) n → Extended m (map Command xs) n
sent_all xs i m n h e = subst (λ l. Extended m (map Command l) n) (take_all i xs h) e
