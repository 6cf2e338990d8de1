-- Pages of commands, and what page targets do with them. Assumes nothing.
--     Page                  its number and the commands that wait for it, oldest first
--     emptied p             the page without its commands
--     with_more p cs        the page with the commands cs more, after those that it has
--     Recorded p cs r q     the commands cs recorded for the page p, which has 120 places and is q after it
--     filled ps             the pages that hold a command, in their order
--     Offered takes ps t r u    the pages ps were offered one after the other to the target t, which is u after it; each but the last was accepted, and r is the last answer
--     UpTo failed ps qs     of the pages qs, those that were offered, ps: all; or, where one failed, none after it
--     Sends p m r n         a target that sends into a sink m, which is n after it
--     Counts p k r l        a target that counts from k to l
use Rattle.std.specs.Prelude.{◌≡◌, ℕ, ◌+◌, ◌-◌, ◌^◌, ◌<◌, ◌≤◌, min, Bool, true, false, not, ◌⊎◌, List, [], ◌∷◌, ◌++◌, map, length, Ok, Err, filter, Result}
use Rattle.std.specs.declared.convert.Infallible.{Infallible}
use Rattle.shapes.specs.Answers.{none}
use Rattle.interface.specs.declared.values.AtlasCommand.{AtlasCommand}
use Rattle.interface.specs.declared.fault.SinkFault.{SinkFault}
use Rattle.interface.specs.declared.call.Call.TheVariants.{Command}
use Rattle.interface.specs.Sinks.{Sink, Extended, sink_number}

pub record Page : Type 0 where
  pub number : ℕ
  pub commands : List AtlasCommand

abbrev pub emptied : Page → Page
emptied p = record { number = p.number; commands = [] }

abbrev pub with_more : Page → List AtlasCommand → Page
with_more p cs = record { number = p.number; commands = p.commands ++ cs }

-- all of them, or none, exactly where there are too few places
abbrev pub Recorded : Page → List AtlasCommand → Result (Unit {0}) SinkFault → Page → Type 0
Recorded p cs (Ok u) q = (length p.commands + length cs ≤ 120) × (q ≡ with_more p cs)
Recorded p cs (Err f) q = (120 < length p.commands + length cs) × (sink_number f ≡ 15) × (q ≡ p)

abbrev pub has_commands : Page → Bool
has_commands p = not (none p.commands)

abbrev pub filled : List Page → List Page
filled ps = filter has_commands ps

module _ {S F : Type 0} (takes : S → Page → Result (Unit {0}) F → S → Type 0) where
  abbrev pub Offered : List Page → S → Result (Unit {0}) F → S → Type 0
  Offered [] t r u = (r ≡ Ok tt) × (u ≡ t)
  Offered (p ∷ ps) t r u =
      ((m : S) × (takes t p (Ok tt) m × Offered ps m r u)) ⊎ ((f : F) × ((ps ≡ []) × (r ≡ Err f) × takes t p (Err f) u))

abbrev pub UpTo : (failed : Bool) → (offered : List Page) → List Page → Type 0
UpTo false ps qs = ps ≡ qs
UpTo true ps qs = (none ps ≡ false) × ((rest : List Page) × (qs ≡ ps ++ rest))

-- sends the page's commands, in order; or nothing, exactly where the page has more of them than the sink has free places
abbrev pub Sends : Page → Sink → Result (Unit {0}) SinkFault → Sink → Type 0
Sends p m (Ok u) n = (length p.commands ≤ m.free) × Extended m (map Command p.commands) n
Sends p m (Err f) n = (m.free < length p.commands) × (sink_number f ≡ 15) × (n ≡ m)

-- adds the number of commands to a count that stops at 2 ^ 64 - 1, and never fails
abbrev pub Counts : Page → ℕ → Result (Unit {0}) Infallible → ℕ → Type 0
Counts p k (Ok u) l = l ≡ min (k + length p.commands) (2 ^ 64 - 1)
Counts p k (Err f) l = ⊥
