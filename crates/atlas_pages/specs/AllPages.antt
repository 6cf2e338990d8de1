-- The four pages of an atlas together. Assumes nothing.
--     blank n                the page of that number, with no command
--     crowded p              fewer than 3 of its 120 places are free; any_crowded ps: of some page
--     add_commands n cs p    the page p, with the commands cs more if its number is n
--     RecordedOn ps n cs r qs     the commands cs recorded for the page of number n: refused exactly where some page is crowded
--     Offers takes qs t r u  of the pages qs, those that were offered to the target t: all, or none after the first that failed
use Rattle.std.specs.Prelude.{◌≡◌, ℕ, ◌-◌, Bool, true, false, cond, not, List, [], map, length, Ok, Err, filter, Result, ◌==◌, nat_lt}
use Rattle.shapes.specs.Answers.{none}
use Rattle.interface.specs.declared.values.AtlasCommand.{AtlasCommand}
use Rattle.interface.specs.declared.fault.SinkFault.{SinkFault}
use Rattle.interface.specs.Sinks.{sink_number}
use Rattle.pages.specs.Pages.{Page, with_more, Offered, UpTo}

abbrev pub blank : ℕ → Page
blank n = record { number = n; commands = [] }

abbrev pub crowded : Page → Bool
crowded p = nat_lt (120 - length p.commands) 3

abbrev pub any_crowded : List Page → Bool
any_crowded ps = not (none (filter crowded ps))

abbrev pub add_commands : ℕ → List AtlasCommand → Page → Page
add_commands n cs p = cond (n == p.number) (with_more p cs) p

abbrev pub RecordedOn : List Page → ℕ → List AtlasCommand → Result (Unit {0}) SinkFault → List Page → Type 0
RecordedOn ps n cs (Ok u) qs = (any_crowded ps ≡ false) × (qs ≡ map (add_commands n cs) ps)
RecordedOn ps n cs (Err f) qs = (any_crowded ps ≡ true) × (sink_number f ≡ 15) × (qs ≡ ps)

abbrev pub has_failed : {F : Type 0} → Result (Unit {0}) F → Bool
has_failed (Ok u) = false
has_failed (Err f) = true

module _ {S F : Type 0} (takes : S → Page → Result (Unit {0}) F → S → Type 0) where
  abbrev pub Offers : List Page → S → Result (Unit {0}) F → S → Type 0
  Offers qs t r u = (ps : List Page) × (UpTo (has_failed r) ps qs × Offered takes ps t r u)
