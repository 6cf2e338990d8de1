-- The pages that were come to have the commands if they are for them, and the others are as they were.
use Rattle.std.proofs.Common.{◌≡◌}
use Rattle.atlas_pages.specs.AllPages.{add_commands}
use Rattle.atlas_pages.proofs.Changing.{changed_to}
use Rattle.atlas_pages.proofs.sets.add_to.Given as goal

abbrev pub invariant-loop-recorder : goal.invariant-loop-recorder
invariant-loop-recorder l = l.recorders ≡ changed_to (add_commands l.page l.commands) l.initial.recorders l.recorder-index
