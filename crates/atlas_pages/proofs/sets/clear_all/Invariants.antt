-- The pages that were come to are empty, and the others are as they were.
use Rattle.std.proofs.Common.{◌≡◌}
use Rattle.pages.specs.Pages.{emptied}
use Rattle.atlas_pages.proofs.Changing.{changed_to}
use Rattle.atlas_pages.proofs.sets.clear_all.Given as goal

abbrev pub invariant-loop-recorder : goal.invariant-loop-recorder
invariant-loop-recorder l = l.recorders ≡ changed_to emptied l.initial.recorders l.recorder-index
