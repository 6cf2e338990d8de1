use Rattle.try_page.specs.Reading.{left_of}
use Rattle.try_page.proofs.draft.Draft.read.Given as goal

abbrev pub decreases-loop-word : goal.decreases-loop-word
decreases-loop-word l = left_of l.words
