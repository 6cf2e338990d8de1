use Rattle.std.proofs.Common.{sym, ap}
use lib.Ieee.{of_bits}
use Rattle.try_page.specs.Reading.{usual_transform}
use Rattle.try_page.proofs.draft.usual_transform.Goals as goal

pub returns-in-Outline : goal.returns-in-Outline
unfolding of_bits
returns-in-Outline c = ap usual_transform (sym c.in-Outline.is)
