-- The literal 1.0 is one.
use Rattle.std.proofs.Common.{refl}
use lib.Ieee.{of_bits}
use Rattle.cases.proofs.outline.Goals as goal

pub returns : goal.returns
unfolding of_bits
returns c = refl
