use Rattle.std.proofs.Common.{length}
use Rattle.try_page.proofs.choice.CacheChoice.read_all.Given as goal

abbrev pub decreases-loop-rest : goal.decreases-loop-rest
decreases-loop-rest l = length l.rest
