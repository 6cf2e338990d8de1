-- The words and sizes of a new grid are as they must be.
use Rattle.std.proofs.Common.{replicate, refl, arith}
use Rattle.grid_cache.specs.Sizes.{no_size}
use Rattle.grid_cache.proofs.Opening.{new_free, new_none, no_sizes}
use Rattle.grid_cache.proofs.grid.Grid.open.Goals as goal

pub invariant_of-result-clause-within : goal.invariant_of-result-clause-within
invariant_of-result-clause-within c = λ k. rw (no_sizes 256 k) (record { wide = omega arith; high = omega arith })

pub returns : goal.returns
returns c = record {
  side = refl;
  pages = refl;
  all_free = rw c.new_words.ensures (new_free c.args.count c.requires.few);
  none_live = rw c.new_words.ensures (new_none c.args.cell c.args.count (replicate 256 no_size) c.requires.few);
}
