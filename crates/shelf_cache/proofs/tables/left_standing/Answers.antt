-- Past the last shelf in use none is used.
use Rattle.std.proofs.Common.{◌+◌, ◌*◌, arith}
use Rattle.std.proofs.lemmas.Grind.{common_steps}
use Rattle.std.proofs.lemmas.List.Edits.{get_or-between}
use Rattle.shelf_cache.specs.Rows.{no_shelf}
use Rattle.shelf_cache.proofs.tables.left_standing.Goals as goal

pub returns : goal.returns
returns c = record {
  fewer = grind (arith, common_steps);
  gone = λ j a b.
      let top = 16 * c.args.page in
      let e = get_or-between c.args.shelves.now top (top + c.args.n) j no_shelf (omega arith) in
      grind arith;
  last = λ l. grind (arith, common_steps);
}
