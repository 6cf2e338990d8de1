-- The definitions by computation; the first image's place from the contracts of the grid alone.
use Rattle.std.proofs.Common.{arith}
use Rattle.std.proofs.lemmas.Grind.{common_steps}
use Rattle.cases.proofs.First.{it_fits, placed}
use Rattle.cases.proofs.cells.cells_hold.Goals as goal

pub returns-in_default-allocate : goal.returns-in_default-allocate
returns-in_default-allocate c = absurd (it_fits c.in-Ok.grid c.allocate.new.self c.in_default-allocate.field-0 c.in-Ok.ensures.1 c.in_default-allocate.ensures.allocates)

pub returns-clause-run : goal.returns-clause-run
returns-clause-run c =
    let done = c.in-Ok-allocate.ensures in
    let p = placed c.in-Ok.grid c.allocate.new.self c.in-Ok-allocate.id c.in-Some.image c.in-Ok.ensures.1 done.chosen done.allocates c.in-Some.ensures in
    let page = p.0 in
    let x = p.1 in
    let y = p.2 in
    grind (arith, common_steps)
