-- The place at the first one that opens: it is the next of its page.
use Rattle.std.proofs.Common.{None, Some, ◌∙◌, arith}
use Rattle.shelf_cache.specs.Places.{opening, new_place}
use Rattle.shelf_cache.proofs.Searches.{map_first}
use Rattle.shelf_cache.proofs.Rooms.{opens_is}
use Rattle.shelf_cache.proofs.shelves.Shelves.new_place.Goals as goal

pub end_above-requires-clause-next : goal.end_above-requires-clause-next
end_above-requires-clause-next c =
    let g = c.args.self.now in
    let o = opens_is g.count g.height c.args.height g.shelves g.standing c.in_ok-at.at c.in_ok-at.ensures.1 in
    omega (arith, o.next)

pub returns-in_err-at : goal.returns-in_err-at
returns-in_err-at c =
    let g = c.args.self.now in
    c.from_residual.ensures ∙ map_first (new_place g.shelves c.args.height) (opening g c.args.height) 64 None c.in_err-at.ensures

pub returns : goal.returns
returns c =
    let g = c.args.self.now in
    rw c.end_above.ensures (map_first (new_place g.shelves c.args.height) (opening g c.args.height) 64 (Some c.in_ok-at.at) c.in_ok-at.ensures)
