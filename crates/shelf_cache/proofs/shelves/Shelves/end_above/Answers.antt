-- The shelf above stands, so it is inside the page.
use Rattle.std.proofs.Common.{◌≡◌, ◌-◌, ◌/◌, ap, arith}
use Rattle.shelf_cache.specs.Rows.{on_page, There}
use Rattle.shelf_cache.proofs.shelves.Shelves.end_above.Goals as goal

pub end-requires : goal.end-requires
end-requires c =
    let g = c.args.self.now in
    let s = c.args.at in
    let d : (s - 1) / 16 ≡ s / 16 = omega arith in
    let q = ap (on_page g.standing) d in
    let t : There g.standing (s - 1) = omega (arith, c.requires.next) in
    omega (arith, g.inside (s - 1) t, g.high)
