-- One picture more.
use Rattle.std.proofs.Common.{◌<◌, length, arith, rules}
use Rattle.std.proofs.lemmas.List.{take_more}
use Rattle.packing.proofs.Steps.{one_more}
use Rattle.packing.proofs.place.place_all.Goals as goal

pub loop-size-preserved : goal.loop-size-preserved
loop-size-preserved g c =
    let i = c.loop-size.size-index in
    let here : i < length c.args.sizes.now = omega arith in
    let step = one_more _ _ _ _ _ _ _ c.loop-size.invariant.0 c.place.ensures.places in
    (rw (take_more c.args.sizes.now i (record { w = 0; h = 0 }) here, c.push_reserved.ensures.items) step, search rules, search rules)
