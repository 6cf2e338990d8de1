-- Each test is the one on units.
use Rattle.std.proofs.Common.{◌&&◌, ◌∙◌, rules}
use Rattle.floats.proofs.Numbers.{passes}
use Rattle.floats.proofs.Sizes.{nought, above_lit, below_lit}
use Rattle.raster.proofs.Finite.{linear}
use Rattle.raster.proofs.Tests.{straight_is, unit_is}
use Rattle.raster.proofs.transform.supports_outline.Goals as goal

pub returns : goal.returns
returns c =
    let t = c.args.t in
    let p = linear t c.requires in
    let b = c.is_straight.ensures ∙ straight_is t.b (passes _ (search rules)) p.b_is in
    let d = c.is_straight-2.ensures ∙ straight_is t.c (passes _ (search rules)) p.c_is in
    let x = c.is_unit.ensures ∙ unit_is t.a (passes _ (search rules)) p.a_is in
    let y = c.is_unit-2.ensures ∙ unit_is t.d (passes _ (search rules)) p.d_is in
    let right = above_lit t.a (passes _ (search rules)) p.a_is 0 0 nought in
    let up = below_lit t.d (passes _ (search rules)) p.d_is 0 0 nought in
    λ i. b i && d i && x i && y i && right i && up i
