-- What is finite is no NaN, and each test is the one on units.
use Rattle.std.proofs.Common.{◌&&◌, ◌∙◌, rules}
use Rattle.floats.proofs.Numbers.{passes}
use Rattle.floats.proofs.Sizes.{number}
use Rattle.raster.proofs.Finite.{linear}
use Rattle.raster.proofs.Tests.{straight_is}
use Rattle.raster.proofs.transform.supports_bitmap.Goals as goal

pub is_sign_positive-requires : goal.is_sign_positive-requires
is_sign_positive-requires c = number _ (linear c.args.t c.requires).a_is

pub is_sign_positive-requires-2 : goal.is_sign_positive-requires-2
is_sign_positive-requires-2 c = number _ (linear c.args.t c.requires).d_is

pub returns : goal.returns
returns c =
    let t = c.args.t in
    let p = linear t c.requires in
    let b = c.is_straight.ensures ∙ straight_is t.b (passes _ (search rules)) p.b_is in
    let d = c.is_straight-2.ensures ∙ straight_is t.c (passes _ (search rules)) p.c_is in
    λ i. b i && d i && c.is_sign_positive.ensures i && c.is_sign_positive-2.ensures i
