-- Floor and ceiling are those of the units; to negate a number is to negate its units.
use Rattle.std.proofs.Common.{ℤ, ap, ◌∙◌, arith, rules}
use Rattle.std.proofs.lemmas.Float.{T_from_true}
use Rattle.std.proofs.lemmas.Int.{ints}
use lib.Ieee.{binary64, neg, to_signed}
use Rattle.std.specs.Int.{saturate_to_bits}
use Rattle.floats.specs.Units.{floor_of, ceil_of}
use Rattle.floats.proofs.Floors.{floor_units, ceil_units}
use Rattle.floats.proofs.Negated.{units_neg, finite_neg}
use Rattle.raster.proofs.Finite.{sides}
use Rattle.raster.proofs.metrics.Edges.around.Goals as goal

pub returns-clause-left : goal.returns-clause-left
returns-clause-left c =
    let b = c.args.b in
    omega (arith, ints) ∙ c.saturating_f64_to_i32.ensures ∙ ap (to_signed 31) c.floor.ensures ∙ floor_units b.x0 (T_from_true _ (search rules)) (sides b c.requires).x0_is

pub returns-clause-right : goal.returns-clause-right
returns-clause-right c =
    let b = c.args.b in
    omega (arith, ints) ∙ c.saturating_f64_to_i32-2.ensures ∙ ap (to_signed 31) c.ceil.ensures ∙ ceil_units b.x1 (T_from_true _ (search rules)) (sides b c.requires).x1_is

pub returns-clause-top : goal.returns-clause-top
returns-clause-top c =
    let b = c.args.b in
    omega (arith, ints)
    ∙ c.saturating_f64_to_i32-3.ensures
    ∙ ap (to_signed 31) c.floor-2.ensures
    ∙ floor_units (neg b.y1) (T_from_true _ (search rules)) (finite_neg b.y1 (sides b c.requires).y1_is)
    ∙ ap (λ (z : ℤ). saturate_to_bits 31 (floor_of z)) (units_neg binary64 b.y1)

pub returns-clause-bottom : goal.returns-clause-bottom
returns-clause-bottom c =
    let b = c.args.b in
    omega (arith, ints)
    ∙ c.saturating_f64_to_i32-4.ensures
    ∙ ap (to_signed 31) c.ceil-2.ensures
    ∙ ceil_units (neg b.y0) (T_from_true _ (search rules)) (finite_neg b.y0 (sides b c.requires).y0_is)
    ∙ ap (λ (z : ℤ). saturate_to_bits 31 (ceil_of z)) (units_neg binary64 b.y0)
