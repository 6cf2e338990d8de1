-- Cutting the edges to 32 bits changes nothing.
use Rattle.std.proofs.Common.{cond, pos, ◌+ℤ◌, neg_ℤ, Err, sym, ◌∙◌}
use Rattle.std.proofs.lemmas.Bool.{and_parts}
use Rattle.floats.specs.Units.{units_of, floor_of, ceil_of}
use Rattle.shapes.specs.Numbers.{finite_rect}
use Rattle.raster.specs.declared.fault.RasterFault.TheVariants.{Metrics}
use Rattle.raster.specs.Metric.{from_edges, from_ordered, in_order}
use Rattle.raster.proofs.Cut.{edges_cut}
use Rattle.raster.proofs.metrics.from_box.Goals as goal

pub returns : goal.returns
returns c =
    let b = c.args.b in
    let e = c.around.ensures in
    let p = and_parts (finite_rect b) (in_order b) (sym c.is_upright.ensures ∙ c.if-not-is_upright.false) in
    c.metrics.ensures
    ∙ (λ i. from_edges (e.left i) (e.right i +ℤ pos 1) (e.top i) (e.bottom i))
    ∙ edges_cut (floor_of (units_of b.x0)) (ceil_of (units_of b.x1)) (floor_of (neg_ℤ (units_of b.y1))) (ceil_of (neg_ℤ (units_of b.y0)))
    ∙ sym (λ i. cond (p.0 i) (cond (p.1 i) (from_ordered b) (Err Metrics)) (Err Metrics))
