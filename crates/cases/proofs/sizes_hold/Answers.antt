-- By computation.
use Rattle.std.proofs.Common.{◌≡◌, true, Ok, Result, sym, refl, ap, ◌∙◌}
use lib.Ieee.{of_bits, neg, mul, size}
use Rattle.std.specs.Float.{float_is_finite}
use Rattle.shapes.specs.Answers.{refused_with}
use Rattle.raster.specs.declared.glyph.RasterMetrics.{RasterMetrics}
use Rattle.raster.specs.declared.fault.RasterFault.{RasterFault}
use Rattle.raster.specs.Faults.{raster_number}
use Rattle.raster.specs.Metric.{metrics_of}
use Rattle.cases.specs.Cases.{Sizes}
use Rattle.cases.proofs.sizes_hold.Goals as goal
use Rattle.cases.proofs.sizes_hold.Goals.{then-is_metrics, else-is_metrics}

abbrev is_ok : RasterMetrics → Result RasterMetrics RasterFault
is_ok m = Ok m

sizes : Sizes
unfolding of_bits neg mul float_is_finite size
sizes = (refl, refl, refl, refl, refl, refl)

pub returns-then-is_metrics-2 : goal.returns-then-is_metrics-2
unfolding of_bits neg mul float_is_finite size
returns-then-is_metrics-2 c = record {
  cases = sizes;
  run = c.is_refused.ensures (ap (refused_with raster_number) (c.calculate_raster_metrics-wider.ensures.answer ∙ ap metrics_of c.outline-3.ensures));
}

pub returns-else-is_metrics-2 : goal.returns-else-is_metrics-2
unfolding of_bits neg mul float_is_finite size
returns-else-is_metrics-2 c =
    let letter = c.is_metrics.ensures (c.calculate_raster_metrics-letter.ensures.answer ∙ ap metrics_of c.outline.ensures ∙ ap is_ok (sym c.metrics.ensures)) in
    let run : c.if-is_metrics.value ≡ true =
    elim c.if-is_metrics.branch [
      | then-is_metrics w ↦
          w.value-is ∙ w.is_metrics-then-is_metrics.ensures (c.calculate_raster_metrics-widest.ensures.answer ∙ ap metrics_of c.outline-2.ensures ∙ ap is_ok (sym w.metrics-then-is_metrics.ensures))
      | else-is_metrics w ↦ w.value-is ∙ letter
    ] in
    record { cases = sizes; run = run }
