-- What the answer for an outline says of its box.
use Rattle.std.proofs.Common.{ap, ◌∙◌}
use Rattle.raster.specs.declared.glyph.Glyph.TheVariants.{Outline}
use Rattle.raster.specs.Metric.{from_box}
use Rattle.raster.proofs.Covering.{measured}
use Rattle.raster.proofs.metrics.of_outline.Goals as goal

pub returns : goal.returns
returns c = measured (Outline c.args.outline) c.from_box.result (c.from_box.ensures ∙ ap from_box c.scaled.ensures)
