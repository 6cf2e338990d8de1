-- The six calls between save and restore, with the screen's own answers for the slot.
use Rattle.std.proofs.Common.{rules}
use Rattle.interface.specs.declared.values.PaintImage.{PaintImage}
use Rattle.drawing.specs.Between.{picture_calls}
use Rattle.drawing.proofs.from_atlas.FromAtlas.show.Goals as goal

pub enclosed-requires-clause-sends : goal.enclosed-requires-clause-sends
enclosed-requires-clause-sends g c =
    let d = c.args.self in
    let image : PaintImage = record { source = c.atlas_image_source.result; quality = d.quality } in
    (picture_calls image c.atlas_paint_transform-place.result d.transform d.area d.tint, λ m n w. search rules)

pub returns-clause-shows : goal.returns-clause-shows
returns-clause-shows g c =
    let d = c.args.self in
    let image : PaintImage = record { source = c.atlas_image_source.result; quality = d.quality } in
    let shown = c.enclosed.ensures (picture_calls image c.atlas_paint_transform-place.result d.transform d.area d.tint) (λ m n w. search rules) in
    (search rules, simp (c.atlas_image_source.ensures, c.atlas_paint_transform-place.ensures) at shown)
