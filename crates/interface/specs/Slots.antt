-- What the screens here answer for a slot. Assumes nothing.
--     slot_page s      its page, as an image
--     slot_place s     the shift that takes its left top corner to the origin
use Rattle.std.specs.Float.Ieee.{neg}
use Rattle.shapes.specs.declared.Affine.{Affine}
use Rattle.shapes.specs.Numbers.{zero, one, natural}
use Rattle.interface.specs.declared.region.AtlasSlot.{AtlasSlot}
use Rattle.interface.specs.declared.values.ImageSource.{ImageSource}
use Rattle.interface.specs.declared.values.ImageSource.TheVariants.{OfAtlas}

abbrev pub identity : Affine
identity = record { a = one; b = zero; c = zero; d = one; e = zero; f = zero }

abbrev pub slot_page : AtlasSlot → ImageSource
slot_page s = OfAtlas s.page

abbrev pub slot_place : AtlasSlot → Affine
slot_place s = record { a = one; b = zero; c = zero; d = one; e = neg (natural s.x); f = neg (natural s.y) }
