-- Images as calls have them. Assumes nothing.
--     pictured i       the image i, a pixmap by its handle alone
use Rattle.interface.specs.declared.values.ImageQuality.{ImageQuality}
use Rattle.interface.specs.declared.values.ImageSource.{ImageSource}
use Rattle.interface.specs.declared.values.ImageSource.TheVariants.{OfPixmap, OfAtlas}
use Rattle.interface.specs.declared.values.PaintImage.{PaintImage}
use Rattle.interface.specs.declared.call.Picture.{Picture}
use Rattle.interface.specs.declared.call.Picture.TheVariants.{PixmapHandle, AtlasPage}

abbrev pub pictured_from : ImageSource → ImageQuality → Picture
pictured_from (OfPixmap p) q = PixmapHandle p.handle q
pictured_from (OfAtlas n) q = AtlasPage n q

abbrev pub pictured : PaintImage → Picture
pictured i = pictured_from i.source i.quality
