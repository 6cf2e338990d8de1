-- What a page recorder means as a sink. Assumes nothing.
--     recorder_means p    the recorder of the page p: its commands, with places for 120; no state saved, number 0, black, and zeros for every slot
--     black               red, green and blue 0, alpha 1
use Rattle.std.specs.Prelude.{◌-◌, List, map, length}
use Rattle.shapes.specs.declared.Affine.{Affine}
use Rattle.shapes.specs.declared.Color.{Color}
use Rattle.shapes.specs.Numbers.{zero, one}
use Rattle.interface.specs.declared.values.AtlasCommand.{AtlasCommand}
use Rattle.interface.specs.declared.values.ImageSource.TheVariants.{OfAtlas}
use Rattle.interface.specs.declared.call.Call.TheVariants.{Command}
use Rattle.interface.specs.Sinks.{Sink}
use Rattle.pages.specs.Pages.{Page}

abbrev pub black : Color
black = record { r = zero; g = zero; b = zero; a = one }

abbrev pub zeros : Affine
zeros = record { a = zero; b = zero; c = zero; d = zero; e = zero; f = zero }

abbrev pub recording : List AtlasCommand → Sink
recording cs = record {
  calls = map Command cs;
  free = 120 - length cs;
  saved = 0;
  number = 0;
  colour = black;
  image_at = λ s. OfAtlas 0;
  place_at = λ s. zeros;
}

abbrev pub recorder_means : Page → Sink
recorder_means p = recording p.commands
