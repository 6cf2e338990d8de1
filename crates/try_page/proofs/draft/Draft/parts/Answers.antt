use lib.Ieee.{of_bits}
use Rattle.std.proofs.Common.{rules}
use Rattle.try_page.proofs.draft.Draft.parts.Goals as goal

pub returns : goal.returns
unfolding of_bits
returns c = record { of_font = search rules; of_index = search rules; of_glyph = search rules; of_size = search rules; of_hinted = search rules; of_color = search rules; of_embolden = c.unwrap_or-4.ensures }
