-- Putting what a new picture needs into the atlas's queues: the atlas a before it, the answer r, and b after it. Assumes nothing.
--     Commanded a n cs r b    the commands cs for the page of number n: refused exactly where some page is crowded
--     Queued a p r b          an upload: refused exactly where 64 wait
--     SameRest a b            all but the pages and the uploads
use Rattle.std.specs.Prelude.{◌≡◌, ℕ, ◌<◌, ◌≤◌, true, false, List, [], ◌∷◌, ◌++◌, map, length, Ok, Err, Result}
use Rattle.interface.specs.declared.values.AtlasCommand.{AtlasCommand}
use Rattle.atlas_pages.specs.AllPages.{any_crowded, add_commands}
use Rattle.glyph_atlas.specs.declared.pending.PendingBitmapUpload.{PendingBitmapUpload}
use Rattle.glyph_atlas.specs.declared.fault.AtlasFault.{AtlasFault}
use Rattle.glyph_atlas.specs.Faults.{atlas_number}
use Rattle.glyph_atlas.specs.Atlases.{Atlas}
use Rattle.glyph_atlas.specs.Calls.{SameSettings, SameClock, SameCounts}

pub record SameRest (a b : Atlas) : Type 0 where
  pub entries : b.entries ≡ a.entries
  pub clears : b.clears ≡ a.clears
  pub settings : SameSettings a b
  pub clock : SameClock a b
  pub counts : SameCounts a b

abbrev pub Commanded : Atlas → ℕ → List AtlasCommand → Result (Unit {0}) AtlasFault → Atlas → Type 0
Commanded a n cs (Ok u) b = (any_crowded a.pages ≡ false) × SameRest a b × (b.pages ≡ map (add_commands n cs) a.pages) × (b.uploads ≡ a.uploads)
Commanded a n cs (Err f) b = (any_crowded a.pages ≡ true) × (atlas_number f ≡ 13) × (b ≡ a)

abbrev pub Queued : Atlas → PendingBitmapUpload → Result (Unit {0}) AtlasFault → Atlas → Type 0
Queued a p (Ok u) b = (length a.uploads < 64) × SameRest a b × (b.pages ≡ a.pages) × (b.uploads ≡ a.uploads ++ p ∷ [])
Queued a p (Err f) b = (64 ≤ length a.uploads) × (atlas_number f ≡ 13) × (b ≡ a)
