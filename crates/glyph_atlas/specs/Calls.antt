-- What each call of an atlas does: the atlas a before it (with the cache c, the target t), its arguments, its answer, and b (d, u) after it.
-- A refused call leaves everything equal. Only the ids of images are free: `Placed` names them. Assumes nothing.
--     Got a k r b                   a lookup
--     Inserted a c k m r b d        a new entry of key k for a picture of metrics m
--     ClearTaken a r b, UploadTaken a r b      the oldest of what waits
--     Replayed takes a t r b u      the pages offered to a target, by what its kind does with an offer
--     Maintained a c r b d          one tick, and the old entries leave where that is due
--     Emptied a b, Uncounted a b    everything forgotten, the counters alone
--     Placed c m s d                the cache took one image, and s is the slot in it
--     Told                          what came of a replay, without the kind of its target: what was offered, and whether the last failed
use Rattle.std.specs.Prelude.{◌≡◌, ℕ, ◌+◌, ◌-◌, ◌^◌, ◌<◌, Bool, cond, not, ◌&&◌, List, [], ◌∷◌, ◌++◌, map, length, is_some, Some, None, Ok, Err, filter, Option, Result, ◌==◌, nat_le}
use Rattle.shapes.specs.Answers.{none}
use Rattle.glyph_key.specs.declared.key.GlyphCacheKey.{GlyphCacheKey}
use Rattle.image_cache.specs.declared.fault.CacheFault.{CacheFault}
use Rattle.image_cache.specs.Caches.{Cache, Added, Freed}
use Rattle.interface.specs.declared.region.AtlasSlot.{AtlasSlot}
use Rattle.raster.specs.declared.glyph.RasterMetrics.{RasterMetrics}
use Rattle.raster.specs.Metric.{too_large}
use Rattle.pages.specs.Pages.{Page, emptied, filled, Offered, UpTo}
use Rattle.atlas_pages.specs.AllPages.{has_failed}
use Rattle.glyph_atlas.specs.declared.entry.GlyphCacheEntry.{GlyphCacheEntry}
use Rattle.glyph_atlas.specs.declared.pending.PendingBitmapUpload.{PendingBitmapUpload}
use Rattle.glyph_atlas.specs.declared.pending.PendingClearRect.{PendingClearRect}
use Rattle.glyph_atlas.specs.declared.fault.AtlasFault.{AtlasFault}
use Rattle.glyph_atlas.specs.Atlases.{Atlas, Unused, lookup, renewed, new_entry, slot_in, padded, raised, is_due, is_old}
use Rattle.glyph_atlas.specs.Faults.{atlas_number}

-- Parts that a call leaves alone

pub record SameSettings (a b : Atlas) : Type 0 where
  pub age : b.age ≡ a.age
  pub frequency : b.frequency ≡ a.frequency

pub record SameClock (a b : Atlas) : Type 0 where
  pub tick : b.tick ≡ a.tick
  pub last_due : b.last_due ≡ a.last_due

pub record SameCounts (a b : Atlas) : Type 0 where
  pub hits : b.hits ≡ a.hits
  pub misses : b.misses ≡ a.misses

pub record SameQueues (a b : Atlas) : Type 0 where
  pub clears : b.clears ≡ a.clears
  pub uploads : b.uploads ≡ a.uploads
  pub pages : b.pages ≡ a.pages

-- Lookup

-- the entry takes the present tick, and hits rise by one
pub record HitBy (a : Atlas) (k : GlyphCacheKey) (s : AtlasSlot) (b : Atlas) : Type 0 where
  pub entry : GlyphCacheEntry
  pub found : lookup k a.entries ≡ Some entry
  pub its_slot : s ≡ entry.slot
  pub entries : b.entries ≡ renewed k a.tick a.entries
  pub hits : b.hits ≡ raised a.hits
  pub misses : b.misses ≡ a.misses
  pub settings : SameSettings a b
  pub clock : SameClock a b
  pub queues : SameQueues a b

-- misses rise by one
pub record Missed (a : Atlas) (k : GlyphCacheKey) (b : Atlas) : Type 0 where
  pub missing : lookup k a.entries ≡ None
  pub entries : b.entries ≡ a.entries
  pub hits : b.hits ≡ a.hits
  pub misses : b.misses ≡ raised a.misses
  pub settings : SameSettings a b
  pub clock : SameClock a b
  pub queues : SameQueues a b

abbrev pub Got : Atlas → GlyphCacheKey → Option AtlasSlot → Atlas → Type 0
Got a k (Some s) b = HitBy a k s b
Got a k None b = Missed a k b

-- A new entry

-- The cache took an image two pixels wider and higher than the picture. Its id is any that no live image had; the slot has that id.
pub record Placed (c : Cache) (m : RasterMetrics) (s : AtlasSlot) (d : Cache) : Type 0 where
  pub added : Added c (m.width + 2) (m.height + 2) s.id d
  pub its_slot : s ≡ slot_in added.image m

abbrev pub is_full : ℕ → Bool
is_full held = nat_le 256 held

-- the picture with its padding fits
abbrev pub has_room : Cache → RasterMetrics → Bool
has_room c m = c.fits (m.width + 2) (m.height + 2)

-- why no entry can be made, by number, the first reason that there is
abbrev pub no_entry : Atlas → Cache → GlyphCacheKey → RasterMetrics → Option ℕ
no_entry a c k m =
    cond (too_large m) (Some 5)
    (cond (is_some (lookup k a.entries)) (Some 6)
    (cond (is_full (length a.entries)) (Some 12)
    (cond (has_room c m) None (Some 14))))

pub record Entered (a : Atlas) (c : Cache) (k : GlyphCacheKey) (m : RasterMetrics) (s : AtlasSlot) (b : Atlas) (d : Cache) : Type 0 where
  pub allowed : no_entry a c k m ≡ None
  pub placed : Placed c m s d
  pub entries : b.entries ≡ a.entries ++ new_entry k s a.tick ∷ []
  pub settings : SameSettings a b
  pub clock : SameClock a b
  pub counts : SameCounts a b
  pub queues : SameQueues a b

abbrev pub Inserted : Atlas → Cache → GlyphCacheKey → RasterMetrics → Result (AtlasSlot × ℕ) AtlasFault → Atlas → Cache → Type 0
Inserted a c k m (Ok p) b d = Entered a c k m p.0 b d × (p.1 ≡ p.0.page)
Inserted a c k m (Err f) b d = (no_entry a c k m ≡ Some (atlas_number f)) × (b ≡ a) × (d ≡ c)

-- Taking what waits

pub record ClearOut (a : Atlas) (r : PendingClearRect) (b : Atlas) : Type 0 where
  pub oldest : a.clears ≡ r ∷ b.clears
  pub entries : b.entries ≡ a.entries
  pub uploads : b.uploads ≡ a.uploads
  pub pages : b.pages ≡ a.pages
  pub settings : SameSettings a b
  pub clock : SameClock a b
  pub counts : SameCounts a b

abbrev pub ClearTaken : Atlas → Option PendingClearRect → Atlas → Type 0
ClearTaken a (Some r) b = ClearOut a r b
ClearTaken a None b = (a.clears ≡ []) × (b ≡ a)

pub record UploadOut (a : Atlas) (p : PendingBitmapUpload) (b : Atlas) : Type 0 where
  pub clean : a.clears ≡ []
  pub oldest : a.uploads ≡ p ∷ b.uploads
  pub entries : b.entries ≡ a.entries
  pub clears : b.clears ≡ a.clears
  pub pages : b.pages ≡ a.pages
  pub settings : SameSettings a b
  pub clock : SameClock a b
  pub counts : SameCounts a b

-- refused exactly while a clear waits, also where there is no upload
abbrev pub UploadTaken : Atlas → Result (Option PendingBitmapUpload) AtlasFault → Atlas → Type 0
UploadTaken a (Ok (Some p)) b = UploadOut a p b
UploadTaken a (Ok None) b = (a.clears ≡ []) × (a.uploads ≡ []) × (b ≡ a)
UploadTaken a (Err f) b = (0 < length a.clears) × (atlas_number f ≡ 7) × (b ≡ a)

-- Replay

pub data Told : Type 0 where
  refused : AtlasFault → Told
  accepted : (offered : List Page) → (failed : Bool) → Told

-- failed or not, all pages are emptied
pub record PagesOut (a : Atlas) (ps : List Page) (failed : Bool) (b : Atlas) : Type 0 where
  pub clean : a.clears ≡ []
  pub offered : UpTo failed ps (filled a.pages)
  pub pages : b.pages ≡ map emptied a.pages
  pub entries : b.entries ≡ a.entries
  pub clears : b.clears ≡ a.clears
  pub uploads : b.uploads ≡ a.uploads
  pub settings : SameSettings a b
  pub clock : SameClock a b
  pub counts : SameCounts a b

-- refused exactly while a clear waits, also where no page has a command
abbrev pub Replays : Atlas → Told → Atlas → Type 0
Replays a (accepted ps failed) b = PagesOut a ps failed b
Replays a (refused f) b = (0 < length a.clears) × (atlas_number f ≡ 7) × (b ≡ a)

module _ {S F : Type 0} (takes : S → Page → Result (Unit {0}) F → S → Type 0) where
  -- the answer r, and the target after it, are those of what came of the replay
  abbrev pub ToldBy : S → Told → Result (Result (Unit {0}) F) AtlasFault → S → Type 0
  ToldBy t (refused f) r u = (r ≡ Err f) × (u ≡ t)
  ToldBy t (accepted ps failed) r u =
      (q : Result (Unit {0}) F) × ((r ≡ Ok q) × (failed ≡ has_failed q) × Offered takes ps t q u)

  abbrev pub Replayed : Atlas → S → Result (Result (Unit {0}) F) AtlasFault → Atlas → S → Type 0
  Replayed a t r b u = (told : Told) × (Replays a told b × ToldBy t told r u)

-- Maintain

abbrev pub next_tick : Atlas → ℕ
next_tick a = a.tick + 1

abbrev pub old_entry : Atlas → GlyphCacheEntry → Bool
old_entry a e = is_old a.age (next_tick a) e.tick

abbrev pub young_entry : Atlas → GlyphCacheEntry → Bool
young_entry a e = not (old_entry a e)

abbrev pub due_next : Atlas → Bool
due_next a = is_due a.frequency (next_tick a) a.last_due

-- which entries the next tick drops, in order of making, and which stay
abbrev pub leaving : Atlas → List GlyphCacheEntry
leaving a = cond (due_next a) (filter (old_entry a) a.entries) []

abbrev pub staying : Atlas → List GlyphCacheEntry
staying a = cond (due_next a) (filter (young_entry a) a.entries) a.entries

abbrev pub slot_of : GlyphCacheEntry → AtlasSlot
slot_of e = e.slot

abbrev pub image_id : AtlasSlot → ℕ
image_id s = s.id

-- those images freed one after the other, passing over one that is not live
abbrev pub FreedAll : Cache → List ℕ → Cache → Type 0
FreedAll c [] d = d ≡ c
FreedAll c (id ∷ ids) d = (m : Cache) × ((r : Result (Unit {0}) CacheFault) × (Freed c id r m × FreedAll m ids d))

-- anything waits: a clear, an upload, or a command
abbrev pub waits : Atlas → Bool
waits a = not (none a.clears && none a.uploads && none (filled a.pages))

-- why there can be no maintain, by number, the first reason that there is
abbrev pub no_upkeep : Atlas → Option ℕ
no_upkeep a = cond (waits a) (Some 8) (cond (a.tick == 2 ^ 64 - 1) (Some 16) None)

pub record KeptUp (a : Atlas) (c : Cache) (b : Atlas) (d : Cache) : Type 0 where
  pub allowed : no_upkeep a ≡ None
  pub tick : b.tick ≡ next_tick a
  pub last_due : b.last_due ≡ cond (due_next a) (next_tick a) a.last_due
  pub entries : b.entries ≡ staying a
  pub clears : b.clears ≡ a.clears ++ map padded (map slot_of (leaving a))
  pub freed : FreedAll c (map image_id (map slot_of (leaving a))) d
  pub uploads : b.uploads ≡ a.uploads
  pub pages : b.pages ≡ a.pages
  pub settings : SameSettings a b
  pub counts : SameCounts a b

abbrev pub Maintained : Atlas → Cache → Result (Unit {0}) AtlasFault → Atlas → Cache → Type 0
Maintained a c (Ok u) b d = KeptUp a c b d
Maintained a c (Err f) b d = (no_upkeep a ≡ Some (atlas_number f)) × (b ≡ a) × (d ≡ c)

-- The rest

pub record Emptied (a b : Atlas) : Type 0 where
  pub unused : Unused b
  pub settings : SameSettings a b

pub record Uncounted (a b : Atlas) : Type 0 where
  pub hits : b.hits ≡ 0
  pub misses : b.misses ≡ 0
  pub entries : b.entries ≡ a.entries
  pub settings : SameSettings a b
  pub clock : SameClock a b
  pub queues : SameQueues a b
