-- What a summary becomes with one more verdict. Counts stop at 2 ^ 64 - 1. Assumes nothing.
--     slot_pixels m    the pixels of a picture's slot: one more on every side
--     Added s v t      t is the summary s with the verdict v added
use Rattle.std.specs.Prelude.{◌≡◌, ℕ, ◌+◌, ◌-◌, ◌*◌, ◌^◌, min, cond, List, Ok, Err, Result}
use Rattle.indexmap.specs.IndexSet.{IndexSet, keys, IsEmpty, IsUnchanged}
use Rattle.glyph_key.specs.declared.key.GlyphCacheKey.{GlyphCacheKey}
use Rattle.glyph_key.specs.declared.fault.KeyFault.TheVariants.{TooManyAxes, NotANumber}
use Rattle.raster.specs.declared.glyph.RasterMetrics.{RasterMetrics}
use Rattle.try_page.specs.Once.{known, with_key, IsWith}
use Rattle.try_page.specs.declared.verdict.Verdict.{Verdict}
use Rattle.try_page.specs.declared.verdict.Verdict.TheVariants.{Atlas, Plain}
use Rattle.try_page.specs.declared.verdict.LetterFault.{LetterFault}
use Rattle.try_page.specs.declared.verdict.LetterFault.TheVariants.{NotFinite, Key, Raster}
use Rattle.try_page.specs.declared.summary.Refusals.{Refusals}
use Rattle.try_page.specs.declared.summary.Summary.{Summary}

abbrev pub more : ℕ → ℕ → ℕ
more n k = min (n + k) (2 ^ 64 - 1)

abbrev pub slot_pixels : RasterMetrics → ℕ
slot_pixels m = (m.width + 2) * (m.height + 2)

abbrev pub refused_more : Refusals → LetterFault → Refusals
refused_more r NotFinite = record { not_finite = more r.not_finite 1; too_many_axes = r.too_many_axes; not_a_number = r.not_a_number; no_metrics = r.no_metrics }
refused_more r (Key TooManyAxes) = record { not_finite = r.not_finite; too_many_axes = more r.too_many_axes 1; not_a_number = r.not_a_number; no_metrics = r.no_metrics }
refused_more r (Key NotANumber) = record { not_finite = r.not_finite; too_many_axes = r.too_many_axes; not_a_number = more r.not_a_number 1; no_metrics = r.no_metrics }
refused_more r (Raster e) = record { not_finite = r.not_finite; too_many_axes = r.too_many_axes; not_a_number = r.not_a_number; no_metrics = more r.no_metrics 1 }

abbrev pub plain_after : ℕ → Result Verdict LetterFault → ℕ
plain_after n (Ok (Atlas k m)) = n
plain_after n (Ok (Plain k)) = more n 1
plain_after n (Err e) = n

-- the keys of letters that are not refused, in the order in which they came
abbrev pub keys_after : List GlyphCacheKey → Result Verdict LetterFault → List GlyphCacheKey
keys_after ks (Ok (Atlas k m)) = with_key ks k
keys_after ks (Ok (Plain k)) = with_key ks k
keys_after ks (Err e) = ks

-- the keys that have a slot
abbrev pub slots_after : List GlyphCacheKey → Result Verdict LetterFault → List GlyphCacheKey
slots_after ks (Ok (Atlas k m)) = with_key ks k
slots_after ks (Ok (Plain k)) = ks
slots_after ks (Err e) = ks

-- the sets of both, before and after
abbrev pub KeysAfter : {S : Type 0} → IndexSet GlyphCacheKey S → Result Verdict LetterFault → IndexSet GlyphCacheKey S → Type 0
KeysAfter s (Ok (Atlas k m)) t = IsWith s k t
KeysAfter s (Ok (Plain k)) t = IsWith s k t
KeysAfter s (Err e) t = IsUnchanged s t

-- the keys that have a slot
abbrev pub SlotsAfter : {S : Type 0} → IndexSet GlyphCacheKey S → Result Verdict LetterFault → IndexSet GlyphCacheKey S → Type 0
SlotsAfter s (Ok (Atlas k m)) t = IsWith s k t
SlotsAfter s (Ok (Plain k)) t = IsUnchanged s t
SlotsAfter s (Err e) t = IsUnchanged s t

-- a slot is counted for the first letter that has it
abbrev pub pixels_after : {S : Type 0} → ℕ → IndexSet GlyphCacheKey S → Result Verdict LetterFault → ℕ
pixels_after n s (Ok (Atlas k m)) = cond (known s k) n (more n (slot_pixels m))
pixels_after n s (Ok (Plain k)) = n
pixels_after n s (Err e) = n

abbrev pub refusals_after : Refusals → Result Verdict LetterFault → Refusals
refusals_after r (Ok v) = r
refusals_after r (Err e) = refused_more r e

pub record Added (s : Summary) (v : Result Verdict LetterFault) (t : Summary) : Type 0 where
  pub of_letters : t.letters ≡ more s.letters 1
  pub of_plain : t.plain ≡ plain_after s.plain v
  pub of_pixels : t.pixels ≡ pixels_after s.pixels s.pictures.items v
  pub of_unread : t.unread ≡ s.unread
  pub of_refusals : t.refusals ≡ refusals_after s.refusals v
  pub of_keys : KeysAfter s.keys.items v t.keys.items
  pub of_pictures : SlotsAfter s.pictures.items v t.pictures.items
  pub key_order : keys t.keys.items ≡ keys_after (keys s.keys.items) v
  pub picture_order : keys t.pictures.items ≡ slots_after (keys s.pictures.items) v

-- nothing has been added
pub record Blank (t : Summary) : Type 0 where
  pub no_letters : t.letters ≡ 0
  pub no_plain : t.plain ≡ 0
  pub no_pixels : t.pixels ≡ 0
  pub no_unread : t.unread ≡ 0
  pub no_refusals : t.refusals ≡ record { not_finite = 0; too_many_axes = 0; not_a_number = 0; no_metrics = 0 }
  pub no_keys : IsEmpty t.keys.items
  pub no_pictures : IsEmpty t.pictures.items

-- one more line that could not be read, and all else as it was
pub record Unread (s t : Summary) : Type 0 where
  pub one_more : t.unread ≡ more s.unread 1
  pub same_letters : t.letters ≡ s.letters
  pub same_plain : t.plain ≡ s.plain
  pub same_pixels : t.pixels ≡ s.pixels
  pub same_refusals : t.refusals ≡ s.refusals
  pub same_keys : IsUnchanged s.keys.items t.keys.items
  pub same_pictures : IsUnchanged s.pictures.items t.pictures.items
