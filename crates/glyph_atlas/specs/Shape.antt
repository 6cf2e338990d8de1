-- What always holds inside an atlas: the keys of its entries differ, and its slots are small enough for the padding. Assumes nothing.
--     keys_of es      the keys of the entries
--     oversized e     the entry's picture with its padding would not fit 16 bits
use Rattle.std.specs.Prelude.{Bool, ◌||◌, List, map, nat_lt}
use Rattle.glyph_key.specs.declared.key.GlyphCacheKey.{GlyphCacheKey}
use Rattle.glyph_atlas.specs.declared.entry.GlyphCacheEntry.{GlyphCacheEntry}

abbrev pub entry_key : GlyphCacheEntry → GlyphCacheKey
entry_key e = e.key

abbrev pub keys_of : List GlyphCacheEntry → List GlyphCacheKey
keys_of es = map entry_key es

abbrev pub oversized : GlyphCacheEntry → Bool
oversized e = nat_lt 65533 e.slot.width || nat_lt 65533 e.slot.height
