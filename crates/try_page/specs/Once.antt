-- Sets of keys in the order in which they came, in which no key is the same as another. Assumes nothing.
--     known s k        a key of the set is the same as k
--     IsWith s k t     t has the keys of s, and k: one more, at the end, unless it is known
--     with_key ks k, comes_again k ks, repeats ks    of lists of keys, as the key crate defines them
pub use Rattle.glyph_key.specs.Once.{with_key, comes_again, repeats}
use Rattle.std.specs.Prelude.{◌≡◌, ◌+◌, Bool, true, cond}
use Rattle.indexmap.specs.IndexSet.{IndexSet, keys, contains, index_set_len}
use Rattle.glyph_key.specs.declared.key.GlyphCacheKey.{GlyphCacheKey}
use Rattle.glyph_key.specs.Keys.{same_key}

module _ {S : Type 0} where
  abbrev pub known : IndexSet GlyphCacheKey S → GlyphCacheKey → Bool
  known s k = contains same_key s k

  pub record IsWith (s : IndexSet GlyphCacheKey S) (k : GlyphCacheKey) (t : IndexSet GlyphCacheKey S) : Type 0 where
    pub has : (q : GlyphCacheKey) → known t q ≡ cond (same_key k q) true (known s q)
    pub count : index_set_len t ≡ index_set_len s + cond (known s k) 0 1
    pub order : keys t ≡ with_key (keys s) k
