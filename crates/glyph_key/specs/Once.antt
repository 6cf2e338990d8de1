-- Lists of keys with no key twice. Assumes nothing.
--     known ks k       a key of the list is the same as k
--     with_key ks k    the list with k at its end, unless it is known
--     repeats ks       a key of the list is the same as one after it
use Rattle.std.specs.Prelude.{Bool, false, cond, ◌||◌, List, [], ◌∷◌, ◌++◌}
use Rattle.glyph_key.specs.declared.key.GlyphCacheKey.{GlyphCacheKey}
use Rattle.glyph_key.specs.Keys.{same_key}

abbrev pub known : List GlyphCacheKey → GlyphCacheKey → Bool
known [] k = false
known (x ∷ xs) k = same_key x k || known xs k

abbrev pub with_key : List GlyphCacheKey → GlyphCacheKey → List GlyphCacheKey
with_key ks k = cond (known ks k) ks (ks ++ k ∷ [])

-- k is the same as a key of the list
abbrev pub comes_again : GlyphCacheKey → List GlyphCacheKey → Bool
comes_again k [] = false
comes_again k (x ∷ xs) = same_key k x || comes_again k xs

abbrev pub repeats : List GlyphCacheKey → Bool
repeats [] = false
repeats (x ∷ xs) = comes_again x xs || repeats xs
