-- A list in which no key comes twice, with one more key that it does not know. Assumes nothing.
use Rattle.std.proofs.Common.{◌≡◌, false, List, [], ◌∷◌, ◌++◌, refl}
use Rattle.std.proofs.lemmas.Bool.{or_from, or_parts}
use Rattle.glyph_key.specs.declared.key.GlyphCacheKey.{GlyphCacheKey}
use Rattle.glyph_key.specs.Keys.{same_key}
use Rattle.glyph_key.specs.Once.{known, comes_again, repeats}

still_new : (x k : GlyphCacheKey) (ks : List GlyphCacheKey) → comes_again x ks ≡ false → same_key x k ≡ false → comes_again x (ks ++ k ∷ []) ≡ false
still_new x k [] p q = or_from _ _ q refl
still_new x k (y ∷ ys) p q = let h = or_parts (same_key x y) (comes_again x ys) p in or_from _ _ h.0 (still_new x k ys h.1 q)

pub still_once : (k : GlyphCacheKey) (ks : List GlyphCacheKey) → repeats ks ≡ false → known ks k ≡ false → repeats (ks ++ k ∷ []) ≡ false
still_once k [] p q = refl
still_once k (x ∷ xs) p q =
    let h = or_parts (comes_again x xs) (repeats xs) p in
    let n = or_parts (same_key x k) (known xs k) q in
    or_from _ _ (still_new x k xs h.0 n.0) (still_once k xs h.1 n.1)
