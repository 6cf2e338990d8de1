-- The keys still differ and the slots are still small when an entry takes another tick, with one entry more, and with some less. Assumes nothing.
use Rattle.std.proofs.Common.{◌≡◌, ℕ, ◌≤◌, Bool, true, false, cond, ltb, List, [], ◌∷◌, ◌++◌, Some, None, Option, filter, sym, refl, ap, ◌∙◌}
use Rattle.std.proofs.lemmas.List.{map-append}
use Rattle.std.proofs.lemmas.List.Elements.{filter-append}
use Rattle.std.proofs.lemmas.Bool.{or_from, or_parts, le-ltb}
use Rattle.std.proofs.lemmas.Option.{none-some}
use Rattle.glyph_key.specs.declared.key.GlyphCacheKey.{GlyphCacheKey}
use Rattle.glyph_key.specs.Keys.{same_key}
use Rattle.glyph_key.specs.Once.{known, comes_again, repeats}
use Rattle.glyph_key.proofs.Once.{still_once}
use Rattle.glyph_atlas.specs.declared.entry.GlyphCacheEntry.{GlyphCacheEntry}
use Rattle.glyph_atlas.specs.Atlases.{lookup, renewed, new_entry}
use Rattle.glyph_atlas.specs.Shape.{entry_key, keys_of, oversized}

pub kept_none : {X : Type 0} (b : Bool) (x : X) (xs : List X) → cond b (x ∷ xs) xs ≡ [] → (b ≡ false) × (xs ≡ [])
kept_none true x xs h = let z : ⊥ = cc in absurd z
kept_none false x xs h = (refl, h)

-- an entry takes another tick

keys_renewed : (k : GlyphCacheKey) (t : ℕ) (es : List GlyphCacheEntry) → keys_of (renewed k t es) ≡ keys_of es
keys_renewed k t [] = refl
keys_renewed k t (e ∷ es) = go (same_key e.key k) (keys_renewed k t es)
  where
    go : (b : Bool) → keys_of (renewed k t es) ≡ keys_of es → keys_of (cond b (new_entry e.key e.slot t ∷ es) (e ∷ renewed k t es)) ≡ keys_of (e ∷ es)
    go true r = refl
    go false r = ap (λ ks. e.key ∷ ks) r

pub once_renewed : (k : GlyphCacheKey) (t : ℕ) (es : List GlyphCacheEntry) → repeats (keys_of es) ≡ false → repeats (keys_of (renewed k t es)) ≡ false
once_renewed k t es h = ap repeats (keys_renewed k t es) ∙ h

pub sized_renewed : (k : GlyphCacheKey) (t : ℕ) (es : List GlyphCacheEntry) → filter oversized es ≡ [] → filter oversized (renewed k t es) ≡ []
sized_renewed k t [] h = refl
sized_renewed k t (e ∷ es) h = let p = kept_none (oversized e) e (filter oversized es) h in go (same_key e.key k) p.0 p.1 (sized_renewed k t es p.1)
  where
    go : (b : Bool) → oversized e ≡ false → filter oversized es ≡ [] → filter oversized (renewed k t es) ≡ [] → filter oversized (cond b (new_entry e.key e.slot t ∷ es) (e ∷ renewed k t es)) ≡ []
    go true f r s = ap (λ b. cond b (new_entry e.key e.slot t ∷ filter oversized es) (filter oversized es)) f ∙ r
    go false f r s = ap (λ b. cond b (e ∷ filter oversized (renewed k t es)) (filter oversized (renewed k t es))) f ∙ s

-- one entry more

missed_first : {X : Type 0} (b : Bool) (x : X) (o : Option X) → cond b (Some x) o ≡ None → (b ≡ false) × (o ≡ None)
missed_first true x o h = absurd (none-some x (sym h))
missed_first false x o h = (refl, h)

-- a key that a lookup does not find is not among the keys
unknown : (k : GlyphCacheKey) (es : List GlyphCacheEntry) → lookup k es ≡ None → known (keys_of es) k ≡ false
unknown k [] h = refl
unknown k (e ∷ es) h =
    let p = missed_first (same_key e.key k) e (lookup k es) h in
    or_from (same_key e.key k) (known (keys_of es) k) p.0 (unknown k es p.1)

pub once_more : (es : List GlyphCacheEntry) (e : GlyphCacheEntry) → repeats (keys_of es) ≡ false → lookup e.key es ≡ None → repeats (keys_of (es ++ e ∷ [])) ≡ false
once_more es e h n = ap repeats (map-append entry_key es (e ∷ [])) ∙ still_once e.key (keys_of es) h (unknown e.key es n)

pub sized_more : (es : List GlyphCacheEntry) (e : GlyphCacheEntry) → filter oversized es ≡ [] → e.slot.width ≤ 65533 → e.slot.height ≤ 65533 → filter oversized (es ++ e ∷ []) ≡ []
sized_more es e h w l =
    let o : oversized e ≡ false = or_from (ltb 65533 e.slot.width) (ltb 65533 e.slot.height) (le-ltb 65533 e.slot.width w) (le-ltb 65533 e.slot.height l) in
    filter-append oversized es (e ∷ []) ∙ (ap (λ ys. ys ++ filter oversized (e ∷ [])) h ∙ ap (λ b. cond b (e ∷ []) []) o)

-- some entries less

pub sized_less : {X : Type 0} (p q : X → Bool) (xs : List X) → filter p xs ≡ [] → filter p (filter q xs) ≡ []
sized_less p q [] h = refl
sized_less p q (x ∷ xs) h = let k = kept_none (p x) x (filter p xs) h in go (q x) k.0 (sized_less p q xs k.1)
  where
    go : (b : Bool) → p x ≡ false → filter p (filter q xs) ≡ [] → filter p (cond b (x ∷ filter q xs) (filter q xs)) ≡ []
    go true f r = ap (λ b. cond b (x ∷ filter p (filter q xs)) (filter p (filter q xs))) f ∙ r
    go false f r = r

new_less : (k : GlyphCacheKey) (q : GlyphCacheEntry → Bool) (es : List GlyphCacheEntry) → comes_again k (keys_of es) ≡ false → comes_again k (keys_of (filter q es)) ≡ false
new_less k q [] h = refl
new_less k q (e ∷ es) h = let p = or_parts (same_key k e.key) (comes_again k (keys_of es)) h in go (q e) p.0 (new_less k q es p.1)
  where
    go : (b : Bool) → same_key k e.key ≡ false → comes_again k (keys_of (filter q es)) ≡ false → comes_again k (keys_of (cond b (e ∷ filter q es) (filter q es))) ≡ false
    go true f r = or_from _ _ f r
    go false f r = r

pub once_less : (q : GlyphCacheEntry → Bool) (es : List GlyphCacheEntry) → repeats (keys_of es) ≡ false → repeats (keys_of (filter q es)) ≡ false
once_less q [] h = refl
once_less q (e ∷ es) h =
    let p = or_parts (comes_again e.key (keys_of es)) (repeats (keys_of es)) h in
    go (q e) (new_less e.key q es p.0) (once_less q es p.1)
  where
    go : (b : Bool) → comes_again e.key (keys_of (filter q es)) ≡ false → repeats (keys_of (filter q es)) ≡ false → repeats (keys_of (cond b (e ∷ filter q es) (filter q es))) ≡ false
    go true n r = or_from _ _ n r
    go false n r = r
