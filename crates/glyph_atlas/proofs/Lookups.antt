-- A lookup by place: the first entry with the key is the one that a lookup finds and a renewal changes. Assumes nothing.
use Rattle.std.proofs.Common.{◌≡◌, ℕ, suc, ◌+◌, Bool, true, false, cond, not, List, [], ◌∷◌, length, get_or, set, Some, None, sym, refl, ap, ◌∙◌, subst, inl, inr, arith}
use Rattle.std.specs.List.{slice_get, find, position, position_or_len}
use Rattle.std.proofs.lemmas.Bool.{lt-ltb, le-ltb}
use Rattle.std.proofs.lemmas.List.Folds.{find_at}
use Rattle.std.proofs.lemmas.Option.{slice_get_cases, get_or_from_slice_get}
use Rattle.glyph_key.specs.declared.key.GlyphCacheKey.{GlyphCacheKey}
use Rattle.glyph_key.specs.Keys.{same_key}
use Rattle.glyph_atlas.specs.declared.entry.GlyphCacheEntry.{GlyphCacheEntry}
use Rattle.glyph_atlas.specs.Atlases.{lookup, renewed, new_entry}
use Rattle.glyph_atlas.specs.Places.{HeldAt, PlaceOf}

abbrev pub has_key : GlyphCacheKey → GlyphCacheEntry → Bool
has_key k e = same_key e.key k

lookup_finds : (k : GlyphCacheKey) (es : List GlyphCacheEntry) → lookup k es ≡ find (has_key k) es
lookup_finds k [] = refl
lookup_finds k (e ∷ es) = ap (cond (has_key k e) (Some e)) (lookup_finds k es)

renewed_at : (k : GlyphCacheKey) (es : List GlyphCacheEntry) (e : GlyphCacheEntry) (t : ℕ) → lookup k es ≡ Some e → set es (position_or_len (has_key k) es) (new_entry e.key e.slot t) ≡ renewed k t es
renewed_at k [] e t h = refl
renewed_at k (x ∷ xs) e t h = go (has_key k x) h (renewed_at k xs e t)
  where
    go : (b : Bool) → cond b (Some x) (lookup k xs) ≡ Some e → (lookup k xs ≡ Some e → set xs (position_or_len (has_key k) xs) (new_entry e.key e.slot t) ≡ renewed k t xs) → set (x ∷ xs) (cond (not b) (1 + position_or_len (has_key k) xs) 0) (new_entry e.key e.slot t) ≡ cond b (new_entry x.key x.slot t ∷ xs) (x ∷ renewed k t xs)
    go true q f = let r : e ≡ x = cc in ap (λ (y : GlyphCacheEntry). new_entry y.key y.slot t ∷ xs) r
    go false q f =
        let z : 1 + position_or_len (has_key k) xs ≡ suc (position_or_len (has_key k) xs) = omega arith in
        ap (λ j. set (x ∷ xs) j (new_entry e.key e.slot t)) z ∙ ap (λ ys. x ∷ ys) (f q)

pub place_found : (k : GlyphCacheKey) (es : List GlyphCacheEntry) → PlaceOf k es (position (has_key k) es)
place_found k es =
    let i : ℕ = position_or_len (has_key k) es in
    let f : lookup k es ≡ slice_get es i = lookup_finds k es ∙ find_at (has_key k) es in
    let P : Bool → Type 0 = λ b. PlaceOf k es (cond b (Some i) None) in
    elim (slice_get_cases es i).1 [
      | inl h ↦ subst P (sym (lt-ltb i (length es) h.1)) (record {
        within = h.1;
        entry = h.0;
        there = h.2;
        found = f ∙ h.2;
        renewing = λ t. renewed_at k es h.0 t (f ∙ h.2);
      })
      | inr h ↦ subst P (sym (le-ltb i (length es) h.0)) (f ∙ h.1)
    ]

module _ (k : GlyphCacheKey) (es : List GlyphCacheEntry) (i : ℕ) (h : HeldAt k es i) (xs : List GlyphCacheEntry) (same : xs ≡ es) where
  -- what is read at that place is the entry
  pub reads : (d : GlyphCacheEntry) → get_or xs i d ≡ h.entry
  reads d = ap (λ ys. get_or ys i d) same ∙ get_or_from_slice_get es i h.entry d h.there

  pub renewed_there : (e : GlyphCacheEntry) (t : ℕ) → e ≡ h.entry → set xs i (new_entry e.key e.slot t) ≡ renewed k t es
  renewed_there e t q = ap (λ ys. set ys i (new_entry e.key e.slot t)) same ∙ (ap (λ (y : GlyphCacheEntry). set es i (new_entry y.key y.slot t)) q ∙ h.renewing t)
