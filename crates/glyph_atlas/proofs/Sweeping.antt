-- One pass over the entries, in which the images of the old ones are freed and their places wait to be cleared. Assumes nothing.
use Rattle.std.proofs.Common.{◌≡◌, ℕ, zero, suc, ◌+◌, ◌<◌, ◌≤◌, Bool, true, false, cond, ltb, List, [], ◌∷◌, ◌++◌, map, length, get_or, take, filter, Result, sym, refl, ap, ◌∙◌, subst, arith}
use Rattle.std.proofs.lemmas.List.{append_assoc, append-nil, length-append, length-map, length_push, map-append, take_all}
use Rattle.std.proofs.lemmas.List.Elements.{filter_more}
use Rattle.std.proofs.lemmas.Bool.{lt-ltb, or_parts, ltb-false}
use Rattle.lists.specs.Bounds.{appended}
use Rattle.image_cache.specs.Caches.{Cache, Freed}
use Rattle.image_cache.specs.declared.fault.CacheFault.{CacheFault}
use Rattle.glyph_atlas.specs.declared.entry.GlyphCacheEntry.{GlyphCacheEntry}
use Rattle.glyph_atlas.specs.declared.limit.AgeLimit.{AgeLimit}
use Rattle.glyph_atlas.specs.declared.pending.PendingClearRect.{PendingClearRect}
use Rattle.glyph_atlas.specs.Atlases.{padded}
use Rattle.glyph_atlas.specs.Calls.{FreedAll, slot_of, image_id}
use Rattle.glyph_atlas.specs.Shape.{oversized}
use Rattle.glyph_atlas.specs.Places.{aged}
use Rattle.glyph_atlas.proofs.Invariants.{kept_none}

abbrev pub clears_of : List GlyphCacheEntry → List PendingClearRect
clears_of es = map padded (map slot_of es)

abbrev pub ids_of : List GlyphCacheEntry → List ℕ
ids_of es = map image_id (map slot_of es)

clears_push : (es : List GlyphCacheEntry) (e : GlyphCacheEntry) → clears_of (es ++ e ∷ []) ≡ clears_of es ++ padded e.slot ∷ []
clears_push es e = simp map-append

ids_push : (es : List GlyphCacheEntry) (e : GlyphCacheEntry) → ids_of (es ++ e ∷ []) ≡ ids_of es ++ e.slot.id ∷ []
ids_push es e = simp map-append

freed_one_more : (c : Cache) (ids : List ℕ) (m : Cache) (id : ℕ) (r : Result (Unit {0}) CacheFault) (d : Cache) → FreedAll c ids m → Freed m id r d → FreedAll c (ids ++ id ∷ []) d
freed_one_more c [] m id r d h f = let P : Cache → Type 0 = λ x. Freed x id r d in (d, (r, (subst P h f, refl)))
freed_one_more c (i ∷ ids) m id r d h f = (h.0, (h.1.0, (h.1.1.0, freed_one_more h.0 ids m id r d h.1.1.1 f)))

-- the old ones of the first i are gone
pub record Gone (m : AgeLimit) (xs : List GlyphCacheEntry) (k₀ : List PendingClearRect) (c₀ : Cache) (i : ℕ) (k : List PendingClearRect) (c : Cache) : Type 0 where
  pub few : length (filter (aged m) (take i xs)) ≤ i
  pub cleared : k ≡ k₀ ++ clears_of (filter (aged m) (take i xs))
  pub freed : FreedAll c₀ (ids_of (filter (aged m) (take i xs))) c

module _ {m : AgeLimit} {xs : List GlyphCacheEntry} {k₀ : List PendingClearRect} {c₀ : Cache} {i : ℕ} {k : List PendingClearRect} {c : Cache} (g : Gone m xs k₀ c₀ i k c) (d : GlyphCacheEntry) (l : i < length xs) where
  one_more : (b : Bool) → aged m (get_or xs i d) ≡ b → filter (aged m) (take (i + 1) xs) ≡ filter (aged m) (take i xs) ++ cond b (get_or xs i d ∷ []) []
  one_more b p = filter_more (aged m) xs i d l ∙ ap (λ q. filter (aged m) (take i xs) ++ cond q (get_or xs i d ∷ []) []) p

  pub gone_stays : aged m (get_or xs i d) ≡ false → Gone m xs k₀ c₀ (i + 1) k c
  gone_stays p =
      let n = one_more false p ∙ append-nil (filter (aged m) (take i xs)) in
      let P : List GlyphCacheEntry → Type 0 = λ es. FreedAll c₀ (ids_of es) c in
      record { few = omega (arith, ap length n, g.few); cleared = g.cleared ∙ ap (λ es. k₀ ++ clears_of es) (sym n); freed = subst P (sym n) g.freed }

  pub gone_more : aged m (get_or xs i d) ≡ true → length k₀ + length xs ≤ 256 → (r : Result (Unit {0}) CacheFault) (d' : Cache) → Freed c (get_or xs i d).slot.id r d' → (k' : List PendingClearRect) → k' ≡ appended 256 k (padded (get_or xs i d).slot) → Gone m xs k₀ c₀ (i + 1) k' d'
  gone_more p room r d' f k' q =
      let e : GlyphCacheEntry = get_or xs i d in
      let es : List GlyphCacheEntry = filter (aged m) (take i xs) in
      let s = one_more true p in
      let kl : length k ≡ length k₀ + length es = ap length g.cleared ∙ simp (length-append, length-map) in
      let b = lt-ltb (length k) 256 (omega (arith, g.few)) in
      let n = length_push es e in
      let P : List GlyphCacheEntry → Type 0 = λ ys. FreedAll c₀ (ids_of ys) d' in
      let Q : List ℕ → Type 0 = λ ids. FreedAll c₀ ids d' in
      record {
        few = omega (arith, ap length s, g.few);
        cleared = q ∙ (ap (λ x. cond x (k ++ padded e.slot ∷ []) k) b ∙ (ap (λ ys. ys ++ padded e.slot ∷ []) g.cleared ∙ (append_assoc k₀ (clears_of es) (padded e.slot ∷ []) ∙ ap (λ ys. k₀ ++ ys) (sym (clears_push es e) ∙ ap clears_of (sym s)))));
        freed = subst P (sym s) (subst Q (sym (ids_push es e)) (freed_one_more c₀ (ids_of es) c e.slot.id r d' g.freed f));
      }

pub gone_all : {m : AgeLimit} {xs : List GlyphCacheEntry} {k₀ : List PendingClearRect} {c₀ : Cache} {i : ℕ} {k : List PendingClearRect} {c : Cache} → Gone m xs k₀ c₀ i k c → length xs ≤ i → (k ≡ k₀ ++ clears_of (filter (aged m) xs)) × FreedAll c₀ (ids_of (filter (aged m) xs)) c
gone_all {m} {xs} {k₀} {c₀} {i} {k} {c} g l =
    let e = take_all i xs l in
    let P : List GlyphCacheEntry → Type 0 = λ ys. FreedAll c₀ (ids_of (filter (aged m) ys)) c in
    (g.cleared ∙ ap (λ ys. k₀ ++ clears_of (filter (aged m) ys)) e, subst P e g.freed)

-- each entry is small enough for the padding

none_at : {X : Type 0} (p : X → Bool) (xs : List X) (i : ℕ) (d : X) → i < length xs → filter p xs ≡ [] → p (get_or xs i d) ≡ false
none_at p [] i d l h = absurd (omega arith)
none_at p (x ∷ xs) zero d l h = (kept_none (p x) x (filter p xs) h).0
none_at p (x ∷ xs) (suc i) d l h = none_at p xs i d (omega arith) (kept_none (p x) x (filter p xs) h).1

pub sized_at : (xs : List GlyphCacheEntry) (i : ℕ) (d : GlyphCacheEntry) → i < length xs → filter oversized xs ≡ [] → ((get_or xs i d).slot.width ≤ 65533) × ((get_or xs i d).slot.height ≤ 65533)
sized_at xs i d l h =
    let e : GlyphCacheEntry = get_or xs i d in
    let q = or_parts (ltb 65533 e.slot.width) (ltb 65533 e.slot.height) (none_at oversized xs i d l h) in
    (ltb-false 65533 e.slot.width q.0, ltb-false 65533 e.slot.height q.1)
