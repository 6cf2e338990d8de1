-- The comparison that is derived for keys is `same_key`, and a key is looked for alike from either side. Assumes nothing.
use Rattle.std.proofs.Common.{◌≡◌, ◌||◌, List, [], ◌∷◌, ◌++◌, cond, sym, refl, ap, ◌∙◌}
use Rattle.std.specs.List.{list_any}
use Rattle.std.proofs.lemmas.Bool.Decides.{same_from_decides}
use Rattle.glyph_key.specs.contracts.key.GlyphCacheKeyPartialEq.TheImpl as key_eq
use Rattle.glyph_key.specs.declared.key.GlyphCacheKey.{GlyphCacheKey}
use Rattle.glyph_key.specs.Keys.{same_key}
use Rattle.glyph_key.specs.Once.{known, with_key}
use Rattle.glyph_key.proofs.Equality.{derived_same, same_decides}

pub alike : (key_eq.ghosts).eq ≡ same_key
alike = λ i a b. derived_same a b i

either_side : (a b : GlyphCacheKey) → same_key a b ≡ same_key b a
either_side a b =
    let d = same_decides b a in
    same_from_decides (same_key a b) (same_key b a) (same_decides a b) (λ h. sym (d.0 h), λ e. d.1 (sym e))

looked_for : (ks : List GlyphCacheKey) (k : GlyphCacheKey) → list_any (same_key k) ks ≡ known ks k
looked_for [] k = refl
looked_for (x ∷ xs) k = ap (λ b. b || list_any (same_key k) xs) (either_side k x) ∙ ap (λ b. same_key x k || b) (looked_for xs k)

-- a key is put last unless it is known
pub put_last : (ks : List GlyphCacheKey) (k : GlyphCacheKey) → cond (list_any (same_key k) ks) ks (ks ++ k ∷ []) ≡ with_key ks k
put_last ks k = ap (λ b. cond b ks (ks ++ k ∷ [])) (looked_for ks k)
