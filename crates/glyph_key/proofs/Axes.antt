-- Places that are zero, with up to eight axis values written over the first of them. Assumes nothing.
use Rattle.std.proofs.Common.{◌≡◌, ◌≤◌, List, [], ◌∷◌, ◌++◌, length, drop, ℤ, pos, refl, arith}
use Rattle.glyph_key.specs.Keys.{axes_with}

abbrev zeros : List ℤ
zeros = pos 0 ∷ pos 0 ∷ pos 0 ∷ pos 0 ∷ pos 0 ∷ pos 0 ∷ pos 0 ∷ pos 0 ∷ []

pub filled : (vs : List ℤ) → length vs ≤ 8 → vs ++ drop (length vs) zeros ≡ (axes_with vs).places
filled [] h = refl
filled (v0 ∷ []) h = refl
filled (v0 ∷ v1 ∷ []) h = refl
filled (v0 ∷ v1 ∷ v2 ∷ []) h = refl
filled (v0 ∷ v1 ∷ v2 ∷ v3 ∷ []) h = refl
filled (v0 ∷ v1 ∷ v2 ∷ v3 ∷ v4 ∷ []) h = refl
filled (v0 ∷ v1 ∷ v2 ∷ v3 ∷ v4 ∷ v5 ∷ []) h = refl
filled (v0 ∷ v1 ∷ v2 ∷ v3 ∷ v4 ∷ v5 ∷ v6 ∷ []) h = refl
filled (v0 ∷ v1 ∷ v2 ∷ v3 ∷ v4 ∷ v5 ∷ v6 ∷ v7 ∷ []) h = refl
filled (v0 ∷ v1 ∷ v2 ∷ v3 ∷ v4 ∷ v5 ∷ v6 ∷ v7 ∷ v8 ∷ vs) h = absurd (omega arith)
