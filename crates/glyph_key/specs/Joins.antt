-- Join styles as words. Assumes nothing.
--     join_word j      the word for j, as it is shown
--     join_named w     the join style whose word is w, if there is one
use Rattle.std.specs.Prelude.{◌≡◌, ℕ, cond, List, Some, None, Option, codes, refl}
use Rattle.std.specs.Str.{bytes_eq}
use Rattle.glyph_key.specs.declared.key.Join.{Join}
use Rattle.glyph_key.specs.declared.key.Join.TheVariants.{Bevel, Miter, Round}

abbrev pub join_word : Join → List ℕ
join_word Bevel = codes "bevel"
join_word Miter = codes "miter"
join_word Round = codes "round"

abbrev pub join_named : List ℕ → Option Join
join_named w = cond (bytes_eq w (join_word Bevel)) (Some Bevel) (cond (bytes_eq w (join_word Miter)) (Some Miter) (cond (bytes_eq w (join_word Round)) (Some Round) None))

-- what is shown is read back
pub read_back : (j : Join) → join_named (join_word j) ≡ Some j
read_back Bevel = refl
read_back Miter = refl
read_back Round = refl
