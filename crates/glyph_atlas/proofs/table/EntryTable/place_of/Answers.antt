-- The first entry with the key, or none.
use Rattle.std.proofs.Common.{◌≡◌, ℕ, Option, sym, subst, rules, tests}
use Rattle.std.specs.List.{position}
use Rattle.std.proofs.lemmas.Iterator.{YieldsList-from_slice}
use Rattle.std.proofs.lemmas.Iterator.Search.{position_from_yields_List}
use Rattle.glyph_atlas.specs.Places.{PlaceOf}
use Rattle.glyph_atlas.proofs.Lookups.{has_key, place_found}
use Rattle.glyph_atlas.proofs.table.EntryTable.place_of.Goals as goal

pub returns : goal.returns
returns c =
    let k = c.args.key.now in
    let es = c.args.self.now in
    let P : Option ℕ → Type 0 = PlaceOf k es in
    let e : c.position.result ≡ position (has_key k) es = position_from_yields_List (has_key k) _ _ c.position.result c.position.ensures.ran (YieldsList-from_slice es cc) (λ x b q k. search (rules, tests)) in
    subst P (sym e) (place_found k es)
