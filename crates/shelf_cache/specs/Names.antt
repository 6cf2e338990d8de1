-- Images by their ids: which image an id means, and when it means the same in two tables.
use Rattle.std.specs.Prelude.{◌≡◌, ℕ, ◌<◌, false, List, Some, None, Option, ◌≢◌}
use Rattle.std.proofs.Common.{sym, ap, subst, ◌∙◌, arith}
use Rattle.std.specs.Option.{option_map}
use Rattle.std.proofs.lemmas.Bool.{both_ways, eqb-true, eq-eqb, ne_eqb}
use Rattle.image_cache.specs.declared.image.Image.{Image}
use Rattle.shelf_cache.specs.declared.shelf.Spot.{Spot}
use Rattle.shelf_cache.specs.Rows.{spot_at, first_below, FirstBelow}
use Rattle.shelf_cache.specs.Sound.{Few, Single}
use Rattle.shelf_cache.specs.Places.{image_of, has_at, live_of}
use Rattle.shelf_cache.specs.First.{first_none, first_some, first_spec}

-- no image has the id
abbrev pub Unnamed : List Spot → ℕ → ℕ → Type 0
Unnamed spots live i = (j : ℕ) → j < live → (spot_at spots j).id ≢ i

module _ (spots : List Spot) (live : ℕ) where
  by_place : (i : ℕ) (R : Type 0) (o : Option ℕ) → FirstBelow (has_at spots i) live o → ((j : ℕ) → j < live → (spot_at spots j).id ≡ i → R) → (Unnamed spots live i → R) → R
  by_place i R None f yes-at none-at = none-at (λ j l e. both_ways (has_at spots i j) (f j l) (eq-eqb _ _ e))
  by_place i R (Some j) f yes-at none-at = yes-at j f.0 (eqb-true _ _ f.1)

  pub dead_when : (i : ℕ) → Unnamed spots live i → live_of spots live i ≡ None
  dead_when i none = ap (option_map (λ j. image_of (spot_at spots j))) (first_none (has_at spots i) live (λ j l. ne_eqb _ _ (none j l)))

  is_dead : (i : ℕ) (o : Option ℕ) → FirstBelow (has_at spots i) live o → option_map (λ j. image_of (spot_at spots j)) o ≡ None → Unnamed spots live i
  is_dead i None f e = λ j l q. both_ways (has_at spots i j) (f j l) (eq-eqb _ _ q)
  is_dead i (Some j) f e = let z : ◌≡◌ {A = ℕ} 0 1 = cc in absurd (omega arith)

  pub not_live_is : (i : ℕ) → live_of spots live i ≡ None → Unnamed spots live i
  not_live_is i e = is_dead i (first_below (has_at spots i) live) (first_spec (has_at spots i) live) e

  is_at : (i : ℕ) (a : Image) (o : Option ℕ) → FirstBelow (has_at spots i) live o → option_map (λ j. image_of (spot_at spots j)) o ≡ Some a → (j : ℕ) × ((j < live) × (((spot_at spots j).id ≡ i) × (a ≡ image_of (spot_at spots j))))
  is_at i a None f e = let z : ◌≡◌ {A = ℕ} 0 1 = cc in absurd (omega arith)
  is_at i a (Some j) f e = (j, (f.0, (eqb-true _ _ f.1, cc)))

  pub live_is : (i : ℕ) (a : Image) → live_of spots live i ≡ Some a → (j : ℕ) × ((j < live) × (((spot_at spots j).id ≡ i) × (a ≡ image_of (spot_at spots j))))
  live_is i a e = is_at i a (first_below (has_at spots i) live) (first_spec (has_at spots i) live) e

  module _ (F : Few live) (S : Single spots) where
    pub live_when : (i j : ℕ) → j < live → (spot_at spots j).id ≡ i → live_of spots live i ≡ Some (image_of (spot_at spots j))
    live_when i j l e =
        let before : (k : ℕ) → k < j → has_at spots i k ≡ false =
        λ k m. ne_eqb _ _ (λ q. let z = S k j (record { one = omega arith; other = omega arith; same = q ∙ sym e }) in omega arith) in
        ap (option_map (λ j. image_of (spot_at spots j))) (first_some (has_at spots i) live j l (eq-eqb _ _ e) before)

-- an id whose image is the same one in both tables
pub same_live : (spots spots' : List Spot) (live live' : ℕ) → Few live → Single spots → Few live' → Single spots' → (i : ℕ)
    → ((j : ℕ) → j < live → (spot_at spots j).id ≡ i → (k : ℕ) × ((k < live') × (spot_at spots' k ≡ spot_at spots j)))
    → ((k : ℕ) → k < live' → (spot_at spots' k).id ≡ i → (j : ℕ) × ((j < live) × (spot_at spots' k ≡ spot_at spots j)))
    → live_of spots' live' i ≡ live_of spots live i
same_live spots spots' live live' F S F' S' i there back =
    by_place spots live i (live_of spots' live' i ≡ live_of spots live i) (first_below (has_at spots i) live) (first_spec (has_at spots i) live)
    (λ j l e.
    let q = there j l e in
    let I : Spot → Type 0 = λ a. a.id ≡ i in
    live_when spots' live' F' S' i q.0 q.1.0 (subst I (sym q.1.1) e) ∙ (ap (λ (a : Spot). Some (image_of a)) q.1.1 ∙ sym (live_when spots live F S i j l e)))
    (λ none.
    dead_when spots' live' i (λ k l e.
    let q = back k l e in
    let I : Spot → Type 0 = λ a. a.id ≡ i in
    none q.0 q.1.0 (subst I q.1.1 e))
    ∙ sym (dead_when spots live i none))
