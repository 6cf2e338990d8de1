-- The spots after one of them left: each other is where it was or one place further down, and it is the last.
use Rattle.std.proofs.Common.{◌≡◌, ℕ, zero, suc, ◌+◌, ◌-◌, ◌<◌, ◌≤◌, Bool, cond, ltb, List, [], ◌∷◌, ◌++◌, length, drop, set, sym, ap, ◌∙◌, subst, ⊎_elim, arith}
use Rattle.std.proofs.lemmas.List.{get_or_append_left, get_or_at, set-append_right, length-append, drop_more, drop_all}
use Rattle.std.proofs.lemmas.List.Edits.{length-remove, get_or-remove_below, get_or-remove_above}
use Rattle.std.proofs.lemmas.Bool.{cases_eq, cases_lt}
use Rattle.std.proofs.lemmas.Bool.Decides.{nat_tests}
use Rattle.std.specs.List.{remove}
use Rattle.lists.specs.Lists.{removed, closed_up}
use Rattle.shelf_cache.specs.declared.shelf.Spot.{Spot}
use Rattle.shelf_cache.specs.Rows.{no_spot, spot_at, count_below}
use Rattle.shelf_cache.specs.Places.{left_of}
use Rattle.shelf_cache.proofs.Counts.{count_same}

-- the table closed up after k, with what was there put last
pub closed_last : (xs ws : List Spot) (k : ℕ) → k < length xs → ws ≡ closed_up xs k → set ws (length ws - 1) (spot_at xs k) ≡ left_of xs k
closed_last xs ws k l e =
    let n : ℕ = length xs - 1 in
    let x : Spot = spot_at xs k in
    let m : length (removed xs k) ≡ n = let r = length-remove xs k l in omega arith in
    let d : drop n xs ≡ spot_at xs n ∷ [] = drop_more xs n no_spot (omega arith) ∙ ap (λ ys. spot_at xs n ∷ ys) (drop_all (n + 1) xs (omega arith)) in
    let closed : ws ≡ removed xs k ++ spot_at xs n ∷ [] = e ∙ ap (λ ys. removed xs k ++ ys) (ap (λ j. drop j xs) m ∙ d) in
    let long : length ws - 1 ≡ n = let a = ap length closed ∙ length-append (removed xs k) (spot_at xs n ∷ []) in omega arith in
    let z : n - n ≡ 0 = omega arith in
    ap (λ ys. set ys (length ws - 1) x) closed
    ∙ (ap (λ j. set (removed xs k ++ spot_at xs n ∷ []) j x) long
    ∙ (set-append_right (removed xs k) (spot_at xs n ∷ []) n n x m (omega arith)
    ∙ ap (λ j. removed xs k ++ set (spot_at xs n ∷ []) j x) z))

-- where the spot now at j was
abbrev pub was : ℕ → ℕ → ℕ
was k j = cond (ltb j k) j (cond (ltb j 255) (j + 1) k)

was_low : (k j : ℕ) → j < k → was k j ≡ j
was_low k j l = grind (arith, nat_tests)

was_high : (k j : ℕ) → k ≤ j → j < 255 → was k j ≡ j + 1
was_high k j l m = grind (arith, nat_tests)

was_last : (k j : ℕ) → k ≤ j → 255 ≤ j → was k j ≡ k
was_last k j l m = grind (arith, nat_tests)

pub was_bound : (k j : ℕ) → k < 256 → j < 256 → was k j < 256
was_bound k j kl jl = grind (arith, nat_tests)

pub was_live : (k j live : ℕ) → k < live → live ≤ 256 → j < live - 1 → was k j < live
was_live k j live kl few jl = grind (arith, nat_tests)

pub was_other : (k j live : ℕ) → k < live → live ≤ 256 → j < live - 1 → was k j ≡ k → ⊥
was_other k j live kl few jl q = grind (arith, nat_tests)

pub was_one : (k i j : ℕ) → k < 256 → i < 256 → j < 256 → was k i ≡ was k j → i ≡ j
was_one k i j kl il jl e = grind (arith, nat_tests)

-- as many pass as before, but for the one that left
count_moved : (q : ℕ → Bool) (k n : ℕ) → k ≤ n → n ≤ 255 → count_below (λ j. q (was k j)) n + cond (q k) 1 0 ≡ count_below q (suc n)
unfolding count_below
count_moved q k zero l m = let e : k ≡ 0 = omega arith in ap (λ i. 0 + cond (q i) 1 0) e
count_moved q k (suc n) l m =
    ⊎_elim
    (λ low.
    let e : was k n ≡ suc n = was_high k n (omega arith) (omega arith) ∙ omega arith in
    let a : ◌≡◌ {A = ℕ} (cond (q (was k n)) 1 0) (cond (q (suc n)) 1 0) = ap (λ i. cond (q i) 1 0) e in
    omega (arith, count_moved q k n (omega arith) (omega arith), a))
    (λ high.
    let e : k ≡ suc n = omega arith in
    let a : ◌≡◌ {A = ℕ} (cond (q k) 1 0) (cond (q (suc n)) 1 0) = ap (λ i. cond (q i) 1 0) e in
    omega (arith, count_same (λ j. q (was k j)) q (suc n) (λ j jl. ap q (was_low k j (omega arith))), a))
    (cases_lt k (suc n))

module _ (spots : List Spot) (k : ℕ) (n : length spots ≡ 256) (kl : k < 256) where
  short : length (remove spots k) ≡ 255
  short = let r = length-remove spots k (omega arith) in omega arith

  pub moved_is : (j : ℕ) → j < 256 → spot_at (left_of spots k) j ≡ spot_at spots (was k j)
  moved_is j l =
      ⊎_elim
      (λ e. get_or_at (remove spots k) (spot_at spots k) [] no_spot j (omega (arith, short)) ∙ ap (λ i. spot_at spots i) (sym (was_last k j (omega arith) (omega arith))))
      (λ ne.
      let m : j < 255 = omega arith in
      get_or_append_left (remove spots k) (spot_at spots k ∷ []) no_spot j (omega (arith, short))
      ∙ ⊎_elim
      (λ b. get_or-remove_below spots k no_spot j b (omega arith) ∙ ap (λ i. spot_at spots i) (sym (was_low k j b)))
      (λ b. get_or-remove_above spots k no_spot j b (omega arith) ∙ ap (λ i. spot_at spots i) (sym (was_high k j b m)))
      (cases_lt j k))
      (cases_eq j 255)

  -- what holds of each where it was, at its new place, holds of all
  pub each_left : (P : ℕ → Spot → Type 0) → ((j : ℕ) → j < 256 → P j (spot_at spots (was k j))) → (j : ℕ) → j < 256 → P j (spot_at (left_of spots k) j)
  each_left P moved j l = let Q : Spot → Type 0 = λ a. P j a in subst Q (sym (moved_is j l)) (moved j l)

  module _ (live : ℕ) (few : live ≤ 256) (kn : k < live) where
    -- where each other image is now
    pub kept_at : (j : ℕ) → j < live → (j ≡ k → ⊥) → (i : ℕ) × ((i < live - 1) × (spot_at (left_of spots k) i ≡ spot_at spots j))
    kept_at j l ne =
        ⊎_elim
        (λ m. (j, (omega arith, moved_is j (omega arith) ∙ ap (λ i. spot_at spots i) (was_low k j m))))
        (λ m.
        let p : k < j = omega arith in
        let e : was k (j - 1) ≡ j = was_high k (j - 1) (omega arith) (omega arith) ∙ omega arith in
        (j - 1, (omega arith, moved_is (j - 1) (omega arith) ∙ ap (λ i. spot_at spots i) e)))
        (cases_lt j k)

    pub count_left : (p : Spot → Bool) → count_below (λ j. p (spot_at (left_of spots k) j)) (live - 1) + cond (p (spot_at spots k)) 1 0 ≡ count_below (λ j. p (spot_at spots j)) live
    count_left p =
        let a = count_same (λ j. p (spot_at (left_of spots k) j)) (λ j. p (spot_at spots (was k j))) (live - 1) (λ j l. ap p (moved_is j (omega arith))) in
        let b = count_moved (λ j. p (spot_at spots j)) k (live - 1) (omega arith) (omega arith) in
        let e : suc (live - 1) ≡ live = omega arith in
        ap (λ m. m + cond (p (spot_at spots k)) 1 0) a ∙ (b ∙ ap (count_below (λ j. p (spot_at spots j))) e)
