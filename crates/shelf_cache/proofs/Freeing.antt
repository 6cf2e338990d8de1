-- An image that leaves its shelf leaves all sound, with the empty lowest shelves of its page gone.
use Rattle.std.proofs.Common.{◌≡◌, ℕ, ◌+◌, ◌-◌, ◌*◌, ◌/◌, ◌%◌, ◌<◌, ◌≤◌, cond, eqb, List, length, set, sym, refl, ap, ◌∙◌, subst, ⊎_elim, arith}
use Rattle.std.proofs.lemmas.List.{get_or-set_same, get_or-set_other}
use Rattle.std.proofs.lemmas.Bool.{cases_eq, cases_lt, eq-eqb, ne_eqb}
use Rattle.std.proofs.lemmas.Bool.Decides.{nat_tests}
use Rattle.shelf_cache.specs.declared.shelf.Shelf.{Shelf}
use Rattle.shelf_cache.specs.declared.shelf.Spot.{Spot}
use Rattle.shelf_cache.specs.declared.shelves.Shelves.{Shelves}
use Rattle.shelf_cache.specs.Rows.{no_shelf, shelf_at, spot_at, on_page, There, count_below}
use Rattle.shelf_cache.specs.Sound.{Sound, Sized, Placed, Bare, Lowered, stands_on}
use Rattle.shelf_cache.specs.Places.{Settled, left_of, eased}
use Rattle.shelf_cache.proofs.Counts.{count_none, count_some}
use Rattle.shelf_cache.proofs.Moves.{was, was_bound, was_live, was_one, moved_is, each_left, kept_at, count_left}
use Rattle.shelf_cache.proofs.Rows.{by_row}

-- how far a shelf with one image less is used
eased_one : (z : Shelf) → z.images ≡ 1 → (eased z).used ≡ 0
eased_one z e = grind (arith, nat_tests)

eased_more : (z : Shelf) → (z.images ≡ 1 → ⊥) → (eased z).used ≡ z.used
eased_more z ne = grind (arith, nat_tests)

module _ (g : Shelves) (k : ℕ) (n : length g.spots ≡ 256) (kl : k < g.live) (at : ℕ) (on-at : (spot_at g.spots k).shelf ≡ at) (al : at < length g.shelves) where
  abbrev shelves' : List Shelf
  shelves' = set g.shelves at (eased (shelf_at g.shelves at))

  k₁ : k < 256
  k₁ = omega (arith, g.few)

  each_shelf : (P : ℕ → Shelf → Type 0) → P at (eased (shelf_at g.shelves at)) → ((k : ℕ) → (k ≡ at → ⊥) → P k (shelf_at g.shelves k)) → (k : ℕ) → P k (shelf_at shelves' k)
  each_shelf P = by_row P g.shelves at (eased (shelf_at g.shelves at)) no_shelf al

  -- what held of each image where it was holds of each that is left
  each_live : (P : ℕ → Spot → Type 0) → ((j : ℕ) → j < g.live - 1 → was k j < g.live → P j (spot_at g.spots (was k j))) → (j : ℕ) → j < g.live - 1 → P j (spot_at (left_of g.spots k) j)
  each_live P moved j l = each_left g.spots k n k₁ (λ j a. j < g.live - 1 → P j a) (λ j _ l. moved j l (was_live k j g.live kl g.few l)) j (omega (arith, g.few)) l

  -- one image less on its shelf, and as many as before on another
  count_here : count_below (stands_on (left_of g.spots k) at) (g.live - 1) + 1 ≡ (shelf_at g.shelves at).images
  count_here =
      let a = count_left g.spots k n k₁ g.live g.few kl (λ (b : Spot). eqb b.shelf at) in
      let b : ◌≡◌ {A = ℕ} (cond (eqb (spot_at g.spots k).shelf at) 1 0) 1 = ap (λ x. cond x 1 0) (eq-eqb _ _ on-at) in
      omega (arith, a, b, g.counted at)

  count_other : (s : ℕ) → (s ≡ at → ⊥) → count_below (stands_on (left_of g.spots k) s) (g.live - 1) ≡ (shelf_at g.shelves s).images
  count_other s ne =
      let a = count_left g.spots k n k₁ g.live g.few kl (λ (b : Spot). eqb b.shelf s) in
      let b : ◌≡◌ {A = ℕ} (cond (eqb (spot_at g.spots k).shelf s) 1 0) 0 = ap (λ x. cond x 1 0) (ne_eqb _ _ (λ e. ne (sym e ∙ on-at))) in
      omega (arith, a, b, g.counted s)

  pub some_here : 0 < (shelf_at g.shelves at).images
  some_here = omega (arith, count_here)

  -- it was the only image of its shelf exactly when the shelf is bare now
  bare_one : Bare (left_of g.spots k) (g.live - 1) at → (shelf_at g.shelves at).images ≡ 1
  bare_one bare = let z = count_none (stands_on (left_of g.spots k) at) (g.live - 1) (λ j l. ne_eqb _ _ (bare j l)) in omega (arith, count_here)

  one_bare : (shelf_at g.shelves at).images ≡ 1 → Bare (left_of g.spots k) (g.live - 1) at
  one_bare e j l q = let z = count_some (stands_on (left_of g.spots k) at) (g.live - 1) j l (eq-eqb _ _ q) in omega (arith, count_here)

  -- a shelf that the image was not on has no image if it has none now
  bare_before : (s : ℕ) → (s ≡ at → ⊥) → Bare (left_of g.spots k) (g.live - 1) s → Bare g.spots g.live s
  bare_before s ne bare j l e = ⊎_elim
      (λ q. let P : ℕ → Type 0 = λ k. (spot_at g.spots k).shelf ≡ s in ne (sym (subst P q e) ∙ on-at))
      (λ q.
      let m = kept_at g.spots k n k₁ g.live g.few kl j l q in
      bare m.0 m.1.0 (ap (λ (a : Spot). a.shelf) m.1.1 ∙ e))
      (cases_eq j k)

  height_same : (s : ℕ) → (shelf_at shelves' s).height ≡ (shelf_at g.shelves s).height
  height_same = each_shelf (λ s z. z.height ≡ (shelf_at g.shelves s).height) refl (λ _ _. refl)

  top_same : (s : ℕ) → (shelf_at shelves' s).top ≡ (shelf_at g.shelves s).top
  top_same = each_shelf (λ s z. z.top ≡ (shelf_at g.shelves s).top) refl (λ _ _. refl)

  used_other : (s : ℕ) → (s ≡ at → ⊥) → (shelf_at shelves' s).used ≡ (shelf_at g.shelves s).used
  used_other s ne = ap (λ (z : Shelf). z.used) (get_or-set_other g.shelves at s _ no_shelf ne)

  used_here : ((shelf_at g.shelves at).images ≡ 1 → ⊥) → (shelf_at shelves' at).used ≡ (shelf_at g.shelves at).used
  used_here ne = ap (λ (z : Shelf). z.used) (get_or-set_same g.shelves at _ no_shelf al) ∙ eased_more (shelf_at g.shelves at) ne

  -- a shelf that an image is still on is used as before
  used_still : (j : ℕ) → j < g.live - 1 → (shelf_at shelves' (spot_at (left_of g.spots k) j).shelf).used ≡ (shelf_at g.shelves (spot_at (left_of g.spots k) j).shelf).used
  used_still j l = ⊎_elim
      (λ e. let P : ℕ → Type 0 = λ s. (shelf_at shelves' s).used ≡ (shelf_at g.shelves s).used in subst P (sym e) (used_here (λ q. one_bare q j l e)))
      (used_other (spot_at (left_of g.spots k) j).shelf)
      (cases_eq (spot_at (left_of g.spots k) j).shelf at)

  used_less : (s : ℕ) → (shelf_at shelves' s).used ≤ (shelf_at g.shelves s).used
  used_less = each_shelf (λ s z. z.used ≤ (shelf_at g.shelves s).used)
      (⊎_elim (λ e. omega (arith, eased_one (shelf_at g.shelves at) e)) (λ ne. omega (arith, eased_more (shelf_at g.shelves at) ne)) (cases_eq (shelf_at g.shelves at).images 1))
      (λ s _. omega arith)

  sized_left : Sized (left_of g.spots k) (g.live - 1)
  sized_left = each_live (λ j a. (0 < a.w) × (0 < a.h)) (λ j _ l. g.sized (was k j) l)

  placed_left : Placed shelves' (left_of g.spots k) (g.live - 1)
  placed_left j l =
      let p = each_live (λ j a. (a.x + a.w ≤ (shelf_at g.shelves a.shelf).used) × (a.y ≡ (shelf_at g.shelves a.shelf).top)) (λ j _ m. g.placed (was k j) m) j l in
      (omega (arith, p.0, used_still j l), p.1 ∙ sym (top_same (spot_at (left_of g.spots k) j).shelf))

  -- where no shelf stood nothing is used
  unused_below : (s : ℕ) → on_page g.standing (s / 16) ≤ s % 16 → (shelf_at shelves' s).used ≡ 0
  unused_below s l =
      let T : ℕ → Type 0 = There g.standing in
      let z = g.reset s (λ j m e. let t : There g.standing s = subst T e (g.stood j m) in omega arith) in
      omega (arith, used_less s)

  module _ (pl : at / 16 < length g.standing) (r : ℕ) (L : Lowered shelves' (at / 16) (on_page g.standing (at / 16)) r) where
    abbrev standing' : List ℕ
    standing' = set g.standing (at / 16) r

    page_here : on_page standing' (at / 16) ≡ r
    page_here = get_or-set_same g.standing (at / 16) r 0 pl

    page_other : (p : ℕ) → (p ≡ at / 16 → ⊥) → on_page standing' p ≡ on_page g.standing p
    page_other p ne = get_or-set_other g.standing (at / 16) p r 0 ne

    there_before : (s : ℕ) → There standing' s → There g.standing s
    there_before s t = ⊎_elim
        (λ e. let a = ap (on_page standing') e ∙ page_here in let b = ap (on_page g.standing) e in omega (arith, L.fewer))
        (λ ne. let a = page_other (s / 16) ne in omega arith)
        (cases_eq (s / 16) (at / 16))

    -- what vanished of the page is not used
    unused_gone : (s : ℕ) → s / 16 ≡ at / 16 → r ≤ s % 16 → (shelf_at shelves' s).used ≡ 0
    unused_gone s e l =
        let b = ap (on_page g.standing) e in
        ⊎_elim
        (λ m. let q : s ≡ 16 * (at / 16) + s % 16 = omega arith in ap (λ t. (shelf_at shelves' t).used) q ∙ L.gone (s % 16) l m)
        (λ m. unused_below s (omega arith))
        (cases_lt (s % 16) (on_page g.standing (at / 16)))

    pub left_sound : Sound g.width g.height g.count shelves' standing' (left_of g.spots k) (g.live - 1)
    left_sound = record {
      wide = g.wide;
      high = g.high;
      pages = g.pages;
      paged = by_row (λ p n. 0 < n → p < g.count) g.standing (at / 16) r 0 pl (λ l. g.paged (at / 16) (omega (arith, L.fewer))) (λ p _. g.paged p);
      sixteen = by_row (λ p n. n ≤ 16) g.standing (at / 16) r 0 pl (omega (arith, L.fewer, g.sixteen (at / 16))) (λ p _. g.sixteen p);
      inside = λ s l. omega (arith, g.inside s (there_before s l), height_same s, top_same s);
      inner = λ s. omega (arith, g.inner s, used_less s);
      stacked = λ s t o. omega (arith, g.stacked s t (record { upper = o.upper; page = o.page; there = there_before t o.there }), height_same s, top_same s, top_same t);
      few = omega (arith, g.few);
      sized = sized_left;
      placed = placed_left;
      stood = λ j l.
          let s : ℕ = (spot_at (left_of g.spots k) j).shelf in
          let t : There g.standing (spot_at (left_of g.spots k) j).shelf = each_live (λ j a. There g.standing a.shelf) (λ j _ m. g.stood (was k j) m) j l in
          ⊎_elim
          (λ e.
          let a = ap (on_page standing') e ∙ page_here in
          ⊎_elim (λ m. omega arith) (λ m. let z = unused_gone s e m in absurd (omega (arith, (placed_left j l).0, (sized_left j l).0))) (cases_lt (s % 16) r))
          (λ ne. let a = page_other (s / 16) ne in omega arith)
          (cases_eq (s / 16) (at / 16));
      upright = λ j l.
          let u = each_live (λ j a. a.h ≤ (shelf_at g.shelves a.shelf).height) (λ j _ m. g.upright (was k j) m) j l in
          omega (arith, u, height_same (spot_at (left_of g.spots k) j).shelf);
      beside = λ i j r.
          each_live (λ i a. (j : ℕ) → j < g.live - 1 → (i ≡ j → ⊥) → a.shelf ≡ (spot_at (left_of g.spots k) j).shelf → a.x ≤ (spot_at (left_of g.spots k) j).x → a.x + a.w ≤ (spot_at (left_of g.spots k) j).x)
          (λ i il wi. each_live (λ j b. (i ≡ j → ⊥) → (spot_at g.spots (was k i)).shelf ≡ b.shelf → (spot_at g.spots (was k i)).x ≤ b.x → (spot_at g.spots (was k i)).x + (spot_at g.spots (was k i)).w ≤ b.x)
          (λ j jl wj ne e m. g.beside (was k i) (was k j) (record { two = λ q. ne (was_one k i j k₁ (omega (arith, g.few)) (omega (arith, g.few)) q); one_live = wi; other_live = wj; same = e; left = m })))
          i r.one_live j r.other_live r.two r.same r.left;
      reset = each_shelf (λ s z. Bare (left_of g.spots k) (g.live - 1) s → z.used ≡ 0) (λ bare. eased_one (shelf_at g.shelves at) (bare_one bare)) (λ s ne bare. g.reset s (bare_before s ne bare));
      counted = each_shelf (λ s z. z.images ≡ count_below (stands_on (left_of g.spots k) s) (g.live - 1)) (omega (arith, count_here)) (λ s ne. sym (count_other s ne));
      lowest = λ s idle. ⊎_elim
          (λ e.
          let a = ap (on_page standing') e ∙ page_here in
          ⊎_elim
          (λ m.
          let u = L.last (omega arith) in
          let f = L.fewer in
          let most = g.sixteen (at / 16) in
          let z = idle (16 * (at / 16) + (r - 1)) (omega arith) (omega arith) in
          absurd (omega arith))
          (λ m. omega arith)
          (cases_lt (s % 16) r))
          (λ ne.
          let a = page_other (s / 16) ne in
          let old = g.lowest s (λ t l e. sym (used_other t (λ q. ne (e ∙ ap (λ k. k / 16) q))) ∙ idle t l e) in
          omega arith)
          (cases_eq (s / 16) (at / 16));
      small = each_left g.spots k n k₁ (λ j a. a.id < 256) (λ j l. g.small (was k j) (was_bound k j k₁ l));
      single = λ i j r. was_one k i j k₁ r.one r.other (g.single (was k i) (was k j) (record {
        one = was_bound k i k₁ r.one;
        other = was_bound k j k₁ r.other;
        same = sym (ap (λ (a : Spot). a.id) (moved_is g.spots k n k₁ i r.one)) ∙ (r.same ∙ ap (λ (a : Spot). a.id) (moved_is g.spots k n k₁ j r.other));
      }));
    }

    pub settled : Settled g.shelves g.standing at shelves' standing' (left_of g.spots k) (g.live - 1)
    settled = record {
      tops = top_same;
      heights = height_same;
      others_used = used_other;
      still_used = λ no_bare. used_here (λ e. no_bare (one_bare e));
      left_again = left_sound.reset at;
      other_pages = page_other;
      none_new = there_before;
      vanished = λ s stood gone t l e. ⊎_elim
          (λ q. let a = ap (on_page standing') q ∙ page_here in unused_gone t (sym e ∙ q) (omega arith))
          (λ ne. let a = page_other (s / 16) ne in absurd (omega arith))
          (cases_eq (s / 16) (at / 16));
      none_lowest = left_sound.lowest;
    }
