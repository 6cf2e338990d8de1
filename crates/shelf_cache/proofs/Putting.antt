-- An image put on its shelf leaves all sound: what holds at the one place written and at each other holds at all.
use Rattle.std.proofs.Common.{◌≡◌, ℕ, ◌+◌, ◌/◌, ◌%◌, ◌<◌, ◌≤◌, cond, eqb, List, length, set, sym, refl, ap, ◌∙◌, subst, ⊎_elim, arith}
use Rattle.std.proofs.lemmas.List.{get_or-set_same, get_or-set_other}
use Rattle.std.proofs.lemmas.Bool.{cases_eq, cases_lt, eq-eqb, ne_eqb}
use Rattle.std.proofs.lemmas.Bool.Decides.{nat_tests}
use Rattle.shelf_cache.specs.declared.shelf.Shelf.{Shelf}
use Rattle.shelf_cache.specs.declared.shelf.Spot.{Spot}
use Rattle.shelf_cache.specs.declared.shelf.Place.{Place}
use Rattle.shelf_cache.specs.declared.shelves.Shelves.{Shelves}
use Rattle.shelf_cache.specs.Rows.{no_shelf, no_spot, shelf_at, spot_at, on_page, There, count_below}
use Rattle.shelf_cache.specs.Sound.{Sound, Idle, stands_on}
use Rattle.shelf_cache.specs.Places.{filled, put_on, reach, raised}
use Rattle.shelf_cache.proofs.Counts.{count_more, count_same}
use Rattle.shelf_cache.proofs.Rows.{by_row, back_row, here_row}
use Rattle.shelf_cache.proofs.Ready.{Ready}

module _ (g : Shelves) (w h : ℕ) (w₀ : 0 < w) (h₀ : 0 < h) (p : Place) (R : Ready g w h p) (al : p.at < length g.shelves) (pl : p.at / 16 < length g.standing)
    (room : g.live < 256) (il : g.live < length g.spots) where
  -- the image, and the tables with it
  abbrev image : Spot
  image = put_on (spot_at g.spots g.live).id p w h

  abbrev shelves' : List Shelf
  shelves' = set g.shelves p.at (filled p.shelf w)

  abbrev standing' : List ℕ
  standing' = raised g.standing p.at

  abbrev spots' : List Spot
  spots' = set g.spots g.live image

  abbrev stood : ℕ
  stood = on_page g.standing (p.at / 16)

  page_here : on_page standing' (p.at / 16) ≡ reach stood (p.at % 16)
  page_here = get_or-set_same g.standing (p.at / 16) (reach stood (p.at % 16)) 0 pl

  page_other : (q : ℕ) → (q ≡ p.at / 16 → ⊥) → on_page standing' q ≡ on_page g.standing q
  page_other q ne = get_or-set_other g.standing (p.at / 16) q (reach stood (p.at % 16)) 0 ne

  -- a shelf stands now where one stood, and at the place
  there_kept : (s : ℕ) → There g.standing s → There standing' s
  there_kept s t = ⊎_elim
      (λ e.
      let a = ap (on_page standing') e ∙ page_here in
      let b = ap (on_page g.standing) e in
      grind (arith, nat_tests, R.next))
      (λ ne. let a = page_other (s / 16) ne in omega arith)
      (cases_eq (s / 16) (p.at / 16))

  there_new : There standing' p.at
  there_new = let a = page_here in grind (arith, nat_tests, R.next)

  there_old : (s : ℕ) → (s ≡ p.at → ⊥) → There standing' s → There g.standing s
  there_old s other t = ⊎_elim
      (λ e.
      let a = ap (on_page standing') e ∙ page_here in
      let b = ap (on_page g.standing) e in
      ⊎_elim (λ l. grind (arith, nat_tests, R.next)) (λ l. ⊎_elim (λ m. grind (arith, nat_tests, R.next)) (λ m. absurd (other (omega arith))) (cases_lt (p.at % 16) (s % 16))) (cases_lt (s % 16) (p.at % 16)))
      (λ ne. let a = page_other (s / 16) ne in omega arith)
      (cases_eq (s / 16) (p.at / 16))

  each_shelf : (P : ℕ → Shelf → Type 0) → P p.at (filled p.shelf w) → ((k : ℕ) → (k ≡ p.at → ⊥) → P k (shelf_at g.shelves k)) → (k : ℕ) → P k (shelf_at shelves' k)
  each_shelf P = by_row P g.shelves p.at (filled p.shelf w) no_shelf al

  each_spot : (P : ℕ → Spot → Type 0) → P g.live image → ((k : ℕ) → (k ≡ g.live → ⊥) → P k (spot_at g.spots k)) → (k : ℕ) → P k (spot_at spots' k)
  each_spot P = by_row P g.spots g.live image no_spot il

  -- the image, and each that was g.live
  each_live : (P : ℕ → Spot → Type 0) → P g.live image → ((k : ℕ) → k < g.live → P k (spot_at g.spots k)) → (k : ℕ) → k < g.live + 1 → P k (spot_at spots' k)
  each_live P new old = each_spot (λ k a. k < g.live + 1 → P k a) (λ _. new) (λ k ne l. old k (omega arith))

  same_id : (k : ℕ) → (spot_at spots' k).id ≡ (spot_at g.spots k).id
  same_id = each_spot (λ k a. a.id ≡ (spot_at g.spots k).id) refl (λ k _. refl)

  used_now : (shelf_at shelves' p.at).used ≡ 0 → ⊥
  used_now e =
      let Q : Shelf → Type 0 = λ z. z.used ≡ 0 in
      let z : p.shelf.used + w ≡ 0 = here_row Q g.shelves p.at (filled p.shelf w) no_shelf al e in
      omega arith

  -- nothing is used now from a place below the image's, so nothing was
  idle_before : (s : ℕ) → ((t : ℕ) → s ≤ t → s / 16 ≡ t / 16 → t ≡ p.at → ⊥) → Idle shelves' s → Idle g.shelves s
  idle_before s other idle t l e = back_row (λ k z. z.used ≡ 0) g.shelves p.at (filled p.shelf w) no_shelf t (other t l e) (idle t l e)

  -- one image more on its shelf, and none on another
  count_put : (s : ℕ) → count_below (stands_on spots' s) (g.live + 1) ≡ count_below (stands_on g.spots s) g.live + cond (eqb p.at s) 1 0
  count_put s =
      let a = count_same (stands_on spots' s) (stands_on g.spots s) g.live (λ k l. ap (λ (b : Spot). eqb b.shelf s) (get_or-set_other g.spots g.live k image no_spot (λ e. omega arith))) in
      let b : ◌≡◌ {A = ℕ} (cond (stands_on spots' s g.live) 1 0) (cond (eqb p.at s) 1 0) = ap (λ (b : Spot). cond (eqb b.shelf s) 1 0) (get_or-set_same g.spots g.live image no_spot il) in
      count_more (stands_on spots' s) g.live ∙ (ap (λ n. n + cond (stands_on spots' s g.live) 1 0) a ∙ ap (λ n. count_below (stands_on g.spots s) g.live + n) b)

  pub put_sound : Sound g.width g.height g.count shelves' standing' spots' (g.live + 1)
  put_sound = record {
    wide = g.wide;
    high = g.high;
    pages = g.pages;
    paged = by_row (λ q n. 0 < n → q < g.count) g.standing (p.at / 16) (reach stood (p.at % 16)) 0 pl (λ _. omega (arith, R.paged)) (λ q _. g.paged q);
    sixteen = by_row (λ q n. n ≤ 16) g.standing (p.at / 16) (reach stood (p.at % 16)) 0 pl (let m = g.sixteen (p.at / 16) in grind (arith, nat_tests)) (λ q _. g.sixteen q);
    inside = each_shelf (λ s z. There standing' s → z.top + z.height ≤ g.height) (λ _. R.inside) (λ s ne t. g.inside s (there_old s ne t));
    inner = each_shelf (λ s z. z.used ≤ g.width) R.room (λ s _. g.inner s);
    stacked = λ s t o.
        each_shelf (λ t z. (s : ℕ) → s < t → s / 16 ≡ t / 16 → There standing' t → (shelf_at shelves' s).top + (shelf_at shelves' s).height ≤ z.top)
        (λ s l e _. each_shelf (λ s y. s < p.at → s / 16 ≡ p.at / 16 → y.top + y.height ≤ p.shelf.top) (λ l _. absurd (omega arith)) (λ s _ l e. R.above_ends s l e) s l e)
        (λ t ne s l e k. each_shelf (λ s y. s < t → s / 16 ≡ t / 16 → y.top + y.height ≤ (shelf_at g.shelves t).top) (λ l e. R.below_begins t l e (there_old t ne k)) (λ s _ l e. g.stacked s t (record { upper = l; page = e; there = there_old t ne k })) s l e)
        t s o.upper o.page o.there;
    few = omega arith;
    sized = each_live (λ j a. (0 < a.w) × (0 < a.h)) (w₀, h₀) g.sized;
    placed =
        each_live (λ j a. (a.x + a.w ≤ (shelf_at shelves' a.shelf).used) × (a.y ≡ (shelf_at shelves' a.shelf).top))
        (each_shelf (λ s z. s ≡ p.at → (p.shelf.used + w ≤ z.used) × (p.shelf.top ≡ z.top)) (λ _. (omega arith, refl)) (λ s ne e. absurd (ne e)) p.at refl)
        (λ j l. each_shelf (λ s z. s ≡ (spot_at g.spots j).shelf → ((spot_at g.spots j).x + (spot_at g.spots j).w ≤ z.used) × ((spot_at g.spots j).y ≡ z.top))
        (λ e. (omega (arith, R.left j l (sym e)), R.level j l (sym e)))
        (λ s _ e. let P : ℕ → Type 0 = λ t. ((spot_at g.spots j).x + (spot_at g.spots j).w ≤ (shelf_at g.shelves t).used) × ((spot_at g.spots j).y ≡ (shelf_at g.shelves t).top) in subst P (sym e) (g.placed j l))
        (spot_at g.spots j).shelf refl);
    stood = each_live (λ j a. There standing' a.shelf) there_new (λ j l. there_kept (spot_at g.spots j).shelf (g.stood j l));
    upright =
        each_live (λ j a. a.h ≤ (shelf_at shelves' a.shelf).height)
        (each_shelf (λ s z. s ≡ p.at → h ≤ z.height) (λ _. R.tall) (λ s ne e. absurd (ne e)) p.at refl)
        (λ j l. each_shelf (λ s z. s ≡ (spot_at g.spots j).shelf → (spot_at g.spots j).h ≤ z.height)
        (λ e. R.lower j l (sym e))
        (λ s _ e. let P : ℕ → Type 0 = λ t. (spot_at g.spots j).h ≤ (shelf_at g.shelves t).height in subst P (sym e) (g.upright j l))
        (spot_at g.spots j).shelf refl);
    beside = λ j k r.
        each_live (λ j a. (k : ℕ) → k < g.live + 1 → (j ≡ k → ⊥) → a.shelf ≡ (spot_at spots' k).shelf → a.x ≤ (spot_at spots' k).x → a.x + a.w ≤ (spot_at spots' k).x)
        (each_live (λ k b. (g.live ≡ k → ⊥) → p.at ≡ b.shelf → p.shelf.used ≤ b.x → p.shelf.used + w ≤ b.x)
        (λ ne _ _. absurd (ne refl))
        (λ k l _ e m. let q = R.left k l (sym e) in let z = g.sized k l in absurd (omega arith)))
        (λ j lj. each_live (λ k b. (j ≡ k → ⊥) → (spot_at g.spots j).shelf ≡ b.shelf → (spot_at g.spots j).x ≤ b.x → (spot_at g.spots j).x + (spot_at g.spots j).w ≤ b.x)
        (λ _ e _. R.left j lj e)
        (λ k l ne e m. g.beside j k (record { two = ne; one_live = lj; other_live = l; same = e; left = m })))
        j r.one_live k r.other_live r.two r.same r.left;
    reset =
        each_shelf (λ s z. ((j : ℕ) → j < g.live + 1 → (spot_at spots' j).shelf ≡ s → ⊥) → z.used ≡ 0)
        (λ none. absurd (none g.live (omega arith) (ap (λ (b : Spot). b.shelf) (get_or-set_same g.spots g.live image no_spot il))))
        (λ s _ none. g.reset s (λ j l e. none j (omega arith) (ap (λ (b : Spot). b.shelf) (get_or-set_other g.spots g.live j image no_spot (λ q. omega arith)) ∙ e)));
    counted =
        each_shelf (λ s z. z.images ≡ count_below (stands_on spots' s) (g.live + 1))
        (ap (λ n. n + 1) R.counted ∙ (ap (λ b. count_below (stands_on g.spots p.at) g.live + cond b 1 0) (sym (eq-eqb p.at p.at refl)) ∙ sym (count_put p.at)))
        (λ s ne.
        let z : ◌≡◌ {A = ℕ} (cond (eqb p.at s) 1 0) 0 = ap (λ b. cond b 1 0) (ne_eqb p.at s (λ e. ne (sym e))) in
        omega (arith, g.counted s, count_put s));
    lowest = λ s idle. ⊎_elim
        (λ e.
        let a = ap (on_page standing') e ∙ page_here in
        let b = ap (on_page g.standing) e in
        ⊎_elim
        (λ l.
        let old = g.lowest s (idle_before s (λ t m f q. omega arith) idle) in
        grind (arith, nat_tests, R.next))
        (λ l. absurd (used_now (idle p.at l e)))
        (cases_lt p.at s))
        (λ ne.
        let a = page_other (s / 16) ne in
        let old = g.lowest s (idle_before s (λ t m f q. ne (f ∙ ap (λ k. k / 16) q)) idle) in
        omega arith)
        (cases_eq (s / 16) (p.at / 16));
    small = λ j l. omega (arith, g.small j l, same_id j);
    single = λ j k r. g.single j k (record { one = r.one; other = r.other; same = sym (same_id j) ∙ (r.same ∙ same_id k) });
  }
