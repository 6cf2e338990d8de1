-- What holds of the place that an image goes to, whether its shelf is there or new.
use Rattle.std.proofs.Common.{◌≡◌, ℕ, ◌+◌, ◌-◌, ◌*◌, ◌/◌, ◌%◌, ◌<◌, ◌≤◌, true, cond, sym, ap, subst, ⊎_elim, arith}
use Rattle.std.proofs.lemmas.Bool.{ne_eqb, cases_lt}
use Rattle.std.proofs.lemmas.Bool.Decides.{nat_tests}
use Rattle.shelf_cache.specs.declared.shelf.Shelf.{Shelf}
use Rattle.shelf_cache.specs.declared.shelf.Place.{Place}
use Rattle.shelf_cache.specs.declared.shelves.Shelves.{Shelves}
use Rattle.shelf_cache.specs.Rows.{shelf_at, spot_at, on_page, There, count_below}
use Rattle.shelf_cache.specs.Sound.{stands_on}
use Rattle.shelf_cache.specs.Places.{taking, opening, end_above, old_place, new_place, FitIn}
use Rattle.shelf_cache.proofs.Counts.{count_none}
use Rattle.shelf_cache.proofs.Rooms.{opens_is}

-- a place at which an image can be put, so that all stays sound: its shelf stands or is the next of its page
pub record Ready (g : Shelves) (w h : ℕ) (p : Place) : Type 0 where
  pub tall : h ≤ p.shelf.height
  pub room : p.shelf.used + w ≤ g.width
  pub paged : p.at < 16 * g.count
  pub next : p.at % 16 ≤ on_page g.standing (p.at / 16)
  pub inside : p.shelf.top + p.shelf.height ≤ g.height
  pub above_ends : (s : ℕ) → s < p.at → s / 16 ≡ p.at / 16 → (shelf_at g.shelves s).top + (shelf_at g.shelves s).height ≤ p.shelf.top
  pub below_begins : (t : ℕ) → p.at < t → p.at / 16 ≡ t / 16 → There g.standing t → p.shelf.top + p.shelf.height ≤ (shelf_at g.shelves t).top
  pub left : (j : ℕ) → j < g.live → (spot_at g.spots j).shelf ≡ p.at → (spot_at g.spots j).x + (spot_at g.spots j).w ≤ p.shelf.used
  pub level : (j : ℕ) → j < g.live → (spot_at g.spots j).shelf ≡ p.at → (spot_at g.spots j).y ≡ p.shelf.top
  pub lower : (j : ℕ) → j < g.live → (spot_at g.spots j).shelf ≡ p.at → (spot_at g.spots j).h ≤ p.shelf.height
  pub counted : p.shelf.images ≡ count_below (stands_on g.spots p.at) g.live

module _ (g : Shelves) (w h : ℕ) (w₁ : w ≤ g.width) where
  on_shelf : (P : Shelf → Type 0) (j s : ℕ) → (spot_at g.spots j).shelf ≡ s → P (shelf_at g.shelves (spot_at g.spots j).shelf) → P (shelf_at g.shelves s)
  on_shelf P j s e h = let Q : ℕ → Type 0 = λ t. P (shelf_at g.shelves t) in subst Q e h

  ready_old : (s : ℕ) → taking g w h s ≡ true → Ready g w h (old_place g.shelves s)
  ready_old s t =
      let there : There g.standing s = grind (arith, nat_tests) in
      let fits : (h ≤ (shelf_at g.shelves s).height) × ((shelf_at g.shelves s).used + w ≤ g.width) = grind (arith, nat_tests) in
      record {
        tall = fits.0;
        room = fits.1;
        paged = omega (arith, g.paged (s / 16) (omega arith));
        next = omega arith;
        inside = g.inside s there;
        above_ends = λ a l e. g.stacked a s (record { upper = l; page = e; there = there });
        below_begins = λ t l e k. g.stacked s t (record { upper = l; page = e; there = k });
        left = λ j l e. let P : Shelf → Type 0 = λ z. (spot_at g.spots j).x + (spot_at g.spots j).w ≤ z.used in on_shelf P j s e (g.placed j l).0;
        level = λ j l e. let P : Shelf → Type 0 = λ z. (spot_at g.spots j).y ≡ z.top in on_shelf P j s e (g.placed j l).1;
        lower = λ j l e. let P : Shelf → Type 0 = λ z. (spot_at g.spots j).h ≤ z.height in on_shelf P j s e (g.upright j l);
        counted = g.counted s;
      }

  ready_new : (s : ℕ) → opening g h s ≡ true → Ready g w h (new_place g.shelves h s)
  ready_new s t =
      let o = opens_is g.count g.height h g.shelves g.standing s t in
      let next = o.next in
      -- no image is on a shelf that does not stand yet
      let none : (j : ℕ) → j < g.live → (spot_at g.spots j).shelf ≡ s → ⊥ = λ j l e. let T : ℕ → Type 0 = There g.standing in let q : There g.standing s = subst T e (g.stood j l) in omega arith in
      let end : (k : ℕ) → k < s → k / 16 ≡ s / 16 → end_above g.shelves s ≡ (shelf_at g.shelves (s - 1)).top + (shelf_at g.shelves (s - 1)).height =
      λ k l e. ap (λ q. cond q 0 ((shelf_at g.shelves (s - 1)).top + (shelf_at g.shelves (s - 1)).height)) (ne_eqb (s % 16) 0 (λ z. omega arith)) in
      let last : (k : ℕ) → k < s → k / 16 ≡ s / 16 → There g.standing (s - 1) =
      λ k l e. let d : (s - 1) / 16 ≡ s / 16 = omega arith in let q = ap (on_page g.standing) d in omega arith in
      record {
        tall = omega arith;
        room = omega arith;
        paged = o.paged;
        next = omega arith;
        inside = o.left;
        above_ends = λ k l e. ⊎_elim
            (λ m. let b = g.stacked k (s - 1) (record { upper = m; page = omega arith; there = last k l e }) in omega (arith, end k l e))
            (λ m. let q : s - 1 ≡ k = omega arith in let P : ℕ → Type 0 = λ j. (shelf_at g.shelves j).top + (shelf_at g.shelves j).height ≤ end_above g.shelves s in subst P q (omega (arith, end k l e)))
            (cases_lt k (s - 1));
        below_begins = λ t l e k. let q = ap (on_page g.standing) e in absurd (omega arith);
        left = λ j l e. absurd (none j l e);
        level = λ j l e. absurd (none j l e);
        lower = λ j l e. absurd (none j l e);
        counted = sym (count_none (stands_on g.spots s) g.live (λ j l. ne_eqb _ _ (none j l)));
      }

  pub ready : (p : Place) → FitIn g w h p → Ready g w h p
  ready p f =
      let P : Place → Type 0 = Ready g w h in
      ⊎_elim (λ o. subst P (sym o.is) (ready_old p.at o.takes_it)) (λ o. subst P (sym o.is) (ready_new p.at o.opens)) f.chosen
