-- A place that is found is where the image goes by the rules.
use Rattle.std.proofs.Common.{◌≡◌, ℕ, ◌<◌, ◌≤◌, Bool, true, false, cond, List, Some, None, Option, refl, sym, subst, inl, inr, arith}
use Rattle.std.specs.Option.{IfSome}
use Rattle.std.proofs.lemmas.Option.{none-some, same_Some}
use Rattle.std.proofs.lemmas.Bool.Decides.{nat_tests}
use Rattle.shelf_cache.specs.declared.shelf.Shelf.{Shelf}
use Rattle.shelf_cache.specs.declared.shelf.Place.{Place}
use Rattle.shelf_cache.specs.declared.shelves.Shelves.{Shelves}
use Rattle.shelf_cache.specs.Rows.{first_below, FirstBelow}
use Rattle.shelf_cache.specs.Places.{takes_at, opens_at, taking, opening, admits, old_place, new_place, place_for, Fit, FitIn}
use Rattle.shelf_cache.specs.First.{first_spec}
use Rattle.shelf_cache.specs.Placing.{either}
use Rattle.shelf_cache.proofs.Rooms.{first_page}

pub admits_is : (live width height w h : ℕ) → admits live width height w h ≡ true → (live < 256) × (0 < w) × (w ≤ width) × (0 < h) × (h ≤ height)
admits_is live width height w h z = grind (arith, nat_tests)

-- of any sizes and tables, whether shelves hold them or not
module _ (width height count : ℕ) (shelves : List Shelf) (standing : List ℕ) (live w h : ℕ) where
  pub fit_old : (s : ℕ) → admits live width height w h ≡ true → FirstBelow (takes_at width w h shelves standing) 64 (Some s) → Fit width height count shelves standing live w h (old_place shelves s)
  fit_old s z f = record { admitted = z; there = f.0; chosen = inl (record { is = refl; takes_it = f.1; none_before = f.2 }) }

  pub fit_new : (s : ℕ) → admits live width height w h ≡ true → FirstBelow (takes_at width w h shelves standing) 64 None → FirstBelow (opens_at count height h shelves standing) 64 (Some s) → Fit width height count shelves standing live w h (new_place shelves h s)
  fit_new s z f g = record { admitted = z; there = g.0; chosen = inr (record { no_shelf_takes = f; is = refl; opens = g.1; none_before = g.2; page = first_page count height h shelves standing s g.1 g.2 }) }

module _ (g : Shelves) (w h : ℕ) where
  fit_from : (t : Bool) (a b : Option ℕ) (p : Place) → admits g.live g.width g.height w h ≡ t → FirstBelow (taking g w h) 64 a → FirstBelow (opening g h) 64 b
      → cond t (either g.width g.height g.count g.shelves g.standing g.live w h a b) None ≡ Some p → FitIn g w h p
  fit_from false a b p z f o e = absurd (none-some p e)
  fit_from true None None p z f o e = absurd (none-some p e)
  fit_from true None (Some s) p z f o e = subst (FitIn g w h) (same_Some (new_place g.shelves h s) p e) (fit_new g.width g.height g.count g.shelves g.standing g.live w h s z f o)
  fit_from true (Some s) b p z f o e = subst (FitIn g w h) (same_Some (old_place g.shelves s) p e) (fit_old g.width g.height g.count g.shelves g.standing g.live w h s z f)

  -- the place of an image, if there is one, is where it goes by the rules
  pub fit_of : (r : Option Place) → r ≡ place_for g w h → IfSome r (FitIn g w h)
  fit_of None e = tt
  fit_of (Some p) e =
      fit_from (admits g.live g.width g.height w h) (first_below (taking g w h) 64) (first_below (opening g h) 64) p refl
      (first_spec (taking g w h) 64) (first_spec (opening g h) 64) (sym e)
