-- Shelves are a lawful image cache: the laws follow from what always holds of them.
use Rattle.std.specs.Prelude.{◌≡◌, ℕ, ◌/◌, ◌%◌, ◌^◌, ◌<◌, ◌≤◌, true, false, ◌&&◌, is_some, Some, None, ◌≢◌, nat_le, nat_lt, refl}
use Rattle.std.proofs.Common.{sym, ap, subst, ◌∙◌, ⊎_elim, arith, lit<}
use Rattle.std.proofs.lemmas.Bool.{cases_eq, cases_lt, le-ltb, and_left, and_right}
use Rattle.std.proofs.lemmas.Bool.Decides.{nat_tests}
use Rattle.image_cache.specs.Caches.{Pixel, In, Inside, Lawful}
use Rattle.image_cache.specs.declared.image.Image.{Image}
use Rattle.shelf_cache.specs.declared.shelves.Shelves.{Shelves}
use Rattle.shelf_cache.specs.Rows.{spot_at, on_page}
use Rattle.shelf_cache.specs.Places.{taking, opening, image_of, live_of, cache_of_shelves}
use Rattle.shelf_cache.specs.Names.{live_is, not_live_is}
use Rattle.shelf_cache.specs.Placing.{admitted, place_both, place_none}

module _ (g : Shelves) where
  image_inside : (i : ℕ) → i < g.live → Inside (cache_of_shelves g) (image_of (spot_at g.spots i))
  image_inside i l =
      let p = g.placed i l in
      let u = g.upright i l in
      let s : ℕ = (spot_at g.spots i).shelf in
      record {
        page = g.paged (s / 16) (omega (arith, g.stood i l));
        right = omega (arith, g.inner s);
        bottom = omega (arith, g.inside s (g.stood i l));
      }

  images_apart : (i j : ℕ) → (i ≢ j) → i < g.live → j < g.live → (z : Pixel) → In z (image_of (spot_at g.spots i)) → In z (image_of (spot_at g.spots j)) → ⊥
  images_apart i j ne li lj z a b =
      let s : ℕ = (spot_at g.spots i).shelf in
      let t : ℕ = (spot_at g.spots j).shelf in
      let p = g.placed i li in
      let q = g.placed j lj in
      let u = g.upright i li in
      let v = g.upright j lj in
      ⊎_elim
      (λ e. ⊎_elim
      (λ l. omega (arith, g.beside i j (record { two = ne; one_live = li; other_live = lj; same = e; left = omega arith })))
      (λ l. omega (arith, g.beside j i (record { two = λ f. ne (sym f); one_live = lj; other_live = li; same = sym e; left = l })))
      (cases_lt (spot_at g.spots i).x (spot_at g.spots j).x))
      (λ d. ⊎_elim
      (λ e. ⊎_elim
      (λ l. let o = g.stacked s t (record { upper = l; page = e; there = g.stood j lj }) in omega arith)
      (λ l. let m : t < s = omega arith in let o = g.stacked t s (record { upper = m; page = sym e; there = g.stood i li }) in omega arith)
      (cases_lt s t))
      (λ e. e (sym a.on_page ∙ b.on_page))
      (cases_eq (s / 16) (t / 16)))
      (cases_eq s t)

  none_live : ((i : ℕ) → live_of g.spots g.live i ≡ None) → g.live ≡ 0
  none_live none = ⊎_elim (λ l. absurd (not_live_is g.spots g.live (spot_at g.spots 0).id (none (spot_at g.spots 0).id) 0 l refl)) (λ l. omega arith) (cases_lt 0 g.live)

  -- with no image live there are no shelves
  no_shelves : ((i : ℕ) → live_of g.spots g.live i ≡ None) → (s : ℕ) → on_page g.standing (s / 16) ≤ s % 16
  no_shelves none s = let z = none_live none in g.lowest s (λ t _ _. g.reset t (λ j l _. omega arith))

  fits_when_empty : ((i : ℕ) → live_of g.spots g.live i ≡ None) → (w h : ℕ) → 0 < w → w ≤ g.width → 0 < h → h ≤ g.height → (cache_of_shelves g).fits w h ≡ true
  fits_when_empty none w h w₀ w₁ h₀ h₁ =
      let gone = no_shelves none in
      let z = admitted g.live g.width g.height w h (omega (arith, none_live none)) w₀ w₁ h₀ h₁ in
      let f : (k : ℕ) → k < 64 → taking g w h k ≡ false = λ k _. and_left _ _ (le-ltb (k % 16) (on_page g.standing (k / 16)) (gone k)) in
      let top = gone 0 in
      let some = g.pages in
      let o : opening g h 0 ≡ true = grind (arith, nat_tests) in
      let e = place_both g.width g.height g.count g.shelves g.standing g.live w h None (Some 0) z f (omega arith, o, λ k l. absurd (omega arith)) in
      ap is_some e

  pub lawful : Lawful (cache_of_shelves g)
  lawful = record {
    limits = record { width = g.wide; height = g.high; count = g.pages; largest = (g.wide.0, g.high.0) };
    named = λ i a h. let f = live_is g.spots g.live i a h in ap (λ (x : Image). x.id) f.1.1.1 ∙ f.1.1.0;
    ids = λ i a h.
        let f = live_is g.spots g.live i a h in
        let p : 256 < 2 ^ 32 = lit< tt in
        omega (arith, f.1.0, f.1.1.0, g.few, g.small f.0 (omega (arith, f.1.0, g.few)));
    inside = λ i a h.
        let f = live_is g.spots g.live i a h in
        let P : Image → Type 0 = Inside (cache_of_shelves g) in
        subst P (sym f.1.1.1) (image_inside f.0 f.1.0);
    apart = λ i j a b h k ne z.
        let f = live_is g.spots g.live i a h in
        let e = live_is g.spots g.live j b k in
        let P : Image → Type 0 = λ x. In z x → In z b → ⊥ in
        let Q : Image → Type 0 = λ x. In z (image_of (spot_at g.spots f.0)) → In z x → ⊥ in
        subst P (sym f.1.1.1) (subst Q (sym e.1.1.1) (images_apart f.0 e.0 (λ q. ne (sym f.1.1.0 ∙ (ap (λ n. (spot_at g.spots n).id) q ∙ e.1.1.0))) f.1.0 e.1.0 z));
    none_wide = λ h. ap is_some (place_none g.width g.height g.count g.shelves g.standing g.live 0 h (and_right (nat_lt g.live 256) false refl));
    none_high = λ w. ap is_some (place_none g.width g.height g.count g.shelves g.standing g.live w 0 (and_right (nat_lt g.live 256) _ (and_right (nat_lt 0 w && nat_le w g.width) false refl)));
    empty_fits = fits_when_empty;
  }
