-- New shelves are sound: no shelf stands, no image is live, and the ids are the numbers of the spots.
use Rattle.std.proofs.Common.{◌≡◌, ℕ, ◌/◌, ◌≤◌, List, get_or, replicate, sym, ap, ◌∙◌, subst, ⊎_elim, arith}
use Rattle.std.proofs.lemmas.List.{get_or-replicate, get_or_past, length-replicate}
use Rattle.std.proofs.lemmas.Bool.{cases_lt}
use Rattle.shelf_cache.specs.declared.shelf.Shelf.{Shelf}
use Rattle.shelf_cache.specs.declared.shelf.Spot.{Spot}
use Rattle.shelf_cache.specs.Rows.{no_shelf, shelf_at, on_page}
use Rattle.shelf_cache.specs.Sound.{Sound, Side, Pages, stands_on}
use Rattle.shelf_cache.specs.Places.{Numbered}
use Rattle.shelf_cache.proofs.Counts.{count_none}

all_same : {X : Type 0} (n k : ℕ) (d : X) → get_or (replicate n d) k d ≡ d
all_same n k d = ⊎_elim (λ l. get_or-replicate n k d d l) (λ l. get_or_past (replicate n d) k d (subst {A = ℕ} (λ m. m ≤ k) (sym (length-replicate n d)) l)) (cases_lt k n)

unused : (s : ℕ) → (shelf_at (replicate 64 no_shelf) s).used ≡ 0
unused s = ap (λ (z : Shelf). z.used) (all_same 64 s no_shelf)

pub none_stands : (p : ℕ) → on_page (replicate 4 0) p ≡ 0
none_stands p = all_same 4 p 0

pub new_sound : (width height count : ℕ) (spots : List Spot) → Side width → Side height → Pages count → Numbered spots → Sound width height count (replicate 64 no_shelf) (replicate 4 0) spots 0
new_sound width height count spots a b c numbered = record {
  wide = a;
  high = b;
  pages = c;
  paged = λ p l. absurd (omega (arith, none_stands p));
  sixteen = λ p. omega (arith, none_stands p);
  inside = λ s l. absurd (omega (arith, none_stands (s / 16)));
  inner = λ s. omega (arith, unused s);
  stacked = λ s t o. absurd (omega (arith, none_stands (t / 16), o.there));
  few = omega arith;
  sized = λ i l. absurd (omega arith);
  placed = λ i l. absurd (omega arith);
  stood = λ i l. absurd (omega arith);
  upright = λ i l. absurd (omega arith);
  beside = λ i j r. absurd (omega (arith, r.one_live));
  reset = λ s _. unused s;
  counted = λ s. ap (λ (z : Shelf). z.images) (all_same 64 s no_shelf) ∙ sym (count_none (stands_on spots s) 0 (λ j l. absurd (omega arith)));
  lowest = λ s _. omega (arith, none_stands (s / 16));
  small = λ i l. omega (arith, numbered i l);
  single = λ i j r. sym (numbered i r.one) ∙ (r.same ∙ numbered j r.other);
}
