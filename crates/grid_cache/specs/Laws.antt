-- A grid is a lawful image cache.
use Rattle.std.specs.Prelude.{◌≡◌, ℕ, zero, suc, ◌+◌, ◌-◌, ◌*◌, ◌/◌, ◌%◌, ◌^◌, ◌<◌, ◌≤◌, Bool, true, false, cond, List, [], ◌∷◌, Some, None, ◌≢◌, slice_index, slice_index_or}
use Rattle.std.proofs.Common.{refl, ap, sym, subst, ◌∙◌, arith, lit<}
use Rattle.std.proofs.lemmas.Bool.{and_from}
use Rattle.std.proofs.lemmas.Bool.Decides.{nat_tests}
use Rattle.std.proofs.lemmas.Nat.{same_from_place}
use Rattle.std.proofs.lemmas.Option.{cond_some}
use Rattle.image_cache.specs.Caches.{Pixel, In, Inside, Empty, Lawful}
use Rattle.image_cache.specs.declared.image.Image.{Image}
use Rattle.image_cache.specs.declared.image.Size.{Size}
use Rattle.grid_cache.specs.Sizes.{no_size, GoesInto, InLimits}
use Rattle.grid_cache.specs.Cells.{is_taken, image_at, size_fits, any_free, cache_of}

-- one cell before another, along a side
ahead : (a b c w : ℕ) → a < b → w ≤ c → a * c + w ≤ b * c
ahead a b c w l h = grind arith

-- a coordinate that lies in two cells of a side lies in one
one_band : (a b c w v x : ℕ) → w ≤ c → v ≤ c → a * c ≤ x → x < a * c + w → b * c ≤ x → x < b * c + v → a ≡ b
one_band a b c w v x wc vc al ar bl br = (same_from_place a (x - a * c) b (x - b * c) c (omega arith) (omega arith) (omega arith)).0

-- two cells of one page in one row and one column are one cell
same_cell : (i j : ℕ) → i / 64 ≡ j / 64 → i % 8 ≡ j % 8 → i % 64 / 8 ≡ j % 64 / 8 → i ≡ j
same_cell i j p q r = omega arith

-- what is said by an image that is there or not, by a test
pub there_by : (b : Bool) (x a : Image) → cond b (Some x) None ≡ Some a → (b ≡ true) × (a ≡ x)
there_by b x a h = let p = cond_some b x a h in (p.0, sym p.1)

-- what a live image is
live_is : (cell count : ℕ) (words : List ℕ) (sizes : List Size) (i : ℕ) (a : Image) → (cache_of cell count words sizes).live i ≡ Some a
    → (is_taken count words i ≡ true) × (a ≡ image_at cell sizes i)
live_is cell count words sizes i a h = there_by (is_taken count words i) (image_at cell sizes i) a h

taken_below : (count : ℕ) (words : List ℕ) (i : ℕ) → is_taken count words i ≡ true → i < 64 * count
taken_below count words i t = grind (arith, nat_tests)

module _ (cell count : ℕ) (words : List ℕ) (sizes : List Size) (within : (k : ℕ) → GoesInto cell (slice_index_or sizes k no_size)) where
  image_inside : (i : ℕ) → i < 64 * count → Inside (cache_of cell count words sizes) (image_at cell sizes i)
  image_inside i l = record {
    page = omega arith;
    right = ahead (i % 8) 8 cell _ (omega arith) (within i).wide;
    bottom = ahead (i % 64 / 8) 8 cell _ (omega arith) (within i).high;
  }

  images_apart : (i j : ℕ) → (i ≢ j) → (p : Pixel) → In p (image_at cell sizes i) → In p (image_at cell sizes j) → ⊥
  images_apart i j ne p a b =
      ne
      (same_cell i j
      (sym a.on_page ∙ b.on_page)
      (one_band (i % 8) (j % 8) cell _ _ p.x (within i).wide (within j).wide a.left a.right b.left b.right)
      (one_band (i % 64 / 8) (j % 64 / 8) cell _ _ p.y (within i).high (within j).high a.top a.bottom b.top b.bottom))

-- some word is not 0
pub some_free : (words : List ℕ) (p : ℕ) → 0 < slice_index words p → any_free words ≡ true
some_free [] p h = absurd (omega arith)
some_free (x ∷ xs) zero h = grind (arith, nat_tests)
some_free (x ∷ xs) (suc p) h = let t = some_free xs p h in grind (arith, nat_tests)

-- where no image is live the cell 0 is free
first_word : (count : ℕ) (words : List ℕ) → 1 ≤ count → is_taken count words 0 ≡ false → 0 < slice_index words 0
first_word count words some none = grind (arith, nat_tests)

room : (cell count : ℕ) (words : List ℕ) (sizes : List Size) → 1 ≤ count → Empty (cache_of cell count words sizes) → any_free words ≡ true
room cell count words sizes some none =
    let e : cond (is_taken count words 0) (Some (image_at cell sizes 0)) None ≡ None = none 0 in
    some_free words 0 (first_word count words some (grind arith))

size_from : (cell w h : ℕ) → 0 < w → w ≤ cell → 0 < h → h ≤ cell → size_fits cell w h ≡ true
size_from cell w h w₀ w₁ h₀ h₁ = grind (arith, nat_tests)

pub lawful : (cell count : ℕ) (words : List ℕ) (sizes : List Size) → InLimits cell count → ((k : ℕ) → GoesInto cell (slice_index_or sizes k no_size))
    → Lawful (cache_of cell count words sizes)
lawful cell count words sizes limits within = record {
  limits = record { width = (omega arith, omega arith); height = (omega arith, omega arith); count = (limits.some, limits.few); largest = (limits.large, limits.large) };
  named = λ i a h. ap (λ (x : Image). x.id) (live_is cell count words sizes i a h).1;
  ids = λ i a h. let l = taken_below count words i (live_is cell count words sizes i a h).0 in let p : 256 < 2 ^ 32 = lit< tt in omega arith;
  inside = λ i a h.
      let p = live_is cell count words sizes i a h in
      let P : Image → Type 0 = Inside (cache_of cell count words sizes) in
      subst P (sym p.1) (image_inside cell count words sizes within i (taken_below count words i p.0));
  apart = λ i j a b h k ne q m n.
      let P : Image → Type 0 = In q in
      images_apart cell count words sizes within i j ne q (subst P (live_is cell count words sizes i a h).1 m) (subst P (live_is cell count words sizes j b k).1 n);
  none_wide = λ h. refl;
  none_high = λ w. grind (arith, nat_tests);
  empty_fits = λ none w h w₀ w₁ h₀ h₁. and_from (size_fits cell w h) (any_free words) (size_from cell w h w₀ w₁ h₀ h₁) (room cell count words sizes limits.some none);
}
