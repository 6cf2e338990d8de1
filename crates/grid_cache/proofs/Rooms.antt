-- Whether some cell is free, told by the words of the pages, and which is chosen.
use Rattle.std.proofs.Common.{◌≡◌, ℕ, suc, ◌+◌, ◌*◌, ◌/◌, ◌%◌, ◌^◌, ◌<◌, ◌≤◌, true, false, List, [], ◌∷◌, length, Option, Some, None, is_some, slice_index, refl, sym, arith}
use Rattle.std.proofs.lemmas.Bool.Decides.{nat_tests}
use Rattle.grid_cache.specs.declared.grid.Grid.{Grid}
use Rattle.grid_cache.specs.Cells.{any_free, fits_in, Chosen, FirstRoom}
use Rattle.grid_cache.specs.Laws.{some_free}
use Rattle.grid_cache.proofs.Bits.{highest, highest_set, highest_above, zero_bit}

none_free : (words : List ℕ) → ((k : ℕ) → k < length words → slice_index words k ≡ 0) → any_free words ≡ false
none_free [] h = refl
none_free (x ∷ xs) h =
    let first : x ≡ 0 = h 0 (omega arith) in
    let rest = none_free xs (λ k l. h (suc k) (omega arith)) in
    grind (arith, nat_tests)

pub found_any : (words : List ℕ) (r : Option ℕ) → FirstRoom words r → is_some r ≡ any_free words
found_any words None h = sym (none_free words h)
found_any words (Some p) h = sym (some_free words p h.1)

-- the highest free cell of the first page with one is the chosen one
pub chosen_is : (g : Grid) (p : ℕ) → p < g.count → 0 < slice_index g.free p → slice_index g.free p < 2 ^ 64 → ((k : ℕ) → k < p → slice_index g.free k ≡ 0)
    → Chosen g (64 * p + highest (slice_index g.free p))
chosen_is g p page some small before =
    let word : ℕ = slice_index g.free p in
    let place : (64 * p + highest word) % 64 ≡ highest word = omega arith in
    let here : (64 * p + highest word) / 64 ≡ p = omega arith in
    record {
      there = omega arith;
      vacant = rw (place, here) (highest_set word some small);
      none_higher = λ j same l. let e : j / 64 ≡ p = omega arith in rw e (highest_above word (j % 64) some small (omega arith));
      none_earlier = λ j l. rw (before (j / 64) (omega arith)) (zero_bit (j % 64));
    }

-- what has room is no larger than a cell
pub fits_wide : (cell w h : ℕ) (words : List ℕ) → fits_in cell words w h ≡ true → w ≤ cell
fits_wide cell w h words t = grind (arith, nat_tests)

pub fits_high : (cell w h : ℕ) (words : List ℕ) → fits_in cell words w h ≡ true → h ≤ cell
fits_high cell w h words t = grind (arith, nat_tests)
