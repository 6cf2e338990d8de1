-- What a cell that is taken or given back changes.
use Rattle.std.proofs.Common.{◌≡◌, ℕ, ◌*◌, ◌/◌, ◌%◌, ◌^◌, ◌<◌, ◌≢◌, true, false, not, List, length, get_or, set, bit_xor, refl, ⊎_elim, arith}
use Rattle.std.proofs.lemmas.List.{get_or-set_same, get_or-set_other}
use Rattle.std.proofs.lemmas.Grind.{get_or-set_at}
use Rattle.std.proofs.lemmas.Bool.{cases_eq}
use Rattle.std.proofs.lemmas.Bool.Decides.{nat_tests}
use Rattle.image_cache.specs.Caches.{Added, Removed}
use Rattle.image_cache.specs.declared.image.Size.{Size}
use Rattle.grid_cache.specs.Sizes.{no_size}
use Rattle.grid_cache.specs.Cells.{is_free, is_taken, image_at, cache_of, toggled}
use Rattle.grid_cache.proofs.Bits.{toggled_same, toggled_other}

free_same : (words : List ℕ) (i : ℕ) → i / 64 < length words → is_free (toggled words i) i ≡ not (is_free words i)
free_same words i l = rw (get_or-set_same words (i / 64) (bit_xor (get_or words (i / 64) 0) (2 ^ (i % 64))) 0 l) (toggled_same (get_or words (i / 64) 0) (i % 64))

free_other : (words : List ℕ) (i j : ℕ) → i / 64 < length words → j ≢ i → is_free (toggled words i) j ≡ is_free words j
free_other words i j l ne =
    let turned : ℕ = bit_xor (get_or words (i / 64) 0) (2 ^ (i % 64)) in
    ⊎_elim
    (λ p. let q : j % 64 ≢ i % 64 = λ r. ne (omega arith) in
    rw (get_or-set_at words (i / 64) (j / 64) turned 0 p l, p) (toggled_other (get_or words (i / 64) 0) (i % 64) (j % 64) q))
    (λ p. rw (get_or-set_other words (i / 64) (j / 64) turned 0 p) refl)
    (cases_eq (j / 64) (i / 64))

module _ (cell count : ℕ) (words : List ℕ) (sizes : List Size) (i : ℕ) (l : i / 64 < length words) where
  others : (j : ℕ) → j ≢ i → is_taken count (toggled words i) j ≡ is_taken count words j
  others j ne = rw (free_other words i j l ne) refl

  pub removed_is : is_taken count words i ≡ true → Removed (cache_of cell count words sizes) i (cache_of cell count (toggled words i) sizes)
  removed_is taken =
      let free : is_taken count (toggled words i) i ≡ false = grind (arith, nat_tests, free_same words i l) in
      record {
        image = image_at cell sizes i;
        was = rw taken refl;
        gone = rw free refl;
        others = λ j ne. rw (others j ne) refl;
        sizes = record { width = refl; height = refl; count = refl; widest = refl; highest = refl };
      }

  pub added_is : (s : Size) → i < 64 * count → is_free words i ≡ true → i < length sizes → (cache_of cell count words sizes).fits s.w s.h ≡ true
      → Added (cache_of cell count words sizes) s.w s.h i (cache_of cell count (toggled words i) (set sizes i s))
  added_is s there vacant k fitted =
      let before : is_taken count words i ≡ false = grind (arith, nat_tests) in
      let after : is_taken count (toggled words i) i ≡ true = grind (arith, nat_tests, free_same words i l) in
      let size = get_or-set_same sizes i s no_size k in
      record {
        fitted = fitted;
        fresh = rw before refl;
        image = image_at cell (set sizes i s) i;
        here = rw after refl;
        wide = rw size refl;
        high = rw size refl;
        others = λ j ne. rw (others j ne, get_or-set_other sizes i j s no_size ne) refl;
        sizes = record { width = refl; height = refl; count = refl; widest = refl; highest = refl };
      }
