-- A new grid: its words, its free cells, its sizes.
use Rattle.std.proofs.Common.{◌≡◌, ℕ, zero, suc, ◌*◌, ◌/◌, ◌%◌, ◌<◌, ◌≤◌, true, false, List, get_or, map, replicate, refl, ⊎_elim, arith}
use Rattle.std.specs.List.{range_with_len}
use Rattle.std.proofs.lemmas.List.FromFn.{get_or-map-range_with_len}
use Rattle.std.proofs.lemmas.Bool.{cases_lt, lt-ltb}
use Rattle.std.proofs.lemmas.Bool.Decides.{nat_tests}
use Rattle.image_cache.specs.Caches.{Empty}
use Rattle.image_cache.specs.declared.image.Size.{Size}
use Rattle.grid_cache.specs.Sizes.{no_size}
use Rattle.grid_cache.specs.Cells.{is_free, is_taken, cache_of, word_of}
use Rattle.grid_cache.proofs.Bits.{full_bit}

abbrev pub words_of : ℕ → List ℕ
words_of count = map (λ page. word_of page count) (range_with_len 0 4)

pub new_free : (count : ℕ) → count ≤ 4 → (i : ℕ) → i < 64 * count → is_free (words_of count) i ≡ true
new_free count few i l =
    let word = get_or-map-range_with_len (λ page. word_of page count) 0 4 (i / 64) (i / 64) 0 (omega arith) (omega arith) in
    rw (word, lt-ltb (i / 64) count (omega arith)) (full_bit (i % 64) (omega arith))

pub new_none : (cell count : ℕ) (sizes : List Size) → count ≤ 4 → Empty (cache_of cell count (words_of count) sizes)
new_none cell count sizes few i =
    let none : is_taken count (words_of count) i ≡ false =
    ⊎_elim (λ l. let free = new_free count few i l in grind (arith, nat_tests)) (λ l. grind (arith, nat_tests)) (cases_lt i (64 * count)) in
    rw none refl

pub no_sizes : (n k : ℕ) → get_or (replicate n no_size) k no_size ≡ no_size
no_sizes zero k = refl
no_sizes (suc n) zero = refl
no_sizes (suc n) (suc k) = no_sizes n k
