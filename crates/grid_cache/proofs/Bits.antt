-- Bits of a word: what turning one changes, and where the highest stands.
use Rattle.std.proofs.Common.{◌≡◌, ℕ, suc, ◌-◌, ◌/◌, ◌%◌, ◌^◌, ◌<◌, true, false, not, ◌==◌, ◌≢◌, bit_and, bit_xor, ap, arith}
use Rattle.std.proofs.Math.Nat.{div-eq_of_lt-le, pow-succ'}
use Rattle.std.specs.Int.Count.{count_leading_zeros}
use Rattle.std.proofs.lemmas.Nat.{leading_top, and_mask}
use Rattle.std.proofs.lemmas.Nat.Bits.{bit_at_xor, bit_at-pow_same, bit_at-pow_other, bit_at-lt, bit_at-zero, bit_at_ones, bit_at_above}
use Rattle.std.proofs.lemmas.Bool.Decides.{nat_tests}
use Rattle.grid_cache.specs.Cells.{bit}

pub toggled_other : (word k m : ℕ) → m ≢ k → bit m (bit_xor word (2 ^ k)) ≡ bit m word
toggled_other word k m ne = ap (λ n. n == 1) (omega (arith, bit_at_xor word (2 ^ k) m, bit_at-pow_other k m ne, bit_at-lt word m))

pub toggled_same : (word k : ℕ) → bit k (bit_xor word (2 ^ k)) ≡ not (bit k word)
toggled_same word k = grind (arith, nat_tests, bit_at_xor word (2 ^ k) k, bit_at-pow_same k)

abbrev pub highest : ℕ → ℕ
highest word = 63 - count_leading_zeros 64 word

pub highest_set : (word : ℕ) → 0 < word → word < 2 ^ 64 → bit (highest word) word ≡ true
highest_set word some small =
    let t = leading_top 64 word some small in
    let e : highest word ≡ t.0 = omega (arith, t.1) in
    let q : word / 2 ^ t.0 ≡ 1 = div-eq_of_lt-le (2 ^ t.0) (omega (arith, t.2)) (omega (arith, t.3, pow-succ' 2 t.0)) in
    rw (e, q)

pub highest_above : (word m : ℕ) → 0 < word → word < 2 ^ 64 → highest word < m → bit m word ≡ false
highest_above word m some small above =
    let t = leading_top 64 word some small in
    ap (λ n. n == 1) (bit_at_above word (suc t.0) m t.3 (omega (arith, t.1)))

pub zero_bit : (k : ℕ) → bit k 0 ≡ false
zero_bit k = ap (λ n. n == 1) (bit_at-zero k)

-- a word of ones
pub full_bit : (k : ℕ) → k < 64 → bit k (2 ^ 64 - 1) ≡ true
full_bit k l = ap (λ n. n == 1) (bit_at_ones 64 k l)

pub highest_below : (word : ℕ) → highest word < 64
highest_below word = omega arith

-- the test of the lowest bit, as the code writes it
pub clear_test : (n : ℕ) → (bit_and n 1 == 0) ≡ not (n % 2 == 1)
clear_test n = grind (arith, nat_tests, and_mask n 1)
