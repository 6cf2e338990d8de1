-- How many numbers pass, by recursion on the bound.
use Rattle.std.proofs.Common.{◌≡◌, ℕ, zero, suc, ◌+◌, ◌<◌, ◌≤◌, Bool, true, false, cond, refl, ap, ◌∙◌, ⊎_elim, arith, add-one}
use Rattle.std.proofs.lemmas.Bool.{cases_lt}
use Rattle.std.proofs.lemmas.Bool.Decides.{nat_tests}
use Rattle.shelf_cache.specs.Rows.{count_below}

pub count_le : (p : ℕ → Bool) (n : ℕ) → count_below p n ≤ n
unfolding count_below
count_le p zero = omega arith
count_le p (suc n) = let h = count_le p n in grind (arith, nat_tests)

pub count_more : (p : ℕ → Bool) (n : ℕ) → count_below p (n + 1) ≡ count_below p n + cond (p n) 1 0
unfolding count_below
count_more p n = ap (count_below p) (add-one n)

pub count_same : (p q : ℕ → Bool) (n : ℕ) → ((k : ℕ) → k < n → p k ≡ q k) → count_below p n ≡ count_below q n
unfolding count_below
count_same p q zero h = refl
count_same p q (suc n) h =
    let a : count_below p n ≡ count_below q n = count_same p q n (λ k l. h k (omega arith)) in
    let b : ◌≡◌ {A = ℕ} (cond (p n) 1 0) (cond (q n) 1 0) = ap (λ x. cond x 1 0) (h n (omega arith)) in
    omega (arith, a, b)

pub count_none : (p : ℕ → Bool) (n : ℕ) → ((k : ℕ) → k < n → p k ≡ false) → count_below p n ≡ 0
unfolding count_below
count_none p zero h = refl
count_none p (suc n) h =
    let a : count_below p n ≡ 0 = count_none p n (λ k l. h k (omega arith)) in
    let b : ◌≡◌ {A = ℕ} (cond (p n) 1 0) 0 = ap (λ x. cond x 1 0) (h n (omega arith)) in
    omega (arith, a, b)

pub count_some : (p : ℕ → Bool) (n i : ℕ) → i < n → p i ≡ true → 0 < count_below p n
unfolding count_below
count_some p zero i l t = absurd (omega arith)
count_some p (suc n) i l t =
    ⊎_elim
    (λ m. omega (arith, count_some p n i m t))
    (λ m.
    let e : n ≡ i = omega arith in
    let b : ◌≡◌ {A = ℕ} (cond (p n) 1 0) 1 = ap (λ j. cond (p j) 1 0) e ∙ ap (λ x. cond x 1 0) t in
    omega (arith, b))
    (cases_lt i n)
