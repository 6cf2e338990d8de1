-- The bucket by IEEE 754's operations is the bucket by whole numbers. Assumes nothing.
use Rattle.std.proofs.Common.{◌≡◌, ℕ, zero, suc, ◌+◌, ◌-◌, ◌*◌, ◌/◌, ◌%◌, ◌^◌, ◌<◌, ◌≤◌, min, Bool, true, false, cond, ◌&&◌, T, ltb, ℤ, pos, neg_ℤ, sym, refl, ap, ◌∙◌, subst, inl, inr, true≢false, le_trans, le_of_eq, lt_of_le_of_lt, mul-le-mul_right, mod-lt, mul_assoc, mul_comm, eq-zero-or-pos, mul-pos, mul-one, mul-div_cancel, arith, lit<, pow_pos, pow_mono, pow-add, le-ltb, lt-ltb, eq-eqb, ne_eqb}
use Prim.Native.Nat.{compare}
use lib.Ieee.{Float, Format, nan, inf, fin, binary32, up, down, size, round, sum, add, sub, mul, lt, to_unsigned, fits, of_bits}
use lib.Ieee.Fits.{down_pos, sub-fits, add-fits, cond-fits, kept-lt, nearest-le}
use lib.Ieee.Digits.{size-le}
use lib.Ieee.Nearest.{closest, closest_same, div_same}
use lib.Ieee.Exact.{HasValue, round_exact}
use lib.Ieee.Scale.{round_same, grid, overflow, round_val}
use lib.Ieee.Back.{round_whole}
use lib.Ieee.Positive.{first_pos}
use Rattle.std.specs.Float.{round_with, trunc, float_round, float_one, float_zero as nought}
use Rattle.floats.specs.Units.{units_in}
use Rattle.floats.proofs.Sums.{sum_same, sum_less}
use Rattle.floats.proofs.Units.{whole, units_at}
use Rattle.floats.proofs.Fractions.{left_value}
use Rattle.glyph_key.specs.Steps.{fraction, near_by_ieee}
use Rattle.glyph_key.specs.Bucket.{to24, reduced, quarters, near_of, WithinAnEighth}

-- the literals by their values
abbrev four : Float
four = fin false 1 (pos 2)

abbrev turned : Float → Float
turned x = cond (lt x nought) (add binary32 x float_one) x

-- ---- 1 more where it is negative
abbrev units_in_one : ℕ
units_in_one = 2 ^ 149

lt_nought_no : (y : Float) (F u : ℕ) → HasValue y false F u → lt y nought ≡ false
unfolding lt
lt_nought_no nan F u v = absurd v
lt_nought_no (inf t) F u v = absurd v
lt_nought_no (fin true n g) F u v = absurd (true≢false v.0)
lt_nought_no (fin false n g) F u v = le-ltb _ _ (omega arith)

lt_nought_yes : (y : Float) (F u : ℕ) → HasValue y true F u → 0 < F → lt y nought ≡ true
unfolding lt
lt_nought_yes nan F u v h = absurd v
lt_nought_yes (inf t) F u v h = absurd v
lt_nought_yes (fin false n g) F u v h = absurd (true≢false (sym v.0))
lt_nought_yes (fin true n g) F u v h =
    let p : 0 < n * up g = first_pos (n * up g) u (subst (λ (k : ℕ). 0 < k) (sym v.1) (mul-pos h (down_pos g))) in
    lt-ltb _ _ (omega arith)

opened_add : (f : Format) (s : Bool) (m : ℕ) (e : ℤ) (t : Bool) (n : ℕ) (g : ℤ) → add f (fin s m e) (fin t n g) ≡ sum f s (m * up e * down g) t (n * up g * down e) (down e * down g)
unfolding add
opened_add f s m e t n g = refl

plus_one : (y : Float) (F : ℕ) → HasValue y true F units_in_one → F < units_in_one → add binary32 y float_one ≡ round binary32 false (units_in_one - F) units_in_one
plus_one nan F v h = absurd v
plus_one (inf t) F v h = absurd v
plus_one (fin false n g) F v h = absurd (true≢false (sym v.0))
plus_one (fin true n g) F v h =
    opened_add binary32 true n g false 1 (pos 0)
    ∙ sum_same binary32 true false (n * up g * 1) (1 * down g) (down g * 1) F units_in_one units_in_one (mul-pos (down_pos g) (lit< tt)) (pow_pos 149) (omega (arith, v.1)) (omega arith)
    ∙ sum_less binary32 true false F units_in_one units_in_one refl h

grid_is : (n : ℕ) → grid binary32 n units_in_one ≡ to24 n
unfolding to24
grid_is n =
    let k = size n - 24 in
    ap (λ (z : ℕ). closest (n * units_in_one) (units_in_one * 2 ^ (size z - 24)) * 2 ^ (size z - 24)) (mul-div_cancel n (pow_pos 149))
    ∙ ap (λ (z : ℕ). z * 2 ^ k) (closest_same (n * units_in_one) (units_in_one * 2 ^ k) n (2 ^ k) (mul-pos (pow_pos 149) (pow_pos k)) (pow_pos k) (mul_assoc n units_in_one (2 ^ k)))

to24_le : (n : ℕ) → n < units_in_one → to24 n ≤ units_in_one
unfolding to24
to24_le n h =
    let k = size n - 24 in
    let z : size n ≤ 149 = size-le n 149 h in
    le_trans (mul-le-mul_right (2 ^ k) (le_trans (nearest-le (n / 2 ^ k) (compare (n % 2 ^ k * 2) (2 ^ k))) (kept-lt 24 n)))
    (le_trans (le_of_eq (sym (pow-add 2 24 k))) (pow_mono {i = 24 + k} {j = 149} (omega arith)))

-- t says whether the fraction is negative, and F is its size
abbrev rounded_fraction : Bool → ℕ → ℕ
rounded_fraction t F = cond t (to24 (units_in_one - F)) F

under_one : (F : ℕ) → 0 < F → F < units_in_one → units_in_one - F < units_in_one
under_one F h k = omega arith

turned_value : (y : Float) (t : Bool) (F : ℕ) → HasValue y t F units_in_one → (T t → 0 < F) → F < units_in_one → HasValue (turned y) false (rounded_fraction t F) units_in_one × (rounded_fraction t F ≤ units_in_one)
turned_value y false F v p h = (subst (λ (b : Bool). HasValue (cond b (add binary32 y float_one) y) false F units_in_one) (sym (lt_nought_no y F units_in_one v)) v, native.Mathlib.Nat.le_of_lt h)
turned_value y true F v p h =
    let b = to24_le (units_in_one - F) (under_one F (p tt) h) in
    let g : HasValue (round binary32 false (units_in_one - F) units_in_one) false (to24 (units_in_one - F)) units_in_one =
    subst (λ (z : ℕ). HasValue (round binary32 false (units_in_one - F) units_in_one) false z units_in_one) (grid_is (units_in_one - F))
    (round_val binary32 (units_in_one - F) units_in_one (subst (λ (z : ℕ). z < overflow binary32) (sym (grid_is (units_in_one - F))) (lt_of_le_of_lt b (lit< tt)))) in (
      subst (λ (c : Bool). HasValue (cond c (add binary32 y float_one) y) false (rounded_fraction true F) units_in_one) (sym (lt_nought_yes y F units_in_one v (p tt)))
          (subst (λ (z : Float). HasValue z false (rounded_fraction true F) units_in_one) (sym (plus_one y F v h)) g),
      b,
    )

-- ---- times 4
opened_mul : (f : Format) (n : ℕ) (g : ℤ) → mul f (fin false n g) four ≡ round f false (n * up g * 4) (down g * 1)
unfolding mul
opened_mul f n g = refl

times_four : (y : Float) (r : ℕ) → T (fits binary32 y) → HasValue y false r units_in_one → r ≤ units_in_one → HasValue (mul binary32 y four) false (4 * r) units_in_one
times_four nan r fit v h = absurd v
times_four (inf t) r fit v h = absurd v
times_four (fin true n g) r fit v h = absurd (true≢false v.0)
times_four (fin false n g) r fit v h =
    let w = whole binary32 false n g fit in
    let e : n * 2 ^ w.j ≡ r = native.Mathlib.Nat.eq_of_mul-eq-mul_right (down g) (down_pos g) (n * 2 ^ w.j) r (sym w.val ∙ v.1) in
    let e4 : n * 2 ^ (w.j + 2) ≡ 4 * r = ap (λ (z : ℕ). n * z) (pow-add 2 w.j 2) ∙ sym (mul_assoc n (2 ^ w.j) 4) ∙ ap (λ (z : ℕ). z * 4) e ∙ mul_comm r 4 in
    let lim : 4 * r ≤ 4 * units_in_one = omega arith in
    subst (λ (z : Float). HasValue z false (4 * r) units_in_one)
    (sym (opened_mul binary32 n g ∙ round_same binary32 false (n * up g * 4) (down g * 1) (4 * r) units_in_one (mul-pos (down_pos g) (lit< tt)) (pow_pos 149) (omega (arith, v.1))))
    (round_exact binary32 false (4 * r) units_in_one n (w.j + 2) (pow_pos 149) w.small (subst (λ (z : ℕ). z < overflow binary32) (sym e4) (lt_of_le_of_lt lim (lit< tt))) (ap (λ (z : ℕ). z * units_in_one) (sym e4)))

-- ---- to the nearest whole number, half away from zero
rounded : (y : Float) (r : ℕ) → HasValue y false (4 * r) units_in_one → float_round binary32 y ≡ round binary32 false (quarters r) 1
unfolding round_with
rounded nan r v = absurd v
rounded (inf t) r v = absurd v
rounded (fin true n g) r v = absurd (true≢false v.0)
rounded (fin false n g) r v =
    ap (λ (z : ℕ). round binary32 false z 1) (div_same (2 * (n * up g) + down g) (2 * down g) (r + 2 ^ 146) (2 ^ 147) (mul-pos (lit< tt) (down_pos g)) (pow_pos 147) (omega (arith, v.1)))

cut_at : (y : Float) (q : ℕ) → HasValue y false q 1 → to_unsigned 8 y ≡ min q 255
unfolding to_unsigned
cut_at nan q v = absurd v
cut_at (inf t) q v = absurd v
cut_at (fin true n g) q v = absurd (true≢false v.0)
cut_at (fin false n g) q v = ap (λ (z : ℕ). min z 255) (ap (λ (z : ℕ). z / down g) (sym (mul-one (n * up g)) ∙ v.1) ∙ mul-div_cancel q (down_pos g))

quarters_le : (r : ℕ) → r ≤ units_in_one → quarters r ≤ 2 ^ 24
quarters_le r h = omega arith

near_turned : (y : Float) (r : ℕ) → T (fits binary32 y) → HasValue y false r units_in_one → r ≤ units_in_one → to_unsigned 8 (float_round binary32 (mul binary32 y four)) ≡ quarters r
near_turned y r fit v h =
    let l : min (quarters r) 255 ≡ quarters r = omega arith in
    ap (λ (z : Float). to_unsigned 8 z) (rounded (mul binary32 y four) r (times_four y r fit v h))
    ∙ cut_at (round binary32 false (quarters r) 1) (quarters r) (round_whole binary32 false (quarters r) (quarters_le r h))
    ∙ l

-- ---- the sign
reduced_neg : (n : ℕ) → reduced (neg_ℤ (pos n)) ≡ rounded_fraction (true && ltb 0 (n % units_in_one)) (n % units_in_one)
unfolding reduced
reduced_neg zero = refl
reduced_neg (suc n) =
    elim (eq-zero-or-pos (suc n % units_in_one)) [
      | inl z ↦ rw (eq-eqb (suc n % units_in_one) 0 z, le-ltb 0 (suc n % units_in_one) (omega arith)) (sym z)
      | inr p ↦ rw (ne_eqb (suc n % units_in_one) 0 (λ e. omega arith), lt-ltb 0 (suc n % units_in_one) p) refl
    ]

reduced_is : (s : Bool) (m : ℕ) (e : ℤ) → rounded_fraction (s && ltb 0 (units_at binary32 m e % units_in_one)) (units_at binary32 m e % units_in_one) ≡ reduced (units_in binary32 (fin s m e))
unfolding reduced
reduced_is false m e = refl
reduced_is true m e = sym (reduced_neg (units_at binary32 m e))

negative_pos : (s : Bool) (n : ℕ) → T (s && ltb 0 n) → 0 < n
negative_pos true n t = lib.Dec.ltb→lt 0 n t
negative_pos false n t = absurd t

near_at : (x : Float) → T (fits binary32 x) → to_unsigned 8 (float_round binary32 (mul binary32 (turned (fraction x)) four)) ≡ near_of x
unfolding near_of
near_at nan h = unfold sub in unfold mul in unfold round_with in unfold lt in unfold to_unsigned in refl
near_at (inf true) h = unfold sub in unfold mul in unfold round_with in unfold lt in unfold to_unsigned in refl
near_at (inf false) h = unfold sub in unfold mul in unfold round_with in unfold lt in unfold to_unsigned in refl
near_at (fin s m e) h =
    let F = units_at binary32 m e % units_in_one in
    let t = s && ltb 0 F in
    let y = fraction (fin s m e) in
    let v = turned_value y t F (left_value binary32 s m e h) (negative_pos s F) (mod-lt (units_at binary32 m e) (pow_pos 149)) in
    let fit : T (fits binary32 (turned y)) = cond-fits binary32 (lt y nought) (add binary32 y float_one) y (add-fits binary32 y float_one) (sub-fits binary32 (fin s m e) (trunc binary32 (fin s m e))) in
    near_turned (turned y) (rounded_fraction t F) fit v.0 v.1 ∙ ap quarters (reduced_is s m e)

pub near_is : (x : Float) → T (fits binary32 x) → near_by_ieee x ≡ near_of x
unfolding of_bits
near_is x h = near_at x h

within : (r : ℕ) → (quarters r * 2 ^ 147 ≤ r + 2 ^ 146) × (r ≤ quarters r * 2 ^ 147 + 2 ^ 146)
within r = (omega arith, omega arith)

pub within_an_eighth : WithinAnEighth
unfolding near_of
within_an_eighth x = within (reduced (units_in binary32 x))
