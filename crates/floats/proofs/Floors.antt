-- Floor and ceiling of a finite f64, cut to 32 bits, by units. Assumes nothing.
use Rattle.std.proofs.Common.{◌≡◌, ℕ, zero, suc, ◌+◌, ◌-◌, ◌*◌, ◌/◌, ◌%◌, ◌^◌, ◌<◌, ◌≤◌, min, Bool, true, false, cond, T, ℤ, pos, negsuc, neg_ℤ, sym, refl, ap, ◌∙◌, subst, inl, inr, le_trans, le_of_eq, le_of_lt, lt_irrefl, mod-lt, zero-lt-suc, eq-zero-or-pos, mul-le-mul_left, mul-pos, div-add-mod', zero-mul, mul-one, div-le_self, div-one, mul-div_cancel, arith, pow_pos}
use lib.IntN.{neg_ℤ-neg_ℤ}
use lib.Arith.{digits_div}
use lib.Ieee.{Float, Format, nan, inf, fin, binary64, low, up, down, round, to_signed, fits}
use lib.Ieee.Fits.{down_pos}
use lib.Ieee.Nearest.{div_same}
use lib.Ieee.Exact.{HasValue, round_exact}
use lib.Ieee.Back.{round_whole}
use Rattle.std.specs.Float.{float_is_finite, round_with, ratio_floor, ratio_ceil, floor, ceil}
use Rattle.std.specs.Int.{saturate_to_bits}
use Rattle.floats.proofs.Units.{Whole, whole, units_at, units_cross, left_over}
use Rattle.floats.specs.Units.{units_of, floor_of, ceil_of}

-- ---- a quotient rounded up
raised_even : (a d : ℕ) → 0 < d → a % d ≡ 0 → ratio_ceil a d ≡ a / d
raised_even a d D z =
    let e : a + d - 1 ≡ a / d * d + (d - 1) = omega (arith, div-add-mod' a d) in
    ap (λ (x : ℕ). x / d) e ∙ digits_div (a / d) (omega arith)

raised_odd : (a d : ℕ) → 0 < d → 0 < a % d → ratio_ceil a d ≡ suc (a / d)
raised_odd a d D p =
    let l : a % d < d = mod-lt a D in
    let e : a + d - 1 ≡ suc (a / d) * d + (a % d - 1) = omega (arith, div-add-mod' a d, native.Mathlib.Nat.suc-mul (a / d) d) in
    ap (λ (x : ℕ). x / d) e ∙ digits_div (suc (a / d)) (omega arith)

-- equal fractions
raised_same : (a d n u : ℕ) → 0 < d → 0 < u → a * u ≡ n * d → ratio_ceil a d ≡ ratio_ceil n u
raised_same a d n u D U e =
    let q : a / d ≡ n / u = div_same a d n u D U e in
    let l : a % d * u ≡ n % u * d = left_over a d n u D U e in
    elim (eq-zero-or-pos (a % d)) [
      | inl z ↦
          elim (eq-zero-or-pos (n % u)) [
            | inl y ↦ raised_even a d D z ∙ q ∙ sym (raised_even n u U y)
            | inr y ↦ absurd (lt_irrefl 0 (subst (λ (k : ℕ). 0 < k) (sym l ∙ ap (λ (k : ℕ). k * u) z ∙ zero-mul u) (mul-pos y D)))
          ]
      | inr z ↦
          elim (eq-zero-or-pos (n % u)) [
            | inl y ↦ absurd (lt_irrefl 0 (subst (λ (k : ℕ). 0 < k) (l ∙ ap (λ (k : ℕ). k * d) y ∙ zero-mul d) (mul-pos z U)))
            | inr y ↦ raised_odd a d D z ∙ ap suc q ∙ sym (raised_odd n u U y)
          ]
    ]

raised_le : (a d : ℕ) → 0 < d → ratio_ceil a d ≤ a
raised_le a d D =
    let k : a / d * 1 ≤ a / d * d = mul-le-mul_left (a / d) D in
    elim (eq-zero-or-pos (a % d)) [
      | inl z ↦ le_trans (le_of_eq (raised_even a d D z)) (div-le_self a d)
      | inr z ↦ le_trans (le_of_eq (raised_odd a d D z)) (omega (arith, div-add-mod' a d))
    ]

-- ---- a whole number n next to m * 2 ^ e is a value of the format
abbrev Near : ℕ → ℤ → ℕ → Type 0
Near m (pos k) n = n ≡ m * 2 ^ k
Near m (negsuc k) n = n ≤ m

near_value : (f : Format) (s : Bool) (m : ℕ) (e : ℤ) (n : ℕ) → Whole f m e → Near m e n → HasValue (round f s n 1) s n 1
near_value f s m (pos k) n w h = round_exact f s n 1 m w.j (zero-lt-suc 0) w.small w.under (ap (λ (x : ℕ). x * 2 ^ low f) h ∙ w.val)
near_value f s m (negsuc k) n w h = round_whole f s n (le_trans h (le_of_lt w.small))

cut_near : (m : ℕ) (e : ℤ) → Near m e (ratio_floor (m * up e) (down e))
cut_near m (pos k) = div-one (m * 2 ^ k)
cut_near m (negsuc k) = le_trans (div-le_self (m * 1) (2 ^ suc k)) (le_of_eq (mul-one m))

raised_near : (m : ℕ) (e : ℤ) → Near m e (ratio_ceil (m * up e) (down e))
raised_near m (pos k) = let e : m * 2 ^ k + 1 - 1 ≡ m * 2 ^ k = omega arith in ap (λ (x : ℕ). x / 1) e ∙ div-one (m * 2 ^ k)
raised_near m (negsuc k) = le_trans (raised_le (m * 1) (2 ^ suc k) (pow_pos (suc k))) (le_of_eq (mul-one m))

-- ---- cut to 32 bits
signed_at : (y : Float) (s : Bool) (n : ℕ) → HasValue y s n 1 → to_signed 31 y ≡ cond s (neg_ℤ (pos (min n (2 ^ 31)))) (pos (min n (2 ^ 31 - 1)))
unfolding to_signed
signed_at nan s n v = absurd v
signed_at (inf t) s n v = absurd v
signed_at (fin t p g) s n v =
    let q : p * up g / down g ≡ n = ap (λ (z : ℕ). z / down g) (sym (mul-one (p * up g)) ∙ v.1) ∙ mul-div_cancel n (down_pos g) in
    λ i. cond (v.0 i) (neg_ℤ (pos (min (q i) (2 ^ 31)))) (pos (min (q i) (2 ^ 31 - 1)))

sat_neg : (q : ℕ) → neg_ℤ (pos (min q (2 ^ 31))) ≡ saturate_to_bits 31 (neg_ℤ (pos q))
sat_neg zero = refl
sat_neg (suc k) = ap (λ (n : ℕ). neg_ℤ (pos n)) {x = min (suc k) (2 ^ 31)} {y = suc (min k (2 ^ 31 - 1))} (omega arith)

abbrev units_in_one : ℕ
units_in_one = 2 ^ 1074

-- omega stops at numbers of more than 154 digits, so the unit is a variable here
up_from : (n u : ℕ) → 0 < u → suc (n / u) ≡ ratio_ceil (suc n) u
up_from n u h =
    let e : suc n + u - 1 ≡ n + 1 * u = omega arith in
    sym (ap (λ (x : ℕ). x / u) e ∙ native.Mathlib.Nat.add-mul-div_right n 1 h ∙ native.Mathlib.Numerals.add-one (n / u))

floor_neg : (n : ℕ) → floor_of (neg_ℤ (pos n)) ≡ neg_ℤ (pos (ratio_ceil n units_in_one))
floor_neg zero = refl
floor_neg (suc n) = ap (λ (x : ℕ). neg_ℤ (pos x)) (up_from n units_in_one (pow_pos 1074))

floor_opened : (s : Bool) (m : ℕ) (e : ℤ) → floor binary64 (fin s m e) ≡ round binary64 s (cond s (ratio_ceil (m * up e) (down e)) (ratio_floor (m * up e) (down e))) 1
unfolding round_with
floor_opened true m e = refl
floor_opened false m e = refl

ceil_opened : (s : Bool) (m : ℕ) (e : ℤ) → ceil binary64 (fin s m e) ≡ round binary64 s (cond s (ratio_floor (m * up e) (down e)) (ratio_ceil (m * up e) (down e))) 1
unfolding round_with
ceil_opened true m e = refl
ceil_opened false m e = refl

-- a whole number next to the value, that is q by units
rounded : (s : Bool) (m : ℕ) (e : ℤ) (n q : ℕ) → Whole binary64 m e → Near m e n → n ≡ q → to_signed 31 (round binary64 s n 1) ≡ saturate_to_bits 31 (cond s (neg_ℤ (pos q)) (pos q))
rounded false m e n q w h k = signed_at _ false n (near_value binary64 false m e n w h) ∙ ap (λ (z : ℕ). pos (min z (2 ^ 31 - 1))) k
rounded true m e n q w h k = signed_at _ true n (near_value binary64 true m e n w h) ∙ ap (λ (z : ℕ). neg_ℤ (pos (min z (2 ^ 31)))) k ∙ sat_neg q

module _ (s : Bool) (m : ℕ) (e : ℤ) (h : T (fits binary64 (fin s m e))) where
  abbrev n : ℕ
  n = units_at binary64 m e

  abbrev signed : ℕ → ℤ
  signed q = cond s (neg_ℤ (pos q)) (pos q)

  -- rounded down in size, and up
  cut_units : to_signed 31 (round binary64 s (ratio_floor (m * up e) (down e)) 1) ≡ saturate_to_bits 31 (signed (n / units_in_one))
  cut_units =
      let w = whole binary64 s m e h in
      rounded s m e _ _ w (cut_near m e) (div_same (m * up e) (down e) n units_in_one (down_pos e) (pow_pos 1074) (units_cross binary64 m e w))

  raised_units : to_signed 31 (round binary64 s (ratio_ceil (m * up e) (down e)) 1) ≡ saturate_to_bits 31 (signed (ratio_ceil n units_in_one))
  raised_units =
      let w = whole binary64 s m e h in
      rounded s m e _ _ w (raised_near m e) (raised_same (m * up e) (down e) n units_in_one (down_pos e) (pow_pos 1074) (units_cross binary64 m e w))

pub floor_units : (x : Float) → T (fits binary64 x) → T (float_is_finite x) → to_signed 31 (floor binary64 x) ≡ saturate_to_bits 31 (floor_of (units_of x))
unfolding float_is_finite
floor_units nan h k = absurd k
floor_units (inf s) h k = absurd k
floor_units (fin false m e) h k = ap (to_signed 31) (floor_opened false m e) ∙ cut_units false m e h
floor_units (fin true m e) h k =
    ap (to_signed 31) (floor_opened true m e)
    ∙ raised_units true m e h
    ∙ ap (saturate_to_bits 31) (sym (floor_neg (units_at binary64 m e)))

pub ceil_units : (x : Float) → T (fits binary64 x) → T (float_is_finite x) → to_signed 31 (ceil binary64 x) ≡ saturate_to_bits 31 (ceil_of (units_of x))
unfolding float_is_finite
ceil_units nan h k = absurd k
ceil_units (inf s) h k = absurd k
ceil_units (fin false m e) h k =
    let n = units_at binary64 m e in
    ap (to_signed 31) (ceil_opened false m e)
    ∙ raised_units false m e h
    ∙ ap (saturate_to_bits 31) (sym (neg_ℤ-neg_ℤ (pos (ratio_ceil n units_in_one))) ∙ ap neg_ℤ (sym (floor_neg n)))
ceil_units (fin true m e) h k =
    ap (to_signed 31) (ceil_opened true m e)
    ∙ cut_units true m e h
    ∙ ap (λ (z : ℤ). saturate_to_bits 31 (neg_ℤ (floor_of z))) (sym (neg_ℤ-neg_ℤ (pos (units_at binary64 m e))))
