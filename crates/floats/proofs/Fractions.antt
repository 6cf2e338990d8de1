-- The fractional part of a finite value, as IEEE 754's operations give it: exact, and what its units leave over whole numbers. Assumes nothing.
use Rattle.std.proofs.Common.{◌≡◌, ℕ, suc, ◌+◌, ◌-◌, ◌*◌, ◌/◌, ◌%◌, ◌^◌, ◌<◌, ◌≤◌, Bool, true, false, not, ◌&&◌, T, ltb, ℤ, pos, negsuc, sym, refl, ap, ◌∙◌, subst, inl, inr, le_trans, le_of_eq, lt_of_lt_of_le, lt_of_le_of_lt, mod-lt, zero-lt-suc, mul_assoc, mul_comm, eq-zero-or-pos, mul-pos, div-add-mod', zero-mul, mul-one, div-le_self, div-mul-le_self, div-one, mul-div_cancel, mul_left_comm, arith, pow_pos, pow_mono, pow-add, le-ltb, lt-ltb}
use native.Mathlib.Nat.{mod-le, mul-mod_left}
use lib.Arith.{mod-mul}
use lib.Ieee.{Float, Format, nan, inf, fin, prec, emax, low, up, down, round, sum, sub, fits}
use lib.Ieee.Fits.{down_pos}
use lib.Ieee.Exact.{HasValue, round_exact}
use lib.Ieee.Scale.{round_same, overflow}
use lib.Ieee.Back.{round_whole}
use Rattle.std.specs.Float.{round_with, trunc}
use Rattle.floats.proofs.Sums.{sum_same}
use Rattle.floats.proofs.Units.{Whole, whole, units_at, units_is, units_cross, left_over}

-- ---- the whole part
trunc_is : (f : Format) (s : Bool) (m : ℕ) (e : ℤ) → trunc f (fin s m e) ≡ round f s (m * up e / down e) 1
unfolding round_with
trunc_is f true m e = refl
trunc_is f false m e = refl

trunc_at : (f : Format) (s : Bool) (m : ℕ) (e : ℤ) → Whole f m e → HasValue (round f s (m * up e / down e) 1) s (m * up e / down e) 1
trunc_at f s m (pos k) w =
    let z : m * 2 ^ k / 1 ≡ m * 2 ^ k = div-one (m * 2 ^ k) in
    round_exact f s (m * 2 ^ k / 1) 1 m w.j (zero-lt-suc 0) w.small w.under (ap (λ (x : ℕ). x * 2 ^ low f) z ∙ w.val)
trunc_at f s m (negsuc k) w =
    round_whole f s (m * 1 / 2 ^ suc k) (le_trans (div-le_self (m * 1) (2 ^ suc k)) (le_trans (le_of_eq (mul-one m)) (native.Mathlib.Nat.le_of_lt w.small)))

-- ---- what is left
opened : (f : Format) (s : Bool) (m : ℕ) (e : ℤ) (t : Bool) (n : ℕ) (g : ℤ) → sub f (fin s m e) (fin t n g) ≡ sum f s (m * up e * down g) (not t) (n * up g * down e) (down e * down g)
unfolding sub
opened f s m e t n g = refl

unlike_sum : (f : Format) (b : Bool) (a c d : ℕ) → c ≤ a → sum f b a (not b) c d ≡ round f (b && ltb c a) (a - c) d
unfolding sum
unlike_sum f true a c d h = rw (le-ltb a c h) refl
unlike_sum f false a c d h = rw (le-ltb a c h) refl

taken_off : (f : Format) (s : Bool) (m : ℕ) (e : ℤ) (y : Float) (w : ℕ) → HasValue y s w 1 → w * down e ≤ m * up e
    → sub f (fin s m e) y ≡ round f (s && ltb (w * down e) (m * up e)) (m * up e - w * down e) (down e)
taken_off f s m e nan w v h = absurd v
taken_off f s m e (inf t) w v h = absurd v
taken_off f s m e (fin t n g) w v h =
    let a = m * up e in
    let d = down e in
    opened f s m e t n g
    ∙ ap (λ (b : Bool). sum f s (a * down g) (not b) (n * up g * d) (d * down g)) v.0
    ∙ sum_same f s (not s) (a * down g) (n * up g * d) (d * down g) a (w * d) d (mul-pos (down_pos e) (down_pos g)) (down_pos e)
    (simp (mul_assoc, mul_comm, mul_left_comm))
    (ap (λ (x : ℕ). x * d * d) (sym (mul-one (n * up g)) ∙ v.1) ∙ simp (mul_assoc, mul_comm))
    ∙ unlike_sum f s a (w * d) d h

-- U units are 1
module _ (f : Format) where
  abbrev units_in_one : ℕ
  units_in_one = 2 ^ low f

  same_test : (a d w u n : ℕ) → 0 < d → 0 < u → (a - w * d) * u ≡ n * d → w * d ≤ a → ltb (w * d) a ≡ ltb 0 n
  same_test a d w u n D U e h =
      elim (eq-zero-or-pos n) [
        | inl z ↦
            let p : (a - w * d) * u ≡ 0 = e ∙ ap (λ (k : ℕ). k * d) z ∙ zero-mul d in
            elim (eq-zero-or-pos (a - w * d)) [
              | inl y ↦ le-ltb _ _ (omega arith) ∙ sym (le-ltb 0 n (omega arith))
              | inr y ↦ absurd (native.Mathlib.Nat.lt_irrefl 0 (subst (λ (k : ℕ). 0 < k) p (mul-pos y U)))
            ]
        | inr y ↦
            elim (eq-zero-or-pos (a - w * d)) [
              | inl z ↦ absurd (native.Mathlib.Nat.lt_irrefl 0 (subst (λ (k : ℕ). 0 < k) (sym e ∙ ap (λ (k : ℕ). k * u) z ∙ zero-mul u) (mul-pos y D)))
              | inr z ↦ lt-ltb _ _ (omega arith) ∙ sym (lt-ltb 0 n y)
            ]
      ]

  -- n units of few digits stay so when whole numbers are taken off
  few : (m j : ℕ) → m < 2 ^ prec f → (q : ℕ) × (i : ℕ) × (q < 2 ^ prec f) × (m * 2 ^ j % units_in_one ≡ q * 2 ^ i) × (q * 2 ^ i < overflow f)
  few m j h =
      elim (eq-zero-or-pos (low f - j)) [
        | inl z ↦
            let p : 2 ^ j ≡ 2 ^ (j - low f) * units_in_one = ap (λ (x : ℕ). 2 ^ x) {x = j} {y = j - low f + low f} (omega arith) ∙ pow-add 2 (j - low f) (low f) in
            (0, 0, pow_pos (prec f), ap (λ (x : ℕ). x % units_in_one) (ap (λ (x : ℕ). m * x) p ∙ sym (mul_assoc m (2 ^ (j - low f)) units_in_one)) ∙ mul-mod_left (m * 2 ^ (j - low f)) units_in_one, pow_pos (low f + suc (emax f)))
        | inr z ↦
            let p : units_in_one ≡ 2 ^ (low f - j) * 2 ^ j = ap (λ (x : ℕ). 2 ^ x) {x = low f} {y = low f - j + j} (omega arith) ∙ pow-add 2 (low f - j) j in
            let q = m % 2 ^ (low f - j) in
            let e : m * 2 ^ j % units_in_one ≡ q * 2 ^ j =
            ap (λ (x : ℕ). m * 2 ^ j % x) p
            ∙ mod-mul (m * 2 ^ j) (pow_pos (low f - j)) (pow_pos j)
            ∙ ap (λ (x : ℕ). x % 2 ^ (low f - j) * 2 ^ j + m * 2 ^ j % 2 ^ j) (mul-div_cancel m (pow_pos j))
            ∙ ap (λ (x : ℕ). q * 2 ^ j + x) (mul-mod_left m (2 ^ j))
            ∙ native.Mathlib.Nat.add-zero (q * 2 ^ j) in (
              q,
              j,
              lt_of_le_of_lt (mod-le m (2 ^ (low f - j))) h,
              e,
              lt_of_lt_of_le (subst (λ (x : ℕ). x < units_in_one) e (mod-lt (m * 2 ^ j) (pow_pos (low f)))) (pow_mono {i = low f} {j = low f + suc (emax f)} (omega arith)),
            )
      ]

  pub left_value : (s : Bool) (m : ℕ) (e : ℤ) → T (fits f (fin s m e)) → HasValue (sub f (fin s m e) (trunc f (fin s m e))) (s && ltb 0 (units_at f m e % units_in_one)) (units_at f m e % units_in_one) units_in_one
  left_value s m e h =
      let w = whole f s m e h in
      let a = m * up e in
      let d = down e in
      let F = units_at f m e % units_in_one in
      let r : a - a / d * d ≡ a % d = omega (arith, div-add-mod' a d) in
      let x : a % d * units_in_one ≡ F * d = left_over a d (units_at f m e) units_in_one (down_pos e) (pow_pos (low f)) (units_cross f m e w) in
      let k = few m w.j w.small in
      let F-is : F ≡ k.0 * 2 ^ k.1 = ap (λ (z : ℕ). z % units_in_one) (units_is f m e w) ∙ k.3 in
      let t : ltb (a / d * d) a ≡ ltb 0 F = same_test a d (a / d) units_in_one F (down_pos e) (pow_pos (low f)) (ap (λ (z : ℕ). z * units_in_one) r ∙ x) (div-mul-le_self a d) in
      let is : sub f (fin s m e) (trunc f (fin s m e)) ≡ round f (s && ltb 0 F) F units_in_one =
      taken_off f s m e (trunc f (fin s m e)) (a / d) (subst (λ (z : Float). HasValue z s (a / d) 1) (sym (trunc_is f s m e)) (trunc_at f s m e w)) (div-mul-le_self a d)
      ∙ ap (λ (b : Bool). round f (s && b) (a - a / d * d) d) t
      ∙ round_same f (s && ltb 0 F) (a - a / d * d) d F units_in_one (down_pos e) (pow_pos (low f)) (ap (λ (z : ℕ). z * units_in_one) r ∙ x) in
      subst (λ (z : Float). HasValue z (s && ltb 0 F) F units_in_one) (sym is)
      (round_exact f (s && ltb 0 F) F units_in_one k.0 k.1 (pow_pos (low f)) k.2 k.4 (ap (λ (z : ℕ). z * units_in_one) F-is))
