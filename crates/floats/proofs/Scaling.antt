-- Tests on numbers that are scaled alike: a * u = m * v and b * u = n * v. Assumes nothing.
use Rattle.std.proofs.Common.{◌≡◌, ℕ, ◌+◌, ◌-◌, ◌*◌, ◌<◌, ◌≤◌, eqb, ltb, sym, ap, ◌∙◌, subst, inl, inr, mul-le-mul_right, mul_comm, eq-zero-or-pos, lt_of_mul-lt-mul_right, mul-lt-mul_of_pos_right, le_of_mul-le-mul_right, arith, le-ltb, lt-ltb, eq-eqb, ne_eqb}
use native.Mathlib.Nat.{mul-sub, eq_of_mul-eq-mul_right}

module _ (u v : ℕ) (U : 0 < u) (V : 0 < v) where
  pub ltb_scale : (a b m n : ℕ) → a * u ≡ m * v → b * u ≡ n * v → ltb a b ≡ ltb m n
  ltb_scale a b m n p q =
      elim (eq-zero-or-pos (n - m)) [
        | inl z ↦
            let h : n ≤ m = omega arith in
            le-ltb a b (le_of_mul-le-mul_right {k = u} (subst (λ (k : ℕ). k ≤ a * u) (sym q) (subst (λ (k : ℕ). n * v ≤ k) (sym p) (mul-le-mul_right v h))) U) ∙ sym (le-ltb m n h)
        | inr z ↦
            let h : m < n = omega arith in
            lt-ltb a b (lt_of_mul-lt-mul_right u (subst (λ (k : ℕ). k < b * u) (sym p) (subst (λ (k : ℕ). m * v < k) (sym q) (mul-lt-mul_of_pos_right h V)))) ∙ sym (lt-ltb m n h)
      ]

  pub eqb_scale : (a b m n : ℕ) → a * u ≡ m * v → b * u ≡ n * v → eqb a b ≡ eqb m n
  eqb_scale a b m n p q =
      elim (eq-zero-or-pos ((n - m) + (m - n))) [
        | inl z ↦
            let h : m ≡ n = omega arith in
            eq-eqb a b (eq_of_mul-eq-mul_right u U a b (p ∙ ap (λ (k : ℕ). k * v) h ∙ sym q)) ∙ sym (eq-eqb m n h)
        | inr z ↦
            ne_eqb a b (λ e. let h : m ≡ n = eq_of_mul-eq-mul_right v V m n (sym p ∙ ap (λ (k : ℕ). k * u) e ∙ q) in omega arith) ∙ sym (ne_eqb m n (λ e. omega arith))
      ]

  pub sub_scale : (a b m n : ℕ) → a * u ≡ m * v → b * u ≡ n * v → (a - b) * u ≡ (m - n) * v
  sub_scale a b m n p q =
      let left : (a - b) * u ≡ a * u - b * u = mul_comm (a - b) u ∙ mul-sub u a b ∙ (λ i. mul_comm u a i - mul_comm u b i) in
      let right : (m - n) * v ≡ m * v - n * v = mul_comm (m - n) v ∙ mul-sub v m n ∙ (λ i. mul_comm v m i - mul_comm v n i) in
      left ∙ (λ i. p i - q i) ∙ sym right
