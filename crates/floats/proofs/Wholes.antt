-- The floor and the ceiling of z / u, by products: the floor is the greatest whole number not above it, the ceiling the least not below. Assumes nothing.
use Rattle.std.proofs.Common.{◌≡◌, ℕ, zero, suc, ◌*◌, ◌/◌, ◌<◌, ℤ, pos, negsuc, ◌+ℤ◌, ◌-ℤ◌, ◌*ℤ◌, neg_ℤ, ◌≤ℤ◌, ◌<ℤ◌, sym, ap, ◌∙◌, subst, mod-lt, suc-mul, add-mul, div-add-mod', arith}
use lib.IntN.{neg_ℤ-neg_ℤ, zero-*ℤ, pos-*ℤ-pos, negsuc-*ℤ-pos}
use Rattle.std.proofs.lemmas.Int.{ints}
use Rattle.floats.specs.Units.{floor_by}

neg_times : (a : ℤ) (u : ℕ) → neg_ℤ a *ℤ pos u ≡ neg_ℤ (a *ℤ pos u)
neg_times (pos zero) u = zero-*ℤ (pos u) ∙ sym (ap neg_ℤ (zero-*ℤ (pos u)))
neg_times (pos (suc n)) u = negsuc-*ℤ-pos n u ∙ sym (ap neg_ℤ (pos-*ℤ-pos (suc n) u))
neg_times (negsuc n) u = pos-*ℤ-pos (suc n) u ∙ sym (ap neg_ℤ (negsuc-*ℤ-pos n u) ∙ neg_ℤ-neg_ℤ (pos (suc n * u)))

module _ (u : ℕ) (U : 0 < u) where
  pub floor_not_above : (z : ℤ) → (floor_by u z *ℤ pos u) ≤ℤ z
  floor_not_above (pos n) = omega (arith, ints, div-add-mod' n u)
  floor_not_above (negsuc n) = let l = mod-lt n U in omega (arith, ints, div-add-mod' n u, suc-mul (n / u) u)

  pub floor_next : (z : ℤ) → z <ℤ ((floor_by u z +ℤ pos 1) *ℤ pos u)
  floor_next (pos n) = let l = mod-lt n U in omega (arith, ints, div-add-mod' n u, add-mul (n / u) 1 u)
  floor_next (negsuc n) =
      let e : negsuc (n / u) +ℤ pos 1 ≡ neg_ℤ (pos (n / u)) = omega (arith, ints) in
      subst (λ (k : ℤ). negsuc n <ℤ k) (sym (ap (λ (k : ℤ). k *ℤ pos u) e ∙ neg_times (pos (n / u)) u)) (omega (arith, ints, div-add-mod' n u))

  abbrev ceil_by : ℤ → ℤ
  ceil_by z = neg_ℤ (floor_by u (neg_ℤ z))

  pub ceil_not_below : (z : ℤ) → z ≤ℤ (ceil_by z *ℤ pos u)
  ceil_not_below z =
      let h = floor_not_above (neg_ℤ z) in
      subst (λ (k : ℤ). z ≤ℤ k) (sym (neg_times (floor_by u (neg_ℤ z)) u)) (omega (arith, ints))

  pub ceil_next : (z : ℤ) → ((ceil_by z -ℤ pos 1) *ℤ pos u) <ℤ z
  ceil_next z =
      let f = floor_by u (neg_ℤ z) in
      let h = floor_next (neg_ℤ z) in
      let e : neg_ℤ f -ℤ pos 1 ≡ neg_ℤ (f +ℤ pos 1) = omega (arith, ints) in
      subst (λ (k : ℤ). k <ℤ z) (sym (ap (λ (k : ℤ). k *ℤ pos u) e ∙ neg_times (f +ℤ pos 1) u)) (omega (arith, ints))
