-- Edges that are cut to 32 bits give the same size and bearings. Assumes nothing.
use Rattle.std.proofs.Common.{◌≡◌, ℕ, ◌-◌, ◌^◌, ◌<◌, ◌≤◌, min, true, false, ℤ, pos, negsuc, ◌+ℤ◌, ◌-ℤ◌, ◌≤ℤ◌, Err, sym, refl, ap, ◌∙◌, inl, inr, eq-zero-or-pos, arith}
use lib.IntN.{+ℤ_idr}
use Rattle.std.proofs.lemmas.Bool.{cases_Bool}
use Rattle.std.specs.Int.{saturate_to_bits}
use Rattle.std.proofs.lemmas.Int.{ints}
use Rattle.raster.specs.declared.fault.RasterFault.TheVariants.{Metrics}
use Rattle.raster.specs.Metric.{is_extent, is_bearing, extent_of, bearing_of, from_edges}
use Rattle.raster.proofs.Edges.{joined, by_parts, no_left, no_top}

extent_no : (z : ℤ) → is_extent z ≡ false → extent_of z ≡ Err Metrics
extent_no z e = rw e refl

sat_pos : (n : ℕ) → n < 2 ^ 31 → saturate_to_bits 31 (pos n) ≡ pos n
sat_pos n h = ap pos {x = min n (2 ^ 31 - 1)} {y = n} (omega arith)

sat_neg : (n : ℕ) → n < 2 ^ 31 → saturate_to_bits 31 (negsuc n) ≡ negsuc n
sat_neg n h = ap negsuc {x = min n (2 ^ 31 - 1)} {y = n} (omega arith)

sat_bearing : (z : ℤ) → bearing_of (saturate_to_bits 31 z) ≡ bearing_of z
sat_bearing (pos n) =
    elim (eq-zero-or-pos (n - (2 ^ 31 - 1))) [
      | inl z ↦ ap bearing_of (sat_pos n (omega arith))
      | inr p ↦
          let a : is_bearing (saturate_to_bits 31 (pos n)) ≡ false = grind (arith, ints) in
          let b : is_bearing (pos n) ≡ false = grind (arith, ints) in
          rw (a, b) refl
    ]
sat_bearing (negsuc n) =
    elim (eq-zero-or-pos (n - (2 ^ 31 - 1))) [
      | inl z ↦ ap bearing_of (sat_neg n (omega arith))
      | inr p ↦
          let a : is_bearing (saturate_to_bits 31 (negsuc n)) ≡ false = grind (arith, ints) in
          let b : is_bearing (negsuc n) ≡ false = grind (arith, ints) in
          rw (a, b) refl
    ]

sat_extent : (l r : ℤ) (k : ℕ) → k ≤ 1 → negsuc 32767 ≤ℤ l → l ≤ℤ pos 32767 → extent_of (saturate_to_bits 31 r +ℤ pos k -ℤ l) ≡ extent_of (r +ℤ pos k -ℤ l)
sat_extent l (pos n) k q h g =
    elim (eq-zero-or-pos (n - (2 ^ 31 - 1))) [
      | inl z ↦ ap (λ (y : ℤ). extent_of (y +ℤ pos k -ℤ l)) (sat_pos n (omega arith))
      | inr p ↦
          extent_no (saturate_to_bits 31 (pos n) +ℤ pos k -ℤ l) (grind (arith, ints))
          ∙ sym (extent_no (pos n +ℤ pos k -ℤ l) (grind (arith, ints)))
    ]
sat_extent l (negsuc n) k q h g =
    elim (eq-zero-or-pos (n - (2 ^ 31 - 1))) [
      | inl z ↦ ap (λ (y : ℤ). extent_of (y +ℤ pos k -ℤ l)) (sat_neg n (omega arith))
      | inr p ↦
          extent_no (saturate_to_bits 31 (negsuc n) +ℤ pos k -ℤ l) (grind (arith, ints))
          ∙ sym (extent_no (negsuc n +ℤ pos k -ℤ l) (grind (arith, ints)))
    ]

bearing_no : (z : ℤ) → is_bearing z ≡ false → bearing_of z ≡ Err Metrics
bearing_no z e = rw e refl

sat_same : (z : ℤ) → is_bearing z ≡ true → saturate_to_bits 31 z ≡ z
sat_same (pos n) h = sat_pos n (grind (arith, ints))
sat_same (negsuc n) h = sat_neg n (grind (arith, ints))

sat_size : (l r : ℤ) → is_bearing l ≡ true → extent_of (saturate_to_bits 31 r +ℤ pos 1 -ℤ saturate_to_bits 31 l) ≡ extent_of (r +ℤ pos 1 -ℤ l)
sat_size l r h = ap (λ (z : ℤ). extent_of (saturate_to_bits 31 r +ℤ pos 1 -ℤ z)) (sat_same l h) ∙ sat_extent l r 1 (omega arith) (grind (arith, ints)) (grind (arith, ints))

sat_height : (t b : ℤ) → is_bearing t ≡ true → extent_of (saturate_to_bits 31 b -ℤ saturate_to_bits 31 t) ≡ extent_of (b -ℤ t)
sat_height t b h =
    ap (λ (z : ℤ). extent_of (saturate_to_bits 31 b -ℤ z)) (sat_same t h)
    ∙ ap (λ (z : ℤ). extent_of (z -ℤ t)) (sym (+ℤ_idr (saturate_to_bits 31 b)))
    ∙ sat_extent t b 0 (omega arith) (grind (arith, ints)) (grind (arith, ints))
    ∙ ap (λ (z : ℤ). extent_of (z -ℤ t)) (+ℤ_idr b)

-- where a bearing is refused, so is its cut
module _ (l r t b : ℤ) where
  pub edges_cut : from_edges (saturate_to_bits 31 l) (saturate_to_bits 31 r +ℤ pos 1) (saturate_to_bits 31 t) (saturate_to_bits 31 b) ≡ from_edges l (r +ℤ pos 1) t b
  edges_cut =
      let L = saturate_to_bits 31 l in
      let R = saturate_to_bits 31 r in
      let H = saturate_to_bits 31 t in
      let B = saturate_to_bits 31 b in
      elim (cases_Bool (is_bearing l)) [
        | inr x ↦
            no_left L (R +ℤ pos 1) H B Metrics (sat_bearing l ∙ bearing_no l x)
            ∙ sym (no_left l (r +ℤ pos 1) t b Metrics (bearing_no l x))
        | inl x ↦ elim (cases_Bool (is_bearing t)) [
          | inr y ↦
              no_top L (R +ℤ pos 1) H B Metrics (sat_bearing t ∙ bearing_no t y)
              ∙ sym (no_top l (r +ℤ pos 1) t b Metrics (bearing_no t y))
          | inl y ↦
              sym (by_parts L (R +ℤ pos 1) H B)
              ∙ (λ i. joined (sat_size l r x i) (sat_height t b y i) (sat_bearing l i) (sat_bearing t i))
              ∙ by_parts l (r +ℤ pos 1) t b
        ]
      ]
