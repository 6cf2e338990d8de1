-- `to24` rounds to nearest, ties to even. Assumes nothing.
use Rattle.std.proofs.Common.{◌≡◌, ℕ, suc, ◌+◌, ◌-◌, ◌*◌, ◌/◌, ◌%◌, ◌^◌, ◌<◌, ◌≤◌, not, T, eqb, ◌⊎◌, sym, refl, subst, inl, inr, le_trans, mod-lt, suc-mul, eq-zero-or-pos, div-add-mod', arith, eqb→eq, leb→le, pow_pos}
use Prim.Native.Nat.{compare, Ordering}
use lib.Dec.{is_le, compare_is_eq, nleb→lt, eqb_refl}
use lib.Arith.{lt_of_le-ne}
use lib.Ieee.{size, nearest}
use lib.Ieee.Fits.{kept-lt, nearest-le}
use lib.Ieee.Nearest.{closest}
use Rattle.glyph_key.specs.Bucket.{to24, ToNearest}

abbrev Cmp : Ordering → ℕ → ℕ → Type 0
Cmp Ordering.lt a b = a < b
Cmp Ordering.eq a b = a ≡ b
Cmp Ordering.gt a b = b < a

cmp : (a b : ℕ) → Cmp (compare a b) a b
cmp a b = go (compare a b) (leb→le a b) (nleb→lt a b) (eqb→eq a b) (λ (e : a ≡ b). subst (λ (x : ℕ). T (eqb a x)) e (eqb_refl a))
  where
    go : (o : Ordering) → (T (is_le o) → a ≤ b) → (T (not (is_le o)) → b < a) → (T (compare_is_eq o) → a ≡ b) → (a ≡ b → T (compare_is_eq o)) → Cmp o a b
    go Ordering.lt h k e n = lt_of_le-ne (h tt) n
    go Ordering.eq h k e n = e tt
    go Ordering.gt h k e n = k tt

abbrev Near : ℕ → ℕ → ℕ → Type 0
Near n d q = (2 * (q * d) ≤ 2 * n + d) × (2 * n ≤ 2 * (q * d) + d) × ((2 * n ≡ 2 * (q * d) + d) ⊎ (2 * (q * d) ≡ 2 * n + d) → q % 2 ≡ 0)

near : (n d w r : ℕ) (o : Ordering) → 0 < d → w * d + r ≡ n → r < d → Cmp o (r * 2) d → Near n d (nearest w o)
near n d w r Ordering.lt D e l c = (omega arith, omega arith, λ s. elim s [ inl x ↦ absurd (omega arith) | inr x ↦ absurd (omega arith) ])
near n d w r Ordering.gt D e l c = let m = suc-mul w d in (omega arith, omega arith, λ s. elim s [ inl x ↦ absurd (omega arith) | inr x ↦ absurd (omega arith) ])
near n d w r Ordering.eq D e l c =
    elim (eq-zero-or-pos (w % 2)) [
      | inl z ↦
          let q : w + w % 2 ≡ w = omega arith in
          subst (λ (k : ℕ). Near n d k) (sym q) (omega arith, omega arith, λ s. z)
      | inr p ↦
          let q : w + w % 2 ≡ suc w = omega arith in
          let m = suc-mul w d in
          subst (λ (k : ℕ). Near n d k) (sym q) (omega arith, omega arith, λ s. omega arith)
    ]

pub to_nearest : ToNearest
unfolding to24
to_nearest n =
    let k = size n - 24 in
    let d = 2 ^ k in
    let c = near n d (n / d) (n % d) (compare (n % d * 2) d) (pow_pos k) (div-add-mod' n d) (mod-lt n (pow_pos k)) (cmp (n % d * 2) d) in
    (closest n d, record { is = refl; short = le_trans (nearest-le (n / d) (compare (n % d * 2) d)) (kept-lt 24 n); not_above = c.0; not_below = c.1; even = c.2 })
