-- The first place that opens is below the last shelf of the first page with room.
use Rattle.std.specs.Prelude.{◌≡◌, ℕ, zero, suc, ◌+◌, ◌-◌, ◌*◌, ◌/◌, ◌%◌, ◌<◌, ◌≤◌, true, false, cond, List, refl}
use Rattle.std.proofs.Common.{sym, ap, subst, ◌∙◌, arith}
use Rattle.std.proofs.lemmas.Bool.{eq-eqb, ne_eqb, both_ways}
use Rattle.std.proofs.lemmas.Bool.Decides.{nat_tests}
use Rattle.shelf_cache.specs.declared.shelf.Shelf.{Shelf}
use Rattle.shelf_cache.specs.Rows.{shelf_at, on_page}
use Rattle.shelf_cache.specs.Places.{opens_at, end_above, end_of_last, RoomOn, FirstPage}

-- the end of the shelf above, by page and number
end_same : (shelves : List Shelf) (s r : ℕ) → s % 16 ≡ r → end_above shelves s ≡ end_of_last shelves (s / 16) r
end_same shelves s zero e = ap (λ b. cond b 0 ((shelf_at shelves (s - 1)).top + (shelf_at shelves (s - 1)).height)) (eq-eqb (s % 16) 0 e)
end_same shelves s (suc k) e =
    let q : s - 1 ≡ 16 * (s / 16) + k = omega arith in
    ap (λ b. cond b 0 ((shelf_at shelves (s - 1)).top + (shelf_at shelves (s - 1)).height)) (ne_eqb (s % 16) 0 (λ z. omega arith))
    ∙ ap (λ n. (shelf_at shelves n).top + (shelf_at shelves n).height) q

-- what the test of a place says
pub record Opens (count height h : ℕ) (shelves : List Shelf) (standing : List ℕ) (s : ℕ) : Type 0 where
  pub paged : s < 16 * count
  pub next : s % 16 ≡ on_page standing (s / 16)
  pub left : end_above shelves s + h ≤ height

-- of any sizes and tables, whether shelves hold them or not
module _ (count height h : ℕ) (shelves : List Shelf) (standing : List ℕ) where
  pub opens_is : (s : ℕ) → opens_at count height h shelves standing s ≡ true → Opens count height h shelves standing s
  opens_is s t =
      let o : (s < 16 * count) × (s % 16 ≡ on_page standing (s / 16)) × (end_above shelves s + h ≤ height) = grind (arith, nat_tests) in
      record { paged = o.0; next = o.1; left = o.2 }

  room_of : (s : ℕ) → Opens count height h shelves standing s → RoomOn count height h shelves standing (s / 16) (s % 16)
  room_of s o =
      let P : ℕ → Type 0 = λ n. n + h ≤ height in
      record { there = omega (arith, o.paged); has = sym o.next; under = omega arith; left = subst P (end_same shelves s (s % 16) refl) o.left }

  room_opens : (q n : ℕ) → RoomOn count height h shelves standing q n → opens_at count height h shelves standing (16 * q + n) ≡ true
  room_opens q n r =
      let u = r.under in
      let d : (16 * q + n) / 16 ≡ q = omega arith in
      let m : (16 * q + n) % 16 ≡ n = omega arith in
      let e : end_above shelves (16 * q + n) ≡ end_of_last shelves q n = end_same shelves (16 * q + n) n m ∙ ap (λ p. end_of_last shelves p n) d in
      let P : ℕ → Type 0 = λ k. k + h ≤ height in
      let has : on_page standing ((16 * q + n) / 16) ≡ n = ap (on_page standing) d ∙ r.has in
      let left : end_above shelves (16 * q + n) + h ≤ height = subst P (sym e) r.left in
      let there = r.there in
      grind (arith, nat_tests)

  pub first_page : (s : ℕ) → opens_at count height h shelves standing s ≡ true → ((t : ℕ) → t < s → opens_at count height h shelves standing t ≡ false) → FirstPage count height h shelves standing s
  first_page s t none = record {
    room = room_of s (opens_is s t);
    below = end_same shelves s (s % 16) refl;
    none_earlier = λ q n l r. both_ways (opens_at count height h shelves standing (16 * q + n)) (none (16 * q + n) (omega (arith, r.under))) (room_opens q n r);
  }
