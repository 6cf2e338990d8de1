-- One write after another, a list of values written one by one, and bytes written over.
use Rattle.std.proofs.Common.{◌≡◌, ℕ, ◌+◌, ◌<◌, ◌≤◌, List, [], ◌++◌, length, get_or, take, drop, flat_map, sym, refl, ap, ◌∙◌, subst, append_assoc, arith, length-append, take-append-drop}
use Rattle.std.proofs.lemmas.List.{take_more, take_all, take_at, drop_at, flat_map_more, length-take-le, length-drop}
use Rattle.std.proofs.lemmas.List.Folds.{length-flat_map-take}
use Rattle.std.proofs.lemmas.Slice.{take-put_mid}
use borrow.Rule.Slice.PartMut.{put_mid, same_len_mid}
use Rattle.stream_screen.specs.Writes.{WroteIn}

pub wrote_both : {xs ys o p q : List ℕ} {i j k : ℕ} → WroteIn xs o i p j → WroteIn ys p j q k → WroteIn (xs ++ ys) o i q k
wrote_both {xs = xs} {ys = ys} {o = o} {i = i} x y = record {
  adds = y.adds ∙ ap (λ l. l ++ ys) x.adds ∙ append_assoc (take i o) xs ys;
  more = simp length-append (omega arith);
  long = y.long ∙ x.long;
}

-- bytes over the next ones of the buffer
pub wrote_at : (xs ys : List ℕ) (k : ℕ) {o : List ℕ} {u : ℕ} → ys ≡ xs → k ≡ length xs → u + length xs ≤ length o → WroteIn xs o u (put_mid u k o ys) (u + length xs)
wrote_at xs ys k {o = o} {u = u} e n room =
    let same : length ys ≡ length xs = ap length e in
    let rest = length-drop u o in
    record {
      adds = take-put_mid u k o ys (u + length xs) (omega arith) (omega arith) ∙ ap (λ l. take u o ++ l) e;
      more = refl;
      long = same_len_mid u k o ys (same ∙ (sym n ∙ sym (length-take-le k (drop u o) (omega arith))));
    }

-- the value at i, after those before it
module _ {X : Type 0} (bytes : X → List ℕ) (xs : List X) (i : ℕ) where
  pub room_one : (d : X) {o p : List ℕ} {u v : ℕ} → i < length xs → u + length (flat_map bytes xs) ≤ length o
      → WroteIn (flat_map bytes (take i xs)) o u p v → v + length (bytes (get_or xs i d)) ≤ length p
  room_one d h room x = omega (arith, x.more, x.long, length-flat_map-take bytes xs i d h)

  pub wrote_one : (d : X) {o p q : List ℕ} {u v w : ℕ} → i < length xs
      → WroteIn (flat_map bytes (take i xs)) o u p v → WroteIn (bytes (get_or xs i d)) p v q w → WroteIn (flat_map bytes (take (i + 1) xs)) o u q w
  wrote_one d {o = o} {q = q} {u = u} {w = w} h x y =
      subst (λ l. WroteIn l o u q w) (flat_map_more bytes [] (take i xs) (get_or xs i d) ∙ ap (flat_map bytes) (sym (take_more xs i d h))) (wrote_both x y)

  pub wrote_all : {o p : List ℕ} {u v : ℕ} → length xs ≤ i → WroteIn (flat_map bytes (take i xs)) o u p v → WroteIn (flat_map bytes xs) o u p v
  wrote_all {o = o} {p = p} {u = u} {v = v} h x = subst (λ l. WroteIn (flat_map bytes l) o u p v) (take_all i xs h) x

put_mid_over : (a was new rest t : List ℕ) (u k : ℕ) → length a ≡ u → length was ≡ k → put_mid u k ((a ++ (was ++ rest)) ++ t) new ≡ (a ++ (new ++ rest)) ++ t
put_mid_over a was new rest t u k h j =
    let x = take_at a (was ++ (rest ++ t)) u h in
    let y = drop_at a (was ++ (rest ++ t)) u h in
    let z = drop_at was (rest ++ t) k j in
    simp (append_assoc, x, y, z)

-- the first bytes of what was written, written over
pub wrote_over : (was new rest : List ℕ) {o p : List ℕ} {u v k : ℕ} → u ≤ length o → v ≤ length p → length was ≡ k → length new ≡ k
    → WroteIn (was ++ rest) o u p v → WroteIn (new ++ rest) o u (put_mid u k p new) v
wrote_over was new rest {o = o} {p = p} {u = u} {v = v} {k = k} h room i j w =
    let front = length-take-le u o h in
    let split : p ≡ (take u o ++ (was ++ rest)) ++ drop v p = sym (take-append-drop v p) ∙ ap (λ l. l ++ drop v p) w.adds in
    let over = ap (λ l. put_mid u k l new) split ∙ put_mid_over (take u o) was new rest (drop v p) u k front i in
    let long : length (put_mid u k p new) ≡ length p = ap length over ∙ simp length-append (omega (arith, i, j)) ∙ sym (ap length split) in
    let at : length (take u o ++ (new ++ rest)) ≡ v = simp length-append (omega (arith, w.more, length-append was rest)) in
    record {
      adds = ap (take v) over ∙ take_at (take u o ++ (new ++ rest)) (drop v p) v at;
      more = simp length-append (omega (arith, w.more, length-append was rest));
      long = long ∙ w.long;
    }
