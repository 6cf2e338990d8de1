-- Sums of two fractions of one denominator, as `lib.Ieee` rounds them: of unlike signs, and over another denominator. Assumes nothing.
use Rattle.std.proofs.Common.{◌≡◌, ℕ, ◌+◌, ◌-◌, ◌*◌, ◌<◌, Bool, false, cond, ◌&&◌, ltb, sym, refl, ap, ◌∙◌, add-mul, arith, lt-ltb}
use mathlib.Core.Bool.{beq}
use lib.Ieee.{Format, round, sum}
use lib.Ieee.Scale.{round_same}
use Rattle.floats.proofs.Scaling.{ltb_scale, sub_scale}

opened : (f : Format) (s t : Bool) (a b c : ℕ) → sum f s a t b c ≡ cond (beq s t) (round f s (a + b) c) (cond (ltb a b) (round f t (b - a) c) (round f (s && ltb b a) (a - b) c))
unfolding sum
opened f s t a b c = refl

pub sum_less : (f : Format) (s t : Bool) (a b c : ℕ) → beq s t ≡ false → a < b → sum f s a t b c ≡ round f t (b - a) c
sum_less f s t a b c e h =
    opened f s t a b c
    ∙ ap (λ (x : Bool). cond x (round f s (a + b) c) (cond (ltb a b) (round f t (b - a) c) (round f (s && ltb b a) (a - b) c))) e
    ∙ ap (λ (x : Bool). cond x (round f t (b - a) c) (round f (s && ltb b a) (a - b) c)) (lt-ltb a b h)

-- the same two fractions over the denominators c and d
pub sum_same : (f : Format) (s t : Bool) (a b c m n d : ℕ) → 0 < c → 0 < d → a * d ≡ m * c → b * d ≡ n * c → sum f s a t b c ≡ sum f s m t n d
sum_same f s t a b c m n d C D p q =
    let like : round f s (a + b) c ≡ round f s (m + n) d = round_same f s (a + b) c (m + n) d C D (omega (arith, add-mul a b d, add-mul m n c)) in
    let less : round f t (b - a) c ≡ round f t (n - m) d = round_same f t (b - a) c (n - m) d C D (sub_scale d c D C b a n m q p) in
    let more : round f (s && ltb b a) (a - b) c ≡ round f (s && ltb n m) (m - n) d =
    ap (λ (x : Bool). round f (s && x) (a - b) c) (ltb_scale d c D C b a n m q p)
    ∙ round_same f (s && ltb n m) (a - b) c (m - n) d C D (sub_scale d c D C a b m n p q) in
    opened f s t a b c
    ∙ (λ i. cond (beq s t) (like i) (cond (ltb_scale d c D C a b m n p q i) (less i) (more i)))
    ∙ sym (opened f s t m n d)
