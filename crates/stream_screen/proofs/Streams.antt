-- Records, one after the other, read back as their calls.
use Rattle.std.proofs.Common.{◌≡◌, ℕ, zero, suc, ◌<◌, ◌≤◌, List, [], ◌∷◌, ◌++◌, length, take, drop, sym, refl, ap, ◌∙◌, subst, append_assoc, append-nil, arith, lit≤, rules, length-append}
use Rattle.std.proofs.lemmas.List.Concat.{flat_map-append}
use lib.Seq.{take-append_seam, drop-append_seam}
use Rattle.interface.specs.declared.call.Call.{Call}
use Rattle.stream_screen.specs.Stream.{bytes_of, framed, kind_of, payload_of, record_of, stream_of}
use Rattle.stream_screen.specs.Reads.{number_of, call_of, read, calls_in, Whole}
use Rattle.stream_screen.specs.Writes.{FitsCall, WroteIn}
use Rattle.stream_screen.specs.Laws.{Fit, ReadsBack, Short}
use Rattle.stream_screen.proofs.Back.{number_back, call_back}

-- the head of a record is within its two times two bytes
payload_small : (c : Call) → length (payload_of c) ≤ 48
payload_small c = search rules

kind_small : (c : Call) → kind_of c ≤ 16
kind_small c = search rules

read_framed : (n k : ℕ) (p rest : List ℕ) → length p < 65536 → k < 65536 → read (suc n) (framed k p ++ rest) ≡ call_of k p ++ read n rest
read_framed n k p rest h j =
    ap (λ m. call_of (number_of (bytes_of 2 k)) (take m (p ++ rest)) ++ read n (drop m (p ++ rest))) (number_back 2 (length p) h)
    ∙ ap (λ m. call_of m (take (length p) (p ++ rest)) ++ read n (drop (length p) (p ++ rest))) (number_back 2 k j)
    ∙ ap (λ q. call_of k q ++ read n (drop (length p) (p ++ rest))) (take-append_seam p rest)
    ∙ ap (λ q. call_of k p ++ read n q) (drop-append_seam p rest)

read_record : (n : ℕ) (c : Call) (rest : List ℕ) → read (suc n) (record_of c ++ rest) ≡ call_of (kind_of c) (payload_of c) ++ read n rest
read_record n c rest =
    read_framed n (kind_of c) (payload_of c) rest (omega (arith, payload_small c)) (omega (arith, kind_small c))

read_none : (n : ℕ) → read n [] ≡ []
read_none zero = refl
read_none (suc n) = refl

-- one record more, whatever is read at most, if it is no less than there is
read_more : (cs : List Call) (m n : ℕ) (d : Call) → length cs ≤ m → length cs < n → read n (stream_of cs ++ record_of d) ≡ read m (stream_of cs) ++ call_of (kind_of d) (payload_of d)
read_more [] m zero d h k = absurd (omega arith)
read_more [] m (suc n) d h k =
    let x = call_of (kind_of d) (payload_of d) in
    ap (read (suc n)) (sym (append-nil (record_of d)))
    ∙ read_record n d []
    ∙ ap (λ l. x ++ l) (read_none n)
    ∙ append-nil x
    ∙ ap (λ l. l ++ x) (sym (read_none m))
read_more (c ∷ cs) zero n d h k = absurd (omega arith)
read_more (c ∷ cs) (suc m) zero d h k = absurd (omega arith)
read_more (c ∷ cs) (suc m) (suc n) d h k =
    let x = call_of (kind_of c) (payload_of c) in
    let y = call_of (kind_of d) (payload_of d) in
    ap (read (suc n)) (append_assoc (record_of c) (stream_of cs) (record_of d))
    ∙ read_record n c (stream_of cs ++ record_of d)
    ∙ ap (λ l. x ++ l) (read_more cs m n d (omega arith) (omega arith))
    ∙ sym (append_assoc x (read m (stream_of cs)) y)
    ∙ ap (λ l. l ++ y) (sym (read_record m c (stream_of cs)))

record_long : (c : Call) → 4 ≤ length (record_of c)
record_long c = omega arith

stream_long : (cs : List Call) → length cs ≤ length (stream_of cs)
stream_long [] = lit≤ tt
stream_long (c ∷ cs) = omega (arith, length-append (record_of c) (stream_of cs), record_long c, stream_long cs)

module _ (bs : List ℕ) (d : Call) (whole : Whole bs) (fits : FitsCall d) where
  pub calls_more : calls_in (bs ++ record_of d) ≡ calls_in bs ++ d ∷ []
  calls_more =
      let cs = calls_in bs in
      let n = length (bs ++ record_of d) in
      let few : length cs ≤ length bs = omega (arith, stream_long cs, ap length whole) in
      let less : length cs < n = omega (arith, length-append bs (record_of d), record_long d) in
      ap (λ l. read n (l ++ record_of d)) whole
      ∙ read_more cs (length bs) n d few less
      ∙ ap (λ l. read (length bs) l ++ call_of (kind_of d) (payload_of d)) (sym whole)
      ∙ ap (λ l. calls_in bs ++ l) (call_back d fits)

  pub whole_more : Whole (bs ++ record_of d)
  whole_more =
      ap (λ l. l ++ record_of d) whole
      ∙ ap (λ l. stream_of (calls_in bs) ++ l) (sym (append-nil (record_of d)))
      ∙ sym (flat_map-append record_of (calls_in bs) (d ∷ []))
      ∙ ap stream_of (sym calls_more)

pub record_short : Short
record_short c = omega (arith, payload_small c)

read_all : (cs : List Call) (n : ℕ) → length cs ≤ n → Fit cs → read n (stream_of cs) ≡ cs
read_all [] n h fit = read_none n
read_all (c ∷ cs) zero h fit = absurd (omega arith)
read_all (c ∷ cs) (suc n) h fit =
    read_record n c (stream_of cs)
    ∙ ap (λ l. l ++ read n (stream_of cs)) (call_back c fit.0)
    ∙ ap (λ l. c ∷ l) (read_all cs n (omega arith) fit.1)

pub reads_back : ReadsBack
reads_back cs fit = read_all cs (length (stream_of cs)) (stream_long cs) fit

-- a record more in a buffer
module _ (o p : List ℕ) (i j : ℕ) (d : Call) (whole : Whole (take i o)) (fits : FitsCall d) (wrote : WroteIn (record_of d) o i p j) where
  pub calls_added : calls_in (take j p) ≡ calls_in (take i o) ++ d ∷ []
  calls_added = ap calls_in wrote.adds ∙ calls_more (take i o) d whole fits

  pub whole_added : Whole (take j p)
  whole_added = subst Whole (sym wrote.adds) (whole_more (take i o) d whole fits)
