-- What the library's searches find is the first that passes.
use Rattle.std.proofs.Common.{◌≡◌, ℕ, ◌<◌, ◌≤◌, Bool, true, false, List, length, take, Some, None, Option, sym, ap, ◌∙◌, arith}
use Rattle.std.specs.List.{AllWithin, HoldsAt}
use Rattle.std.specs.Option.{MatchOption, option_map}
use Rattle.std.specs.Prelude.{slice_index_or}
use Rattle.std.proofs.lemmas.List.{get_or-take, length-take-le}
use Rattle.shelf_cache.specs.Rows.{first_below, FirstBelow}
use Rattle.shelf_cache.specs.First.{first_is}

-- what `find` says of a range
pub first_in_range : (p : ℕ → Bool) (n : ℕ) (r : Option ℕ)
    → MatchOption r ((k : ℕ) → 0 ≤ k → k < n → p k ≡ false) (λ i. (0 ≤ i) × (i < n) × (p i ≡ true) × ((k : ℕ) → 0 ≤ k → k < i → p k ≡ false)) → FirstBelow p n r
first_in_range p n None f = λ k l. f k (omega arith) l
first_in_range p n (Some i) f = (f.1, f.2, λ k l. f.3 k (omega arith) l)

-- what `position` says of the first n of a list
pub first_in_list : {X : Type 0} (p : X → Bool) (xs : List X) (n : ℕ) (d : X) (r : Option ℕ) → n ≤ length xs
    → MatchOption r (AllWithin (λ x. p x ≡ false) (take n xs) 0 (length (take n xs)))
    (λ i. (i < length (take n xs)) × HoldsAt (λ x. p x ≡ true) (take n xs) i × AllWithin (λ x. p x ≡ false) (take n xs) 0 i)
    → FirstBelow (λ k. p (slice_index_or xs k d)) n r
first_in_list p xs n d None l f = λ k m. ap p (sym (get_or-take n xs k d m)) ∙ f k d (omega arith) (omega (arith, length-take-le n xs l))
first_in_list p xs n d (Some i) l f =
    let m : i < n = omega (arith, f.0, length-take-le n xs l) in
    (m, ap p (sym (get_or-take n xs i d m)) ∙ f.1 d, λ k j. ap p (sym (get_or-take n xs k d (omega arith))) ∙ f.2 k d (omega arith) j)

-- what is made of the first that passes
pub map_first : {X : Type 0} (f : ℕ → X) (p : ℕ → Bool) (n : ℕ) (r : Option ℕ) → FirstBelow p n r → option_map f r ≡ option_map f (first_below p n)
map_first f p n r h = ap (option_map f) (sym (first_is p n r h))
