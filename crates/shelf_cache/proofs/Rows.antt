-- A table after one place of it was written.
use Rattle.std.proofs.Common.{◌≡◌, ℕ, ◌<◌, List, length, get_or, set, sym, subst, ⊎_elim}
use Rattle.std.proofs.lemmas.List.{get_or-set_same, get_or-set_other}
use Rattle.std.proofs.lemmas.Bool.{cases_eq}

-- what holds of the new element at its place, and of each other at its own, holds of all
pub by_row : {X : Type 0} (P : ℕ → X → Type 0) (xs : List X) (at : ℕ) (x d : X) → at < length xs → P at x → ((k : ℕ) → (k ≡ at → ⊥) → P k (get_or xs k d)) → (k : ℕ) → P k (get_or (set xs at x) k d)
by_row {X} P xs at x d l here other k =
    ⊎_elim
    (λ e.
    let Q : ℕ → Type 0 = λ j. P j (get_or (set xs at x) j d) in
    let R : X → Type 0 = λ y. P at y in
    subst Q (sym e) (subst R (sym (get_or-set_same xs at x d l)) here))
    (λ ne. let R : X → Type 0 = λ y. P k y in subst R (sym (get_or-set_other xs at k x d ne)) (other k ne))
    (cases_eq k at)

-- back from the new table to the old one
pub back_row : {X : Type 0} (P : ℕ → X → Type 0) (xs : List X) (at : ℕ) (x d : X) (k : ℕ) → (k ≡ at → ⊥) → P k (get_or (set xs at x) k d) → P k (get_or xs k d)
back_row {X} P xs at x d k ne h = let R : X → Type 0 = λ y. P k y in subst R (get_or-set_other xs at k x d ne) h

pub here_row : {X : Type 0} (P : X → Type 0) (xs : List X) (at : ℕ) (x d : X) → at < length xs → P (get_or (set xs at x) at d) → P x
here_row {X} P xs at x d l h = subst P (get_or-set_same xs at x d l) h
