-- What is said of the answer of any call. Assumes nothing.
--     refused_with number r    the number of the refusal, if the answer r is one
--     KeepsRefused r x y       a call answered with r: where r is a refusal, what was x before the call is the same, y, after it
--     none xs                  the list is empty
use Rattle.std.specs.Prelude.{◌≡◌, ℕ, Bool, true, false, List, [], ◌∷◌, Some, None, Ok, Err, Option, Result}

abbrev pub refused_with : {R E : Type 0} → (E → ℕ) → Result R E → Option ℕ
refused_with number (Ok r) = None
refused_with number (Err e) = Some (number e)

abbrev pub KeepsRefused : {R E X : Type 0} → Result R E → X → X → Type 0
KeepsRefused (Ok r) x y = Unit {0}
KeepsRefused (Err e) x y = y ≡ x

abbrev pub none : {X : Type 0} → List X → Bool
none [] = true
none (x ∷ xs) = false
