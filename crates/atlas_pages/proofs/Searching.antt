-- Whether some page passes a test, decided page by page; and the pages that pass, from a place on. Assumes nothing.
use Rattle.std.proofs.Common.{◌≡◌, ℕ, ◌+◌, ◌<◌, ◌≤◌, Bool, true, false, cond, not, ◌&&◌, ◌||◌, List, [], ◌∷◌, length, get_or, drop, filter, sym, refl, ap, ◌∙◌}
use Rattle.std.proofs.lemmas.List.{at_drop_more, drop_all}
use Rattle.std.specs.List.{list_any, list_all}
use Rattle.shapes.specs.Answers.{none}
use Rattle.pages.specs.Pages.{Page}

one_passes : (b r : Bool) (x : Page) (ps : List Page) → r ≡ not (none ps) → (b || r) ≡ not (none (cond b (x ∷ ps) ps))
one_passes true r x ps e = refl
one_passes false r x ps e = e

pub any_passes : (p : Page → Bool) (xs : List Page) → list_any p xs ≡ not (none (filter p xs))
any_passes p [] = refl
any_passes p (x ∷ xs) = one_passes (p x) (list_any p xs) x (filter p xs) (any_passes p xs)

one_fails : (b r : Bool) (x : Page) (ps : List Page) → r ≡ none ps → (b && r) ≡ none (cond (not b) (x ∷ ps) ps)
one_fails true r x ps e = e
one_fails false r x ps e = refl

pub all_pass : (p : Page → Bool) (xs : List Page) → list_all p xs ≡ none (filter (λ x. not (p x)) xs)
all_pass p [] = refl
all_pass p (x ∷ xs) = one_fails (p x) (list_all p xs) x (filter (λ y. not (p y)) xs) (all_pass p xs)

module _ (p : Page → Bool) (xs : List Page) where
  abbrev pub passing_from : ℕ → List Page
  passing_from i = filter p (drop i xs)

  pub passing_more : (i : ℕ) (x : Page) → i < length xs → x ≡ get_or xs i x → passing_from i ≡ cond (p x) (x ∷ passing_from (i + 1)) (passing_from (i + 1))
  passing_more i x h is =
      at_drop_more (filter p) xs i x h ∙ ap (λ z. filter p (z ∷ drop (i + 1) xs)) (sym is)

  pub passing_here : (i : ℕ) (x : Page) → i < length xs → x ≡ get_or xs i x → p x ≡ true → passing_from i ≡ x ∷ passing_from (i + 1)
  passing_here i x h is e = passing_more i x h is ∙ ap (λ b. cond b (x ∷ passing_from (i + 1)) (passing_from (i + 1))) e

  pub passing_later : (i : ℕ) (x : Page) → i < length xs → x ≡ get_or xs i x → p x ≡ false → passing_from i ≡ passing_from (i + 1)
  passing_later i x h is e = passing_more i x h is ∙ ap (λ b. cond b (x ∷ passing_from (i + 1)) (passing_from (i + 1))) e

  pub passing_none : (i : ℕ) → length xs ≤ i → passing_from i ≡ []
  passing_none i h = ap (filter p) (drop_all i xs h)
