-- Every page changed in the same way, one after the other. Assumes nothing.
use Rattle.std.proofs.Common.{◌≡◌, ℕ, ◌+◌, ◌<◌, ◌≤◌, List, [], ◌∷◌, ◌++◌, map, length, get_or, take, drop, set, sym, refl, ap, ◌∙◌, subst, append-nil, arith}
use Rattle.std.proofs.lemmas.List.{length-append, take-append-drop, length-map, take_all, drop_all}
use Rattle.std.proofs.lemmas.List.Edits.{map_over_more}
use Rattle.std.proofs.lemmas.List.Elements.{All-map}
use Rattle.std.specs.List.{All}
use Rattle.pages.specs.Pages.{Page, emptied}
use Rattle.atlas_pages.specs.AllPages.{blank}
use Rattle.atlas_pages.specs.Sets.{numbers, page_numbers, Fits}

-- of the pages xs, the first i are changed by f
module _ (f : Page → Page) (xs : List Page) where
  abbrev pub changed_to : ℕ → List Page
  changed_to i = map f (take i xs) ++ drop i xs

  pub same_length : (ys : List Page) (i : ℕ) → ys ≡ changed_to i → length ys ≡ length xs
  same_length ys i e =
      ap length e ∙ length-append (map f (take i xs)) (drop i xs) ∙ ap (λ n. n + length (drop i xs)) (length-map (take i xs) f)
      ∙ sym (length-append (take i xs) (drop i xs)) ∙ ap length (take-append-drop i xs)

  pub changed_more : (ys : List Page) (i : ℕ) (x y : Page) → i < length xs → ys ≡ changed_to i → x ≡ get_or ys i x → y ≡ f x → set ys i y ≡ changed_to (i + 1)
  changed_more ys i x y h inv is e = ap (set ys i) e ∙ map_over_more f xs ys i x h inv is

  pub all_changed : (i : ℕ) → length xs ≤ i → changed_to i ≡ map f xs
  all_changed i h =
      ap (λ l. map f l ++ drop i xs) (take_all i xs h) ∙ ap (λ l. map f xs ++ l) (drop_all i xs h) ∙ append-nil _

-- what keeps the number of each page keeps those of all
module _ (f : Page → Page) (keeps : (p : Page) → (f p).number ≡ p.number) where
  numbers_kept : (ps : List Page) → numbers (map f ps) ≡ numbers ps
  numbers_kept [] = refl
  numbers_kept (p ∷ ps) = λ i. keeps p i ∷ numbers_kept ps i

  pub still_numbered : (xs ys : List Page) → numbers xs ≡ page_numbers → ys ≡ map f xs → numbers ys ≡ page_numbers
  still_numbered xs ys n e = ap numbers e ∙ (numbers_kept xs ∙ n)

emptied_blank : (ps : List Page) → map emptied ps ≡ map blank (numbers ps)
emptied_blank [] = refl
emptied_blank (p ∷ ps) = ap (λ l. emptied p ∷ l) (emptied_blank ps)

-- emptied pages are those of an unused atlas
pub all_blank : (xs ys : List Page) → numbers xs ≡ page_numbers → ys ≡ map emptied xs → ys ≡ map blank page_numbers
all_blank xs ys n e = e ∙ (emptied_blank xs ∙ ap (map blank) n)

-- emptied pages hold no more than they may
pub emptied_fit : (xs ys : List Page) → ys ≡ map emptied xs → All Fits ys
emptied_fit xs ys e = subst (All Fits) (sym e) (All-map Fits emptied xs (λ k d l. omega arith))

-- nor do those of an unused atlas
pub blank_fit : (ns : List ℕ) → All Fits (map blank ns)
blank_fit ns = All-map Fits blank ns (λ k d l. omega arith)
