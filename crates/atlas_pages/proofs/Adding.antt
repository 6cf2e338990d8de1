-- A page to which commands may be added: it keeps its number, and has places where no page is crowded. Assumes nothing.
use Rattle.std.proofs.Common.{◌≡◌, ℕ, zero, suc, ◌-◌, ◌<◌, Bool, true, false, cond, not, eqb, List, [], ◌∷◌, ◌++◌, map, length, get_or, take, drop, filter, sym, refl, ap, ◌∙◌, subst, arith, rules}
use Rattle.std.proofs.lemmas.List.{places, length-map, length-take-le, length-append}
use Rattle.std.proofs.lemmas.List.Elements.{All-map}
use Rattle.std.proofs.lemmas.Bool.{ltb-false}
use Rattle.std.specs.List.{All}
use Rattle.shapes.specs.Answers.{none}
use Rattle.interface.specs.declared.values.AtlasCommand.{AtlasCommand}
use Rattle.pages.specs.Pages.{Page, with_more}
use Rattle.atlas_pages.specs.AllPages.{add_commands, crowded, any_crowded}
use Rattle.atlas_pages.specs.Sets.{Fits}
use Rattle.atlas_pages.proofs.Changing.{changed_to}

by_test : (b : Bool) (cs : List AtlasCommand) (p : Page) → (cond b (with_more p cs) p).number ≡ p.number
by_test true cs p = refl
by_test false cs p = refl

pub same_number : (n : ℕ) (cs : List AtlasCommand) (p : Page) → (add_commands n cs p).number ≡ p.number
same_number n cs p = by_test (eqb n p.number) cs p

-- where no page is crowded, none is
head_of : (b : Bool) (p : Page) (ps : List Page) → not (none (cond b (p ∷ ps) ps)) ≡ false → b ≡ false
head_of true p ps h = h
head_of false p ps h = refl

tail_of : (b : Bool) (p : Page) (ps : List Page) → not (none (cond b (p ∷ ps) ps)) ≡ false → not (none ps) ≡ false
tail_of true p ps h = let z : true ≡ false = h in cc
tail_of false p ps h = h

pub none_crowded : (ps : List Page) (i : ℕ) (d : Page) → i < length ps → any_crowded ps ≡ false → crowded (get_or ps i d) ≡ false
none_crowded [] i d h e = absurd (omega arith)
none_crowded (p ∷ ps) zero d h e = head_of (crowded p) p (filter crowded ps) e
none_crowded (p ∷ ps) (suc i) d h e = none_crowded ps i d (omega arith) (tail_of (crowded p) p (filter crowded ps) e)

-- the page at the place that was come to is as it was
here_unchanged : (f : Page → Page) (ps : List Page) (i : ℕ) (d : Page) → i < length ps → get_or (map f (take i ps) ++ drop i ps) i d ≡ get_or ps i d
here_unchanged f ps i d h =
    let l : length (map f (take i ps)) ≡ i = length-map (take i ps) f ∙ length-take-le i ps (omega arith) in
    search (rules, places)

pub still_roomy : (f : Page → Page) (xs ys : List Page) (i : ℕ) (x : Page) → i < length xs → ys ≡ changed_to f xs i → any_crowded xs ≡ false → crowded (get_or ys i x) ≡ false
still_roomy f xs ys i x h inv e =
    let at : get_or ys i x ≡ get_or xs i x = ap (λ l. get_or l i x) inv ∙ here_unchanged f xs i x h in
    ap crowded at ∙ none_crowded xs i x h e

-- three commands go onto a page that is not crowded
with_three : (b : Bool) (cs : List AtlasCommand) (p : Page) → length cs ≡ 3 → crowded p ≡ false → Fits p → Fits (cond b (with_more p cs) p)
with_three false cs p n e f = f
with_three true cs p n e f = let l = ltb-false (120 - length p.commands) 3 e in let a = length-append p.commands cs in omega arith

pub still_fit : (n : ℕ) (cs : List AtlasCommand) (xs ys : List Page) → length cs ≡ 3 → any_crowded xs ≡ false → All Fits xs → ys ≡ map (add_commands n cs) xs → All Fits ys
still_fit n cs xs ys three e f is =
    subst (All Fits) (sym is)
    (All-map Fits (add_commands n cs) xs (λ k d l. with_three (eqb n (get_or xs k d).number) cs (get_or xs k d) three (none_crowded xs k d l e) (f k d l)))
