-- The pages offered one after the other. Assumes nothing.
use Rattle.std.proofs.Common.{◌≡◌, ℕ, ◌+◌, ◌<◌, ◌≤◌, Bool, true, false, List, [], ◌∷◌, length, get_or, Ok, Err, Result, sym, refl, ap, subst, inl, inr}
use Rattle.pages.specs.Pages.{Page, has_commands, UpTo}
use Rattle.atlas_pages.specs.AllPages.{has_failed, Offers}
use Rattle.atlas_pages.proofs.Searching.{passing_from, passing_here, passing_later, passing_none}

up_to_more : (b : Bool) (p : Page) (ps qs : List Page) → UpTo b ps qs → UpTo b (p ∷ ps) (p ∷ qs)
up_to_more false p ps qs u = ap (λ l. p ∷ l) u
up_to_more true p ps qs u = (refl, (u.1.0, ap (λ l. p ∷ l) u.1.1))

module _ {S F : Type 0} (takes : S → Page → Result (Unit {0}) F → S → Type 0) (xs : List Page) where
  -- those still to be offered, from the place i on
  abbrev pub OffersFrom : ℕ → S → Result (Unit {0}) F → S → Type 0
  OffersFrom i s r t = Offers takes (passing_from has_commands xs i) s r t

  come_to : (i : ℕ) (x : Page) (s : S) (r : Result (Unit {0}) F) (t : S) → i < length xs → x ≡ get_or xs i x → has_commands x ≡ true → Offers takes (x ∷ passing_from has_commands xs (i + 1)) s r t → OffersFrom i s r t
  come_to i x s r t h is e o = let P : List Page → Type 0 = λ l. Offers takes l s r t in subst P (sym (passing_here has_commands xs i x h is e)) o

  pub pass_over : (i : ℕ) (x : Page) (s : S) (r : Result (Unit {0}) F) (t : S) → i < length xs → x ≡ get_or xs i x → has_commands x ≡ false → OffersFrom (i + 1) s r t → OffersFrom i s r t
  pass_over i x s r t h is e o = let P : List Page → Type 0 = λ l. Offers takes l s r t in subst P (sym (passing_later has_commands xs i x h is e)) o

  pub goes_on : (i : ℕ) (x : Page) (s m : S) (r : Result (Unit {0}) F) (t : S) → i < length xs → x ≡ get_or xs i x → has_commands x ≡ true → takes s x (Ok tt) m → OffersFrom (i + 1) m r t → OffersFrom i s r t
  goes_on i x s m r t h is e k o =
      come_to i x s r t h is e (x ∷ o.0, (up_to_more (has_failed r) x o.0 (passing_from has_commands xs (i + 1)) o.1.0, inl (m, (k, o.1.1))))

  pub fails_at : (i : ℕ) (x : Page) (s : S) (f : F) (r : Result (Unit {0}) F) (t : S) → i < length xs → x ≡ get_or xs i x → has_commands x ≡ true → takes s x (Err f) t → r ≡ Err f → OffersFrom i s r t
  fails_at i x s f r t h is e k q =
      let P : Result (Unit {0}) F → Type 0 = λ z. OffersFrom i s z t in
      subst P (sym q) (come_to i x s (Err f) t h is e (x ∷ [], ((refl, (passing_from has_commands xs (i + 1), refl)), inr (f, (refl, refl, k)))))

  pub all_offered : (i : ℕ) (s : S) → length xs ≤ i → OffersFrom i s (Ok tt) s
  all_offered i s h =
      let P : List Page → Type 0 = λ l. Offers takes l s (Ok tt) s in
      subst P (sym (passing_none has_commands xs i h)) ([], (refl, (refl, refl)))
