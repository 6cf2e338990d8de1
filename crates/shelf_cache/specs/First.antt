-- The first number that passes, by recursion on the bound.
use Rattle.std.specs.Prelude.{◌≡◌, ℕ, zero, suc, ◌+◌, ◌<◌, Bool, true, false, cond, Some, None, Option, refl}
use Rattle.std.specs.Option.{option_or}
use Rattle.std.proofs.Common.{sym, ap, subst, ◌∙◌, ⊎_elim, arith, add-one}
use Rattle.std.proofs.lemmas.Bool.{cases_lt}
use Rattle.shelf_cache.specs.Rows.{first_below, FirstBelow}

pub first_none : (p : ℕ → Bool) (n : ℕ) → ((k : ℕ) → k < n → p k ≡ false) → first_below p n ≡ None
unfolding first_below
first_none p zero h = refl
first_none p (suc n) h =
    ap (λ o. option_or o (cond (p n) (Some n) None)) (first_none p n (λ k l. h k (omega arith)))
    ∙ ap (λ b. cond b (Some n) None) (h n (omega arith))

pub first_some : (p : ℕ → Bool) (n i : ℕ) → i < n → p i ≡ true → ((k : ℕ) → k < i → p k ≡ false) → first_below p n ≡ Some i
unfolding first_below
first_some p zero i l t h = absurd (omega arith)
first_some p (suc n) i l t h =
    ⊎_elim
    (λ m. ap (λ o. option_or o (cond (p n) (Some n) None)) (first_some p n i m t h))
    (λ m.
    let e : n ≡ i = omega arith in
    ap (λ o. option_or o (cond (p n) (Some n) None)) (first_none p n (λ k q. h k (omega arith)))
    ∙ (ap (λ j. cond (p j) (Some j) None) e ∙ ap (λ b. cond b (Some i) None) t))
    (cases_lt i n)

pub first_is : (p : ℕ → Bool) (n : ℕ) (r : Option ℕ) → FirstBelow p n r → first_below p n ≡ r
first_is p n None f = first_none p n f
first_is p n (Some i) f = first_some p n i f.0 f.1 f.2

-- one number more
first_step : (p : ℕ → Bool) (n : ℕ) (o : Option ℕ) (b : Bool) → p n ≡ b → FirstBelow p n o → FirstBelow p (suc n) (option_or o (cond b (Some n) None))
first_step p n (Some i) b e f = (omega (arith, f.0), f.1, f.2)
first_step p n None true e f = (omega arith, e, f)
first_step p n None false e f = λ k l. ⊎_elim (λ m. f k m) (λ m. let q : k ≡ n = omega arith in ap p q ∙ e) (cases_lt k n)

-- this one passes, and none before
pub first_here : (p : ℕ → Bool) (n i : ℕ) (b : Bool) → i < n → ((k : ℕ) → k < i → p k ≡ false) → b ≡ p i → b ≡ true → FirstBelow p n (Some i)
first_here p n i b l h e t = (l, sym e ∙ t, h)

pub none_more : (p : ℕ → Bool) (n : ℕ) (b : Bool) → ((k : ℕ) → k < n → p k ≡ false) → b ≡ p n → b ≡ false → (k : ℕ) → k < n + 1 → p k ≡ false
none_more p n b h e f k l = ⊎_elim (λ m. h k m) (λ m. let q : k ≡ n = omega arith in ap p q ∙ (sym e ∙ f)) (cases_lt k n)

pub first_more : (p : ℕ → Bool) (n : ℕ) (o r : Option ℕ) (b : Bool) → b ≡ p n → r ≡ option_or o (cond b (Some n) None) → FirstBelow p n o → FirstBelow p (n + 1) r
first_more p n o r b e q f =
    let P : ℕ → Type 0 = λ m. FirstBelow p m (option_or o (cond b (Some n) None)) in
    let Q : Option ℕ → Type 0 = FirstBelow p (n + 1) in
    subst Q (sym q) (subst P (sym (add-one n)) (first_step p n o b (sym e) f))

pub first_spec : (p : ℕ → Bool) (n : ℕ) → FirstBelow p n (first_below p n)
unfolding first_below
first_spec p zero = λ k l. absurd (omega arith)
first_spec p (suc n) = first_step p n (first_below p n) (p n) refl (first_spec p n)
