-- What a screen was sent: calls one after the other, and these between a save and its restore.
use Rattle.std.proofs.Common.{◌≡◌, List, [], ◌∷◌, ◌++◌, Ok, Err, Result, sym, refl, ap, ◌∙◌, append_assoc, arith, length-append}
use Rattle.std.specs.Result.{IsOk}
use Rattle.shapes.specs.declared.Affine.{Affine}
use Rattle.raster.specs.declared.glyph.Glyph.{Glyph}
use Rattle.raster.specs.declared.glyph.Glyph.TheVariants.{Outline, Bitmap}
use Rattle.interface.specs.declared.state.SavedState.{SavedState}
use Rattle.interface.specs.declared.state.RestoreRefused.{RestoreRefused}
use Rattle.interface.specs.declared.call.Call.{Call}
use Rattle.interface.specs.declared.call.Call.TheVariants.{SaveState, RestoreState}
use Rattle.interface.specs.Sinks.{Sink, Extended, Latest, Saved, Restored}
use Rattle.interface.proofs.Steps.{same_screen, none_yet}
use Rattle.drawing.specs.declared.style.Style.{Style}
use Rattle.drawing.specs.Shown.{show_plain}
use Rattle.drawing.specs.Between.{Steps, plain_calls}

-- calls sent one after the other
pub stepped : (m : Sink) (cs : List Call) (n : Sink) → Steps m cs n → Extended m cs n
stepped m [] n e = rw e (none_yet m)
stepped m (c ∷ cs) n s =
    let e = stepped s.0 cs n s.2 in
    record {
      calls = e.calls ∙ ap (λ l. l ++ cs) s.1.1.calls ∙ append_assoc m.calls (c ∷ []) cs;
      free = omega arith;
      saved = e.saved ∙ s.1.2;
      same = same_screen s.1.1.same e.same;
    }

-- the state saved before them is the latest after them too
pub restores : (m : Sink) (cs : List Call) (n : Sink) (k : SavedState) (r : Result (Unit {0}) RestoreRefused) (o : Sink) → Latest k m → Steps m cs n → Restored n k r o → IsOk r
restores m cs n k (Ok u) o l s f = refl
restores m cs n k (Err e) o l s f =
    let x = stepped m cs n s in
    let first = l.2 in
    absurd (f.0 (l.0 ∙ sym x.same.number, l.1 ∙ sym x.saved, omega (arith, x.saved)))

-- save, what is sent between, and restore
pub enclosed : {xs : List Call} {m n p o : Sink} (k : SavedState) → Saved m (Ok k) n → Extended n xs p → Restored p k (Ok tt) o → Extended m (SaveState ∷ (xs ++ RestoreState ∷ [])) o
enclosed {xs = xs} {m = m} k b x f = record {
  calls = f.1.calls ∙ ap (λ l. l ++ (RestoreState ∷ [])) (x.calls ∙ ap (λ l. l ++ xs) b.1.calls) ∙ simp append_assoc;
  free = simp length-append (omega arith);
  saved = omega arith;
  same = same_screen b.1.same (same_screen x.same f.1.same);
}

pub plain_is : (g : Glyph) (s : Style) (t p : Affine) → SaveState ∷ (plain_calls g s t p ++ RestoreState ∷ []) ≡ show_plain g s t p
plain_is (Outline o) s t p = refl
plain_is (Bitmap b) s t p = refl
