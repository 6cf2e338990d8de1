-- One call more, and one list of calls after another, on any sink. Assumes nothing.
use Rattle.std.proofs.Common.{◌≡◌, ◌<◌, List, [], ◌∷◌, ◌++◌, sym, refl, ap, ◌∙◌, append_assoc, append-nil, arith, length-append}
use Rattle.interface.specs.declared.call.Call.{Call}
use Rattle.interface.specs.Sinks.{Sink, SameScreen, Appended, Extended}

pub same_screen : {m n p : Sink} → SameScreen m n → SameScreen n p → SameScreen m p
same_screen a b = record {
  number = b.number ∙ a.number;
  colour = b.colour ∙ a.colour;
  image_at = b.image_at ∙ a.image_at;
  place_at = b.place_at ∙ a.place_at;
}

pub none_yet : (m : Sink) → Extended m [] m
none_yet m = record {
  calls = sym (append-nil _);
  free = omega arith;
  saved = refl;
  same = record { number = refl; colour = refl; image_at = refl; place_at = refl };
}

pub one_more : {m n p : Sink} {cs : List Call} {c : Call} → Extended m cs n → (0 < n.free) × Appended n c 1 p × (p.saved ≡ n.saved) → Extended m (cs ++ c ∷ []) p
one_more {m = m} {cs = cs} {c = c} e s = record {
  calls = s.1.calls ∙ ap (λ l. l ++ c ∷ []) e.calls ∙ append_assoc m.calls cs (c ∷ []);
  free = simp length-append (omega arith);
  saved = s.2 ∙ e.saved;
  same = same_screen e.same s.1.same;
}
