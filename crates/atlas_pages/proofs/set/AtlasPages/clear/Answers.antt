-- An empty page keeps its number, and holds nothing.
use Rattle.std.proofs.Common.{refl}
use Rattle.pages.specs.Pages.{emptied}
use Rattle.atlas_pages.proofs.Changing.{still_numbered, all_blank, emptied_fit}
use Rattle.atlas_pages.proofs.set.AtlasPages.clear.Goals as goal

pub invariant_of-self : goal.invariant_of-self
invariant_of-self c = (still_numbered emptied (λ p. refl) _ _ c.self.invariant.0 c.clear_all.ensures, emptied_fit _ _ c.clear_all.ensures)

pub returns-clause-blank : goal.returns-clause-blank
returns-clause-blank c = all_blank _ _ c.self.invariant.0 c.clear_all.ensures
