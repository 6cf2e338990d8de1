-- A page with commands more keeps its number, and has places for them where no page is crowded.
use Rattle.std.proofs.Common.{sym, ap, ◌∙◌, rules}
use Rattle.atlas_pages.specs.AllPages.{add_commands, any_crowded}
use Rattle.atlas_pages.proofs.Changing.{still_numbered}
use Rattle.atlas_pages.proofs.Adding.{same_number, still_fit}
use Rattle.atlas_pages.proofs.set.AtlasPages.record.Goals as goal

pub invariant_of-self : goal.invariant_of-self
invariant_of-self c = (
  still_numbered (add_commands c.args.page c.args.commands) (same_number c.args.page c.args.commands) _ _ c.self.invariant.0 c.add_to.ensures,
  still_fit c.args.page c.args.commands _ _ (search rules) (ap any_crowded c.self.view_is ∙ (sym c.is_crowded.ensures.crowded ∙ c.if-is_crowded.false)) c.self.invariant.1 c.add_to.ensures,
)
