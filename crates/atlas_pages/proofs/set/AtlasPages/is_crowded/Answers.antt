-- Some page is crowded exactly where one is left of those that are.
use Rattle.std.proofs.Common.{ap, ◌∙◌}
use Rattle.std.specs.List.{list_any}
use Rattle.atlas_pages.specs.AllPages.{crowded}
use Rattle.atlas_pages.proofs.Searching.{any_passes}
use Rattle.atlas_pages.proofs.set.AtlasPages.is_crowded.Goals as goal

pub returns-clause-crowded : goal.returns-clause-crowded
returns-clause-crowded c = c.one_crowded.ensures ∙ (ap (list_any crowded) c.self.view_is ∙ any_passes crowded c.args.self.now)
