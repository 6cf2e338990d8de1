-- All pages are empty exactly where none is left of those that hold a command.
use Rattle.std.proofs.Common.{Bool, ap, ◌∙◌}
use Rattle.std.specs.List.{list_all}
use Rattle.shapes.specs.Answers.{none}
use Rattle.pages.specs.Pages.{Page}
use Rattle.atlas_pages.proofs.Searching.{all_pass}
use Rattle.atlas_pages.proofs.set.AtlasPages.is_idle.Goals as goal

pub returns : goal.returns
returns c =
    let empty : Page → Bool = λ p. none p.commands in
    c.all_idle.ensures ∙ (ap (list_all empty) c.self.view_is ∙ all_pass empty c.args.self.now)
