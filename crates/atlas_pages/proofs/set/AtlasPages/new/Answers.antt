-- The pages of an unused atlas hold nothing.
use Rattle.std.proofs.Common.{◌≡◌, map, sym, ap, subst, rules}
use Rattle.std.specs.List.{All}
use Rattle.atlas_pages.specs.Sets.{numbers, page_numbers, Fits}
use Rattle.atlas_pages.specs.AllPages.{blank}
use Rattle.atlas_pages.proofs.Changing.{blank_fit}
use Rattle.atlas_pages.proofs.set.AtlasPages.new.Goals as goal

pub invariant_of-result : goal.invariant_of-result
invariant_of-result c =
    let same : c.in_ok-recorders.recorders ≡ map blank page_numbers = search rules in
    (ap numbers same, subst (All Fits) (sym same) (blank_fit page_numbers))
