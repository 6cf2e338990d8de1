-- The first of the 64 places at which the test passes.
use Rattle.std.proofs.Common.{◌≡◌, true, false, rules}
use Rattle.std.proofs.lemmas.Iterator.{first_from_Range}
use borrow.Author.Tests.{tests}
use Rattle.shelf_cache.specs.Places.{taking}
use Rattle.shelf_cache.proofs.Searches.{first_in_range}
use Rattle.shelf_cache.proofs.shelves.Shelves.first_taking.Goals as goal

pub returns : goal.returns
returns c =
    let p = taking c.args.self.now c.args.size.w c.args.size.h in
    first_in_range p 64 c.find.result (first_from_Range _ _ _ _ (λ k. p k ≡ true) (λ k. p k ≡ false) c.find.ensures.ran (λ x q k. search (rules, tests)) (λ x q k. search (rules, tests)))
