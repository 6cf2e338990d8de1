-- The place is where the image goes.
use Rattle.std.proofs.Common.{rules}
use Rattle.shelf_cache.proofs.Fits.{fit_of}
use Rattle.shelf_cache.proofs.shelves.Shelves.place.Goals as goal

pub returns-clause-fit : goal.returns-clause-fit
returns-clause-fit c =
    let g = c.args.self.now in
    fit_of g c.args.size.w c.args.size.h c.or_else.result (search rules)
