-- What is still to be offered, from here, completes the offers.
use Rattle.atlas_pages.proofs.Offering.{OffersFrom}
use Rattle.atlas_pages.proofs.sets.offer_to.Given as goal

abbrev pub invariant-loop-recorder : goal.invariant-loop-recorder
invariant-loop-recorder g l =
    (r : _) (t : _) → OffersFrom g.T.PageTarget.takes l.recorders l.recorder-index l.target r t → OffersFrom g.T.PageTarget.takes l.recorders 0 l.initial.target r t
