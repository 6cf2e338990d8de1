-- A page without commands is passed over, one with some is offered, and a failure ends it.
use Rattle.std.proofs.Common.{◌+◌, not, Err, sym, ap, ◌∙◌, subst}
use Rattle.std.proofs.lemmas.Result.{err_from_is_err_and}
use Rattle.atlas_pages.proofs.Offering.{OffersFrom, pass_over, goes_on, fails_at, all_offered}
use Rattle.atlas_pages.proofs.sets.offer_to.Goals as goal
use Rattle.atlas_pages.proofs.sets.offer_to.Goals.{then-not-is_empty+in_ok-offer, else-not-is_empty}

pub returns-in_err-offer : goal.returns-in_err-offer
returns-in_err-offer g c =
    let p = err_from_is_err_and c.from_residual.result c.from_residual.ensures.1 in
    c.loop-recorder.invariant _ _ (fails_at g.T.PageTarget.takes _ _ _ _ _ _ _ c.loop-recorder-test.true c.recorder-item.is (ap not (sym c.is_empty.ensures ∙ c.if-not-is_empty.true)) c.in_err-offer.ensures (p.1 ∙ ap Err p.2))

pub loop-recorder-preserved : goal.loop-recorder-preserved
loop-recorder-preserved g c = λ r t o.
    let k = g.T.PageTarget.takes in
    let xs = c.args.recorders.now in
    let i = c.loop-recorder.recorder-index in
    c.loop-recorder.invariant r t (elim c.if-not-is_empty.branch [
      | then-not-is_empty+in_ok-offer w ↦ goes_on k xs i _ _ _ r t c.loop-recorder-test.true c.recorder-item.is (ap not (sym c.is_empty.ensures ∙ w.if-not-is_empty.true)) w.in_ok-offer.ensures (subst (λ s. OffersFrom k xs (i + 1) s r t) w.target-is o)
      | else-not-is_empty w ↦ pass_over k xs i _ _ r t c.loop-recorder-test.true c.recorder-item.is (ap not (sym c.is_empty.ensures ∙ w.if-not-is_empty.false)) (subst (λ s. OffersFrom k xs (i + 1) s r t) w.target-is o)
    ])

pub returns : goal.returns
returns g c = c.loop-recorder.invariant _ _ (all_offered g.T.PageTarget.takes _ _ _ c.loop-recorder-test.false)
