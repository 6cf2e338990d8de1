-- One page more is emptied, and at the end all are.
use Rattle.std.proofs.Common.{sym, ap, ◌∙◌}
use Rattle.pages.specs.Pages.{emptied}
use Rattle.atlas_pages.proofs.Changing.{changed_more, all_changed}
use Rattle.atlas_pages.proofs.sets.clear_all.Goals as goal

pub loop-recorder-preserved : goal.loop-recorder-preserved
loop-recorder-preserved c =
    changed_more emptied c.args.recorders.now _ _ c.recorder-item.result c.clear.new.self c.loop-recorder-test.true c.loop-recorder.invariant c.recorder-item.is
    (c.clear.ensures ∙ ap emptied (sym c.recorder-item.is))

pub returns : goal.returns
returns c = c.loop-recorder.invariant ∙ all_changed emptied _ _ c.loop-recorder-test.false
