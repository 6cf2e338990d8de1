-- One page more is looked at, and at the end all were.
use Rattle.std.proofs.Common.{sym, ap, ◌∙◌}
use Rattle.atlas_pages.specs.AllPages.{add_commands}
use Rattle.atlas_pages.proofs.Changing.{changed_more, all_changed}
use Rattle.atlas_pages.proofs.Adding.{still_roomy}
use Rattle.atlas_pages.proofs.sets.add_to.Goals as goal

pub add_if-requires : goal.add_if-requires
add_if-requires c =
    still_roomy (add_commands c.args.page c.args.commands) c.args.recorders.now _ _ _ c.loop-recorder-test.true c.loop-recorder.invariant c.requires

pub loop-recorder-preserved : goal.loop-recorder-preserved
loop-recorder-preserved c =
    let f = add_commands c.args.page c.args.commands in
    changed_more f c.args.recorders.now _ _ c.recorder-item.result c.add_if.new.recorder c.loop-recorder-test.true c.loop-recorder.invariant c.recorder-item.is
    (c.add_if.ensures ∙ ap f (sym c.recorder-item.is))

pub returns : goal.returns
returns c = c.loop-recorder.invariant ∙ all_changed (add_commands c.args.page c.args.commands) _ _ c.loop-recorder-test.false
