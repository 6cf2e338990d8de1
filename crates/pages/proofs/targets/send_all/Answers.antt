-- Each turn sends one command more.
use Rattle.interface.proofs.Steps.{none_yet}
use Rattle.pages.proofs.Sending.{has_place, sent_more, sent_all}
use Rattle.pages.proofs.targets.send_all.Goals as goal

pub loop-command-init : goal.loop-command-init
loop-command-init g c = none_yet _

pub unwrap-requires : goal.unwrap-requires
unwrap-requires g c =
    has_place _ _ _ _ _ _ _ c.loop-command-test.true c.requires c.loop-command.invariant c.send.ensures.sends

pub loop-command-preserved : goal.loop-command-preserved
loop-command-preserved g c =
    sent_more _ _ _ _ _ _ _ _ c.loop-command-test.true c.loop-command.invariant c.unwrap.ensures c.send.ensures.sends

pub returns : goal.returns
returns g c = sent_all _ _ _ _ c.loop-command-test.false c.loop-command.invariant
