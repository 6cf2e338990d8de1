-- Between the save and the restore nothing is saved or restored, so the restore takes the state back.
use Rattle.std.proofs.Common.{refl}
use Rattle.std.specs.Fn.{FnOnceReturnsAtMut}
use Rattle.drawing.proofs.Following.{stepped, restores, enclosed}
use Rattle.drawing.proofs.enclosed.enclosed.Goals as goal

pub unwrap-requires : goal.unwrap-requires
unwrap-requires g c =
    let ran : FnOnceReturnsAtMut g.F.FnOnce c.args.send c.save_state.new.self tt c.send.new.arg2 = record { shown = _; shows = refl; left = _; met = c.send.ensures; leaves = refl } in
    let saved = rw c.unwrap-state.ensures at c.save_state.ensures.saves in
    let sent = c.requires.sends in
    restores _ sent.0 _ _ c.restore_state.result _ saved.3 (sent.1 _ _ ran) c.restore_state.ensures.restores

pub returns : goal.returns
returns g c = λ cs sends.
    let ran : FnOnceReturnsAtMut g.F.FnOnce c.args.send c.save_state.new.self tt c.send.new.arg2 = record { shown = _; shows = refl; left = _; met = c.send.ensures; leaves = refl } in
    let saved = rw c.unwrap-state.ensures at c.save_state.ensures.saves in
    let restored = rw c.unwrap.ensures at c.restore_state.ensures.restores in
    enclosed c.unwrap-state.result saved (stepped _ cs _ (sends _ _ ran)) restored
