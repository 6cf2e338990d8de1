-- A refusal leaves the states as they were.
use Rattle.std.proofs.lemmas.Result.{err_from_is_err_and}
use Rattle.interface.proofs.Screens.{same_states}
use Rattle.interface.proofs.screen.ScreenGlyphRenderer.restore_state.Goals as goal

pub returns-in_err-take_back-clause-keeps : goal.returns-in_err-take_back-clause-keeps
returns-in_err-take_back-clause-keeps g c =
    let refused = err_from_is_err_and c.from_residual.result c.from_residual.ensures.1 in
    rw refused.1 (same_states c.args.self.now c.take_back.new.self _ c.in_err-take_back.ensures.3)
