-- The three calls between save and restore.
use Rattle.std.proofs.Common.{List, subst, rules}
use Rattle.interface.specs.declared.call.Call.{Call}
use Rattle.interface.specs.Sinks.{Extended}
use Rattle.drawing.specs.Between.{plain_calls}
use Rattle.drawing.proofs.Following.{plain_is}
use Rattle.drawing.proofs.plain.Plain.show.Goals as goal

pub enclosed-requires-clause-sends : goal.enclosed-requires-clause-sends
enclosed-requires-clause-sends g c =
    let d = c.args.self in
    (plain_calls d.glyph d.style d.transform d.paint_transform, λ m n w. search rules)

pub returns-clause-shows : goal.returns-clause-shows
returns-clause-shows g c =
    let d = c.args.self in (
      search rules,
      subst (λ (cs : List Call). Extended (g.S.DrawSink.means c.args.screen.now) cs (g.S.DrawSink.means c.enclosed.new.screen))
          (plain_is d.glyph d.style d.transform d.paint_transform)
          (c.enclosed.ensures (plain_calls d.glyph d.style d.transform d.paint_transform) (λ m n w. search rules)),
    )
