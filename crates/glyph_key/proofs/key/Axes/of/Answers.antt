-- The values over the first places, and zeros after them.
use Rattle.std.proofs.Common.{arith}
use Rattle.std.proofs.lemmas.Grind.{common_steps}
use Rattle.glyph_key.proofs.Axes.{filled}
use Rattle.glyph_key.proofs.key.Axes.of.Goals as goal

pub returns-clause-answer : goal.returns-clause-answer
returns-clause-answer c = grind (arith, common_steps, filled c.args.values.now c.if-values-gt-MOST_AXES.false)
