use Rattle.std.proofs.Common.{not, T, sym, subst}
use lib.Ieee.{Float, binary32, is_nan}
use Rattle.floats.proofs.Numbers.{nearest_number}
use Rattle.glyph_key.proofs.bucket.narrow_bits.Goals as goal

pub float_to_bits-result : goal.float_to_bits-result
float_to_bits-result c = subst (λ (x : Float). T (not (is_nan x))) (sym c.nearest_f64_to_f32.ensures) (nearest_number binary32 c.args.x c.requires)
