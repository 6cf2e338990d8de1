-- The order of two finite values is that of their units.
use Rattle.std.proofs.Common.{◌≡◌, ◌&&◌, true, false, sym, ◌∙◌, rules}
use Rattle.std.proofs.lemmas.Bool.{false≢true}
use Rattle.std.proofs.lemmas.Float.{T_from_true}
use lib.Signed.{le_z}
use Rattle.floats.specs.Units.{units_of}
use Rattle.floats.proofs.InOrder.{le_units}
use Rattle.shapes.specs.Numbers.{finite_rect}
use Rattle.raster.specs.Metric.{in_order}
use Rattle.raster.proofs.Finite.{sides}
use Rattle.raster.proofs.metrics.is_upright.Goals as goal
use Rattle.raster.proofs.metrics.is_upright.Goals.{then-is_finite, else-is_finite}

pub returns-then-b : goal.returns-then-b
returns-then-b c =
    let b = c.args.b in
    elim c.if-is_finite.branch [
      | then-is_finite w ↦
          let f : finite_rect b ≡ true = sym c.is_finite.ensures ∙ w.if-is_finite.true in
          let s = sides b (T_from_true _ f) in
          let xs = le_units b.x0 b.x1 (T_from_true _ (search rules)) (T_from_true _ (search rules)) s.x0_is s.x1_is in
          let ys = le_units b.y0 b.y1 (T_from_true _ (search rules)) (T_from_true _ (search rules)) s.y0_is s.y1_is in
          let x : le_z (units_of b.x0) (units_of b.x1) ≡ true = sym xs ∙ sym w.value-is ∙ c.if-b.true in
          ys ∙ sym (λ i. f i && (x i && le_z (units_of b.y0) (units_of b.y1)))
      | else-is_finite w ↦ absurd (false≢true (sym w.if-is_finite.false ∙ sym w.value-is ∙ c.if-b.true))
    ]

pub returns-else-b : goal.returns-else-b
returns-else-b c =
    let b = c.args.b in
    elim c.if-is_finite.branch [
      | then-is_finite w ↦
          let f : finite_rect b ≡ true = sym c.is_finite.ensures ∙ w.if-is_finite.true in
          let s = sides b (T_from_true _ f) in
          let xs = le_units b.x0 b.x1 (T_from_true _ (search rules)) (T_from_true _ (search rules)) s.x0_is s.x1_is in
          let x : le_z (units_of b.x0) (units_of b.x1) ≡ false = sym xs ∙ sym w.value-is ∙ c.if-b.false in
          c.if-b.false ∙ sym (λ i. f i && (x i && le_z (units_of b.y0) (units_of b.y1)))
      | else-is_finite w ↦
          let f : finite_rect b ≡ false = sym c.is_finite.ensures ∙ w.if-is_finite.false in
          c.if-b.false ∙ sym (λ i. f i && in_order b)
    ]
