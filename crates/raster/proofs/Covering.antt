-- A picture made from a box covers it. Assumes nothing.
use Rattle.std.proofs.Common.{◌≡◌, ℕ, ◌^◌, ◌<◌, Bool, true, false, cond, ◌&&◌, ℤ, pos, negsuc, ◌+ℤ◌, ◌-ℤ◌, ◌*ℤ◌, neg_ℤ, nat_abs, ◌≤ℤ◌, ◌<ℤ◌, IfErr, Ok, Err, Result, sym, refl, subst, arith, pow_pos}
use Rattle.std.proofs.lemmas.Bool.{false≢true, and_parts}
use Rattle.std.proofs.lemmas.Int.{ints}
use Rattle.floats.specs.Units.{units_of, floor_by}
use Rattle.floats.proofs.Wholes.{floor_not_above, floor_next, ceil_not_below, ceil_next}
use Rattle.shapes.specs.Numbers.{finite_rect}
use Rattle.shapes.specs.declared.Rect.{Rect}
use Rattle.raster.specs.declared.glyph.Glyph.{Glyph}
use Rattle.raster.specs.declared.glyph.Glyph.TheVariants.{Outline, Bitmap}
use Rattle.raster.specs.declared.glyph.RasterMetrics.{RasterMetrics}
use Rattle.raster.specs.declared.fault.RasterFault.{RasterFault}
use Rattle.raster.specs.declared.fault.RasterFault.TheVariants.{Metrics}
use Rattle.raster.specs.Metric.{is_extent, is_bearing, from_edges, from_ordered, from_box, in_order, bounds_of, metrics_of}
use Rattle.raster.specs.Faults.{raster_number}
use Rattle.raster.specs.Cover.{Covers, covers_box, covers, Measured}

-- an answer that is no refusal passed the test
passed : (b : Bool) (x : Result RasterMetrics RasterFault) (m : RasterMetrics) → cond b x (Err Metrics) ≡ Ok m → (b ≡ true) × (x ≡ Ok m)
passed true x m h = (refl, h)
passed false x m h = absurd cc

-- the numbers of a picture by its edges
record Edged (l r t b : ℤ) (m : RasterMetrics) : Type 0 where
  left_is : m.left ≡ l
  top_is : m.top ≡ t
  right_is : m.left +ℤ pos m.width ≡ r
  bottom_is : m.top +ℤ pos m.height ≡ b

extent_is : (z : ℤ) → is_extent z ≡ true → pos (nat_abs z) ≡ z
extent_is (pos n) h = refl
extent_is (negsuc n) h = absurd (false≢true h)

edged_made : (l r t b : ℤ) → is_extent (r -ℤ l) ≡ true → is_extent (b -ℤ t) ≡ true → Edged l r t b (record { width = nat_abs (r -ℤ l); height = nat_abs (b -ℤ t); left = l; top = t })
edged_made l r t b w h =
    let wide = extent_is (r -ℤ l) w in
    let high = extent_is (b -ℤ t) h in
    record { left_is = refl; top_is = refl; right_is = omega (arith, ints); bottom_is = omega (arith, ints) }

edged : (l r t b : ℤ) (m : RasterMetrics) → from_edges l r t b ≡ Ok m → Edged l r t b m
edged l r t b m h =
    let W = is_extent (r -ℤ l) in
    let H = is_extent (b -ℤ t) in
    let made : RasterMetrics = record { width = nat_abs (r -ℤ l); height = nat_abs (b -ℤ t); left = l; top = t } in
    let p = passed (W && H && is_bearing l && is_bearing t) (Ok made) m h in
    let sizes = and_parts (W && H) (is_bearing l) (and_parts (W && H && is_bearing l) (is_bearing t) p.0).0 in
    let both = and_parts W H sizes.0 in
    let P : RasterMetrics → Type 0 = λ k. Edged l r t b k in
    let same : made ≡ m = cc p.1 in
    subst P same (edged_made l r t b both.0 both.1)

module _ (u : ℕ) (U : 0 < u) (x0 y0 x1 y1 : ℤ) (m : RasterMetrics) where
  covered : Edged (floor_by u x0) (neg_ℤ (floor_by u (neg_ℤ x1)) +ℤ pos 1) (floor_by u (neg_ℤ y1)) (neg_ℤ (floor_by u (neg_ℤ (neg_ℤ y0)))) m → Covers u x0 y0 x1 y1 m
  covered e =
      let r : neg_ℤ (floor_by u (neg_ℤ x1)) ≡ m.left +ℤ pos m.width -ℤ pos 1 = omega (arith, ints, e.right_is) in
      let r2 : neg_ℤ (floor_by u (neg_ℤ x1)) -ℤ pos 1 ≡ m.left +ℤ pos m.width -ℤ pos 2 = omega (arith, ints, e.right_is) in
      record {
        left_edge = subst (λ (k : ℤ). (k *ℤ pos u) ≤ℤ x0) (sym e.left_is) (floor_not_above u U x0);
        left_near = subst (λ (k : ℤ). x0 <ℤ ((k +ℤ pos 1) *ℤ pos u)) (sym e.left_is) (floor_next u U x0);
        right_edge = subst (λ (k : ℤ). x1 ≤ℤ (k *ℤ pos u)) r (ceil_not_below u U x1);
        right_near = subst (λ (k : ℤ). (k *ℤ pos u) <ℤ x1) r2 (ceil_next u U x1);
        top_edge = subst (λ (k : ℤ). (k *ℤ pos u) ≤ℤ neg_ℤ y1) (sym e.top_is) (floor_not_above u U (neg_ℤ y1));
        top_near = subst (λ (k : ℤ). neg_ℤ y1 <ℤ ((k +ℤ pos 1) *ℤ pos u)) (sym e.top_is) (floor_next u U (neg_ℤ y1));
        bottom_edge = subst (λ (k : ℤ). neg_ℤ y0 ≤ℤ (k *ℤ pos u)) (sym e.bottom_is) (ceil_not_below u U (neg_ℤ y0));
        bottom_near = subst (λ (k : ℤ). ((k -ℤ pos 1) *ℤ pos u) <ℤ neg_ℤ y0) (sym e.bottom_is) (ceil_next u U (neg_ℤ y0));
      }

box_covered : (b : Rect) (m : RasterMetrics) → from_box b ≡ Ok m → covers_box b m
box_covered b m h =
    let p = passed (finite_rect b) (cond (in_order b) (from_ordered b) (Err Metrics)) m h in
    let q = passed (in_order b) (from_ordered b) m p.1 in
    covered (2 ^ 1074) (pow_pos 1074) (units_of b.x0) (units_of b.y0) (units_of b.x1) (units_of b.y1) m (edged _ _ _ _ m q.1)

glyph_covered : (g : Glyph) (r : Result RasterMetrics RasterFault) → r ≡ metrics_of g → covers g r
glyph_covered (Outline o) (Ok m) h = box_covered (bounds_of o) m (sym h)
glyph_covered (Outline o) (Err e) h = tt
glyph_covered (Bitmap b) r h = tt

numbered : (r : Result RasterMetrics RasterFault) → IfErr r (λ e. raster_number e ≡ 5)
numbered (Ok m) = tt
numbered (Err Metrics) = refl

pub measured : (g : Glyph) (r : Result RasterMetrics RasterFault) → r ≡ metrics_of g → Measured g r
measured g r h = record { answer = h; number = numbered r; covered = glyph_covered g r h }
