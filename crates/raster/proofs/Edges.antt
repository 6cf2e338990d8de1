-- The answer from four edges by its parts: each of the four numbers is there, or all is refused. Assumes nothing.
use Rattle.std.proofs.Common.{◌≡◌, ℕ, Bool, true, false, cond, ◌&&◌, ℤ, ◌-ℤ◌, nat_abs, is_err, Ok, Err, Result, sym, refl, ◌∙◌}
use Rattle.std.proofs.lemmas.Bool.{false≢true}
use Rattle.raster.specs.declared.glyph.RasterMetrics.{RasterMetrics}
use Rattle.raster.specs.declared.fault.RasterFault.{RasterFault}
use Rattle.raster.specs.declared.fault.RasterFault.TheVariants.{Metrics}
use Rattle.raster.specs.Metric.{is_extent, is_bearing, extent_of, bearing_of, from_edges}

abbrev pub joined : Result ℕ RasterFault → Result ℕ RasterFault → Result ℤ RasterFault → Result ℤ RasterFault → Result RasterMetrics RasterFault
joined (Ok w) (Ok h) (Ok l) (Ok t) = Ok (record { width = w; height = h; left = l; top = t })
joined (Ok w) (Ok h) (Ok l) (Err e) = Err Metrics
joined (Ok w) (Ok h) (Err e) t = Err Metrics
joined (Ok w) (Err e) l t = Err Metrics
joined (Err e) h l t = Err Metrics

pub by_parts : (l r t b : ℤ) → joined (extent_of (r -ℤ l)) (extent_of (b -ℤ t)) (bearing_of l) (bearing_of t) ≡ from_edges l r t b
by_parts l r t b = go (is_extent (r -ℤ l)) (is_extent (b -ℤ t)) (is_bearing l) (is_bearing t)
  where
    go : (w h x y : Bool) → joined (cond w (Ok (nat_abs (r -ℤ l))) (Err Metrics)) (cond h (Ok (nat_abs (b -ℤ t))) (Err Metrics)) (cond x (Ok l) (Err Metrics)) (cond y (Ok t) (Err Metrics))
        ≡ cond (w && h && x && y) (Ok (record { width = nat_abs (r -ℤ l); height = nat_abs (b -ℤ t); left = l; top = t })) (Err Metrics)
    go true true true true = refl
    go true true true false = refl
    go true true false y = refl
    go true false x y = refl
    go false h x y = refl

-- where one of the four is refused, all is
module _ (l r t b : ℤ) (e : RasterFault) where
  without_height : (w : Result ℕ RasterFault) (x y : Result ℤ RasterFault) → joined w (Err e) x y ≡ Err Metrics
  without_height (Ok w) x y = refl
  without_height (Err d) x y = refl

  without_left : (w h : Result ℕ RasterFault) (y : Result ℤ RasterFault) → joined w h (Err e) y ≡ Err Metrics
  without_left (Ok w) (Ok h) y = refl
  without_left (Ok w) (Err d) y = refl
  without_left (Err d) h y = refl

  without_top : (w h : Result ℕ RasterFault) (x : Result ℤ RasterFault) → joined w h x (Err e) ≡ Err Metrics
  without_top (Ok w) (Ok h) (Ok x) = refl
  without_top (Ok w) (Ok h) (Err d) = refl
  without_top (Ok w) (Err d) x = refl
  without_top (Err d) h x = refl

  pub no_width : extent_of (r -ℤ l) ≡ Err e → from_edges l r t b ≡ Err Metrics
  no_width n = sym (by_parts l r t b) ∙ (λ i. joined (n i) (extent_of (b -ℤ t)) (bearing_of l) (bearing_of t))

  pub no_height : extent_of (b -ℤ t) ≡ Err e → from_edges l r t b ≡ Err Metrics
  no_height n = sym (by_parts l r t b) ∙ (λ i. joined (extent_of (r -ℤ l)) (n i) (bearing_of l) (bearing_of t)) ∙ without_height _ _ _

  pub no_left : bearing_of l ≡ Err e → from_edges l r t b ≡ Err Metrics
  no_left n = sym (by_parts l r t b) ∙ (λ i. joined (extent_of (r -ℤ l)) (extent_of (b -ℤ t)) (n i) (bearing_of t)) ∙ without_left _ _ _

  pub no_top : bearing_of t ≡ Err e → from_edges l r t b ≡ Err Metrics
  no_top n = sym (by_parts l r t b) ∙ (λ i. joined (extent_of (r -ℤ l)) (extent_of (b -ℤ t)) (bearing_of l) (n i)) ∙ without_top _ _ _

-- there is only one fault to return
pub only_fault : (r : Result RasterMetrics RasterFault) → is_err r ≡ true → r ≡ Err Metrics
only_fault (Ok m) h = absurd (false≢true h)
only_fault (Err Metrics) h = refl
