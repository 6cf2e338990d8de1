-- The tests on a finite number by IEEE 754's comparisons are those on its units. Assumes nothing.
use Rattle.std.proofs.Common.{◌≡◌, ◌&&◌, T, refl}
use lib.Ieee.{Float, binary64, fits}
use Rattle.std.specs.Float.{float_is_finite}
use Rattle.floats.specs.Units.{units_of}
use Rattle.floats.proofs.Sizes as sizes
use Rattle.raster.specs.Steps.{nearly_straight, nearly_unit}
use Rattle.raster.specs.Supported.{straight, unit_sized}

pub straight_is : (x : Float) → T (fits binary64 x) → T (float_is_finite x) → nearly_straight x ≡ straight (units_of x)
straight_is x h p = sizes.size_at_most x h p _ _ sizes.nearly_zero _ refl

pub unit_is : (x : Float) → T (fits binary64 x) → T (float_is_finite x) → nearly_unit x ≡ unit_sized (units_of x)
unit_is x h p =
    let least = sizes.size_at_least x h p _ _ sizes.under_one _ refl in
    let most = sizes.size_at_most x h p _ _ sizes.over_one _ refl in
    λ i. least i && most i
