-- The number of each refusal of a key.
use Rattle.std.specs.Prelude.{ℕ}
use Rattle.glyph_key.specs.declared.fault.KeyFault.{KeyFault}
use Rattle.glyph_key.specs.declared.fault.KeyFault.TheVariants.{TooManyAxes, NotANumber}

abbrev pub key_number : KeyFault → ℕ
key_number TooManyAxes = 2
key_number NotANumber = 3
