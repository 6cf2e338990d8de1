-- Which definition answers which vector.
use Rattle.std.specs.Prelude.{Bool, cond, [], Ok, Err, Result}
use Rattle.shapes.specs.Numbers.{finite_affine, finite_rect, finite_path, finite_color}
use Rattle.glyph_key.specs.declared.key.KeyParts.{KeyParts}
use Rattle.glyph_key.specs.declared.key.KeyBits.{KeyBits}
use Rattle.glyph_key.specs.declared.fault.KeyFault.{KeyFault}
use Rattle.glyph_key.specs.declared.fault.KeyFault.TheVariants.{NotANumber}
use Rattle.glyph_key.specs.Bucket.{bucket_of}
use Rattle.glyph_key.specs.Keys.{unreadable, key_with, bits_of}
use Rattle.raster.specs.declared.glyph.Glyph.TheVariants as glyph
use Rattle.raster.specs.Metric.{metrics_of}
use Rattle.raster.specs.Supported.{supported}
use Rattle.float_vectors.specs.declared.vectors.Shape.{Shape}
use Rattle.float_vectors.specs.declared.vectors.Shape.TheVariants.{Affine, Rect, Path, Color}
use Rattle.float_vectors.specs.declared.vectors.Vector.{Vector}
use Rattle.float_vectors.specs.declared.vectors.Vector.TheVariants.{Bucket, Narrow, Metrics, Bitmap, Supports, Finite}
use Rattle.float_vectors.specs.declared.answers.Answer.{Answer}
use Rattle.float_vectors.specs.declared.answers.Answer.TheVariants as answer

-- the numbers of the key; its bucket and its axis values, of which there are none, do not show in them
abbrev pub bits_asked : KeyParts → Result KeyBits KeyFault
bits_asked p = cond (unreadable p) (Err NotANumber) (Ok (bits_of (key_with p 0 [])))

abbrev pub finite_shape : Shape → Bool
finite_shape (Affine t) = finite_affine t
finite_shape (Rect r) = finite_rect r
finite_shape (Path p) = finite_path p
finite_shape (Color c) = finite_color c

abbrev pub answer_of : Vector → Answer
answer_of (Bucket x) = answer.Bucket (bucket_of x)
answer_of (Narrow g p) = answer.Narrow (bits_asked p)
answer_of (Metrics o) = answer.Metrics (metrics_of (glyph.Outline o))
answer_of (Bitmap b) = answer.Bitmap (metrics_of (glyph.Bitmap b))
answer_of (Supports g t) = answer.Supports (supported g t)
answer_of (Finite s) = answer.Finite (finite_shape s)
