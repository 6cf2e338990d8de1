-- Keys: which there are, when two are the same, and why one is refused. Assumes nothing.
--     key_of p b vs        the key made of the parts p, the bucket b and the axis values vs, or why there is none
--     Keyed p b vs r       the same of an answer r, with its number where it is a refusal, and the axis values told by the key where it is not
--     key_refusal p vs     why there is none, by number, the first reason that there is: 2, 3
--     key_with p b vs      the key itself, with the numbers bits_with p and the axis values axes_with vs
--     bits_for p, axes_for vs    each of these two, or why there is none
--     bits_of k            the key's numbers as f32 bit patterns
--     axis_values k        the axis values that it was made with
--     same_key a b         all fields agree, the axis values too, and so does their number
--     outline_bucket b, bitmap_bucket b    b is a bucket for outlines (0 to 3), for bitmaps (5)
use Rattle.std.specs.Prelude.{◌≡◌, ℕ, Bool, false, cond, ◌||◌, List, [], ◌∷◌, length, take, ℤ, pos, negsuc, Some, None, Ok, Err, Option, Result, ◌==◌, is_nan, nat_le, nat_lt, slice_index_or, to_bits, Float}
use Rattle.std.specs.Float.{round_to_format, binary32}
use Rattle.std.specs.Cmp.Lexicographic.{pointwise}
use Rattle.shapes.specs.Answers.{refused_with}
use Rattle.glyph_key.specs.Faults.{key_number}
use Rattle.glyph_key.specs.declared.key.Join.{Join}
use Rattle.glyph_key.specs.declared.key.Join.TheVariants.{Bevel, Miter, Round}
use Rattle.glyph_key.specs.declared.key.FontEmbolden.{FontEmbolden}
use Rattle.glyph_key.specs.declared.key.KeyParts.{KeyParts}
use Rattle.glyph_key.specs.declared.key.KeyBits.{KeyBits}
use Rattle.glyph_key.specs.declared.key.Axes.{Axes}
use Rattle.glyph_key.specs.declared.key.GlyphCacheKey.{GlyphCacheKey}
use Rattle.glyph_key.specs.declared.fault.KeyFault.{KeyFault}
use Rattle.glyph_key.specs.declared.fault.KeyFault.TheVariants.{TooManyAxes, NotANumber}

abbrev pub outline_bucket : ℕ → Bool
outline_bucket b = nat_le b 3

abbrev pub bitmap_bucket : ℕ → Bool
bitmap_bucket b = b == 5

-- the number that stands for a join style
abbrev pub join_number : Join → ℕ
join_number Bevel = 0
join_number Miter = 1
join_number Round = 2

-- an f64 as the bits of the nearest f32, ties to even
abbrev pub narrowed : Float → ℕ
narrowed x = to_bits binary32 (round_to_format binary32 x)

-- the axis value at a place, zero where there is none
abbrev pub axis : List ℤ → ℕ → ℤ
axis vs n = slice_index_or vs n (pos 0)

-- an embolden number is no number
abbrev pub unreadable_embolden : FontEmbolden → Bool
unreadable_embolden em = is_nan em.amount_x || is_nan em.amount_y || is_nan em.miter_limit || is_nan em.tolerance

-- the size or an embolden number is no number; an infinity is one
abbrev pub unreadable : KeyParts → Bool
unreadable p = is_nan p.size || unreadable_embolden p.embolden

-- the numbers as f32 bit patterns
abbrev pub bits_with : KeyParts → KeyBits
bits_with p = record {
  size = to_bits binary32 p.size;
  embolden_x = narrowed p.embolden.amount_x;
  embolden_y = narrowed p.embolden.amount_y;
  miter_limit = narrowed p.embolden.miter_limit;
  tolerance = narrowed p.embolden.tolerance;
}

-- the axis values, each at its place
abbrev pub axes_with : List ℤ → Axes
axes_with vs = record {
  count = length vs;
  places = axis vs 0 ∷ axis vs 1 ∷ axis vs 2 ∷ axis vs 3 ∷ axis vs 4 ∷ axis vs 5 ∷ axis vs 6 ∷ axis vs 7 ∷ [];
}

abbrev pub key_with : KeyParts → ℕ → List ℤ → GlyphCacheKey
key_with p bucket vs = record {
  font_id = p.font_id;
  font_index = p.font_index;
  glyph_id = p.glyph_id;
  bits = bits_with p;
  hinted = p.hinted;
  subpixel_x = bucket;
  context_color_packed = p.context_color_packed;
  join = p.embolden.join;
  axes = axes_with vs;
}

abbrev pub axes_for : List ℤ → Result Axes KeyFault
axes_for vs = cond (nat_lt 8 (length vs)) (Err TooManyAxes) (Ok (axes_with vs))

abbrev pub bits_for : KeyParts → Result KeyBits KeyFault
bits_for p = cond (unreadable p) (Err NotANumber) (Ok (bits_with p))

abbrev pub key_of : KeyParts → ℕ → List ℤ → Result GlyphCacheKey KeyFault
key_of p bucket vs = cond (nat_lt 8 (length vs)) (Err TooManyAxes) (cond (unreadable p) (Err NotANumber) (Ok (key_with p bucket vs)))

abbrev pub key_refusal : KeyParts → List ℤ → Option ℕ
key_refusal p vs = cond (nat_lt 8 (length vs)) (Some 2) (cond (unreadable p) (Some 3) None)

abbrev pub bits_of : GlyphCacheKey → KeyBits
bits_of k = k.bits

-- the eight places of axis values
abbrev pub axis_places : GlyphCacheKey → List ℤ
axis_places k = k.axes.places

-- the values at the places that are used
abbrev pub values_told : Axes → List ℤ
values_told a = take a.count a.places

abbrev pub axis_values : GlyphCacheKey → List ℤ
axis_values k = values_told k.axes

abbrev pub axes_kept : Result GlyphCacheKey KeyFault → List ℤ → Type 0
axes_kept (Ok k) vs = axis_values k ≡ vs
axes_kept (Err e) vs = Unit {0}

pub record Keyed (p : KeyParts) (bucket : ℕ) (vs : List ℤ) (r : Result GlyphCacheKey KeyFault) : Type 0 where
  pub answer : r ≡ key_of p bucket vs
  pub number : refused_with key_number r ≡ key_refusal p vs
  pub axes : axes_kept r vs

-- the twelve fields as numbers (a flag is 1 or 0), then how many axis values there are, then their places
abbrev pub fields : GlyphCacheKey → List ℤ
fields k =
    pos k.font_id ∷ pos k.font_index ∷ pos k.glyph_id ∷ pos k.bits.size ∷ pos k.bits.embolden_x ∷ pos k.bits.embolden_y
    ∷ pos k.bits.miter_limit ∷ pos k.bits.tolerance ∷ pos (cond k.hinted 1 0) ∷ pos k.subpixel_x ∷ pos k.context_color_packed
    ∷ pos (join_number k.join) ∷ pos k.axes.count ∷ axis_places k

abbrev pub same_number : ℤ → ℤ → Bool
same_number (pos m) (pos n) = m == n
same_number (pos m) (negsuc n) = false
same_number (negsuc m) (pos n) = false
same_number (negsuc m) (negsuc n) = m == n

abbrev pub same_numbers : List ℤ → List ℤ → Bool
same_numbers xs ys = pointwise same_number xs ys

abbrev pub same_key : GlyphCacheKey → GlyphCacheKey → Bool
same_key a b = same_numbers (fields a) (fields b)
