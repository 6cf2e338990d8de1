-- Keys whose numbers agree are equal, and the other way round; and the comparison that is derived compares all numbers. Assumes nothing.
use Rattle.std.proofs.Common.{◌≡◌, ℕ, Bool, true, false, cond, ◌&&◌, ◌==◌, Decides, List, drop, get_or, ℤ, pos, negsuc, nat_abs, refl, ap}
use Rattle.std.proofs.Math.Bool.{beq, and_assoc}
use Rattle.std.proofs.lemmas.Bool.Decides.{Decides-like, Decides-eqb, Decides-int_eq, same_from_decides}
use Rattle.std.proofs.lemmas.Slice.Eq.{slice_eq-Decides}
use Rattle.std.specs.Ordering.{int_eq}
use Rattle.std.specs.Cmp.Lexicographic.{pointwise}
use Rattle.glyph_key.specs.declared.key.GlyphCacheKey.{GlyphCacheKey}
use Rattle.glyph_key.specs.declared.key.Join.{Join}
use Rattle.glyph_key.specs.declared.key.Join.TheVariants.{Bevel, Miter, Round}
use Rattle.glyph_key.specs.contracts.key.JoinPartialEq.TheImpl as join_eq
use Rattle.glyph_key.specs.contracts.key.GlyphCacheKeyPartialEq.TheImpl as key_eq
use Rattle.glyph_key.specs.Keys.{join_number, same_number, same_numbers, fields, same_key}

number_decides : (x y : ℤ) → Decides (same_number x y) (x ≡ y)
number_decides (pos m) (pos n) = Decides-like (m == n) (ap pos) (λ e. cc) (Decides-eqb m n)
number_decides (pos m) (negsuc n) = (λ h. cc, λ h. cc)
number_decides (negsuc m) (pos n) = (λ h. cc, λ h. cc)
number_decides (negsuc m) (negsuc n) = Decides-like (m == n) (ap negsuc) (λ e. cc) (Decides-eqb m n)

numbers_decide : (xs ys : List ℤ) → Decides (same_numbers xs ys) (xs ≡ ys)
numbers_decide xs ys = slice_eq-Decides number_decides xs ys (same_numbers xs ys) refl

flag_equal : (x y : Bool) → cond {A = ℕ} x 1 0 ≡ cond y 1 0 → x ≡ y
flag_equal true true h = refl
flag_equal true false h = cc
flag_equal false true h = cc
flag_equal false false h = refl

join_equal : (x y : Join) → join_number x ≡ join_number y → x ≡ y
join_equal Bevel Bevel h = refl
join_equal Bevel Miter h = cc
join_equal Bevel Round h = cc
join_equal Miter Bevel h = cc
join_equal Miter Miter h = refl
join_equal Miter Round h = cc
join_equal Round Bevel h = cc
join_equal Round Miter h = cc
join_equal Round Round h = refl

equal_keys : (a b : GlyphCacheKey) → fields a ≡ fields b → a ≡ b
equal_keys a b p =
    let hinted : a.hinted ≡ b.hinted = flag_equal a.hinted b.hinted (cc) in
    let join : a.join ≡ b.join = join_equal a.join b.join (cc) in
    λ t. record {
      font_id = nat_abs (get_or (p t) 0 (pos 0));
      font_index = nat_abs (get_or (p t) 1 (pos 0));
      glyph_id = nat_abs (get_or (p t) 2 (pos 0));
      bits = record {
        size = nat_abs (get_or (p t) 3 (pos 0));
        embolden_x = nat_abs (get_or (p t) 4 (pos 0));
        embolden_y = nat_abs (get_or (p t) 5 (pos 0));
        miter_limit = nat_abs (get_or (p t) 6 (pos 0));
        tolerance = nat_abs (get_or (p t) 7 (pos 0));
      };
      hinted = hinted t;
      subpixel_x = nat_abs (get_or (p t) 9 (pos 0));
      context_color_packed = nat_abs (get_or (p t) 10 (pos 0));
      join = join t;
      axes = record { count = nat_abs (get_or (p t) 12 (pos 0)); places = drop 13 (p t) };
    }

-- the comparison of all numbers decides equality
pub same_decides : (a b : GlyphCacheKey) → Decides (same_key a b) (a ≡ b)
same_decides a b = Decides-like (same_key a b) (equal_keys a b) (ap fields) (numbers_decide (fields a) (fields b))

-- ---- the comparison that is derived
flags : (x y : Bool) → beq x y ≡ (cond {A = ℕ} x 1 0 == cond y 1 0)
flags true true = refl
flags true false = refl
flags false true = refl
flags false false = refl

joins : (x y : Join) → (join_eq.ghosts).eq x y ≡ (join_number x == join_number y)
joins Bevel Bevel = refl
joins Bevel Miter = refl
joins Bevel Round = refl
joins Miter Bevel = refl
joins Miter Miter = refl
joins Miter Round = refl
joins Round Bevel = refl
joins Round Miter = refl
joins Round Round = refl

lists : (xs ys : List ℤ) → pointwise int_eq xs ys ≡ same_numbers xs ys
lists xs ys = same_from_decides (pointwise int_eq xs ys) (same_numbers xs ys) (slice_eq-Decides Decides-int_eq xs ys (pointwise int_eq xs ys) refl) (numbers_decide xs ys)

pub derived_same : (a b : GlyphCacheKey) → (key_eq.ghosts).eq a b ≡ same_key a b
derived_same a b = simp (and_assoc, flags, joins, lists)
