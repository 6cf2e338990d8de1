-- Each number is a part of the answer; where one is refused, all is.
use Rattle.std.proofs.Common.{◌≡◌, pos, ◌+ℤ◌, ◌-ℤ◌, ℤ, Ok, sym, ap, ◌∙◌, w16, w32, w64, to_z, of_z, arith, rules}
use mir.Syntax.{Width}
use Rattle.std.proofs.lemmas.Int.{ints}
use Rattle.raster.specs.Metric.{extent_of, bearing_of}
use Rattle.raster.proofs.Edges.{joined, by_parts, no_width, no_height, no_left, no_top, only_fault}
use Rattle.raster.proofs.metrics.Edges.metrics.Goals as goal

-- a number as the code holds it
abbrev held : Width → ℤ → ℤ
held w z = to_z w (of_z w z)

pub returns-in_err-width : goal.returns-in_err-width
returns-in_err-width c =
    let e = c.args.self in
    let width : held w64 (held w64 (held w64 c.from.result +ℤ pos 1) -ℤ held w64 c.from-2.result) ≡ e.right +ℤ pos 1 -ℤ e.left = omega (arith, ints) in
    only_fault _ c.from_residual.ensures.0
    ∙ sym (no_width e.left (e.right +ℤ pos 1) e.top e.bottom c.in_err-width.field-0.0 (sym (c.in_err-width.ensures ∙ ap extent_of width)))

pub returns-in_err-height : goal.returns-in_err-height
returns-in_err-height c =
    let e = c.args.self in
    let height : held w64 (held w64 c.from-3.result -ℤ held w64 c.from-4.result) ≡ e.bottom -ℤ e.top = omega (arith, ints) in
    only_fault _ c.from_residual-in_err-height.ensures.0
    ∙ sym (no_height e.left (e.right +ℤ pos 1) e.top e.bottom c.in_err-height.field-0.0 (sym (c.in_err-height.ensures ∙ ap extent_of height)))

pub returns-in_err-left : goal.returns-in_err-left
returns-in_err-left c =
    let e = c.args.self in
    let left : held w32 e.left ≡ e.left = omega (arith, ints) in
    only_fault _ c.from_residual-in_err-left.ensures.0
    ∙ sym (no_left e.left (e.right +ℤ pos 1) e.top e.bottom c.in_err-left.field-0.0 (sym (c.in_err-left.ensures ∙ ap bearing_of left)))

pub returns-in_err-top : goal.returns-in_err-top
returns-in_err-top c =
    let e = c.args.self in
    let top : held w32 e.top ≡ e.top = omega (arith, ints) in
    only_fault _ c.from_residual-in_err-top.ensures.0
    ∙ sym (no_top e.left (e.right +ℤ pos 1) e.top e.bottom c.in_err-top.field-0.0 (sym (c.in_err-top.ensures ∙ ap bearing_of top)))

pub returns : goal.returns
returns c =
    let e = c.args.self in
    let width = let w : held w64 (held w64 (held w64 c.from.result +ℤ pos 1) -ℤ held w64 c.from-2.result) ≡ e.right +ℤ pos 1 -ℤ e.left = omega (arith, ints) in c.in_ok-width.ensures ∙ ap extent_of w in
    let height = let h : held w64 (held w64 c.from-3.result -ℤ held w64 c.from-4.result) ≡ e.bottom -ℤ e.top = omega (arith, ints) in c.in_ok-height.ensures ∙ ap extent_of h in
    let left = let l : held w32 e.left ≡ e.left = omega (arith, ints) in c.in_ok-left.ensures ∙ ap bearing_of l in
    let top = let t : held w32 e.top ≡ e.top = omega (arith, ints) in c.in_ok-top.ensures ∙ ap bearing_of t in
    let x : held w16 c.in_ok-left.left ≡ c.in_ok-left.left = search rules in
    let y : held w16 c.in_ok-top.top ≡ c.in_ok-top.top = search rules in
    (λ i. joined (Ok c.in_ok-width.width) (Ok c.in_ok-height.height) (Ok (x i)) (Ok (y i)))
    ∙ (λ i. joined (width i) (height i) (left i) (top i))
    ∙ by_parts e.left (e.right +ℤ pos 1) e.top e.bottom
