-- The first image of a new grid, from what the grid's calls promise: it fits, and it goes to the last cell of the first page.
use Rattle.std.proofs.Common.{◌≡◌, ℕ, ◌*◌, ◌/◌, ◌%◌, ◌≤◌, Some, sym, ap, ◌∙◌, ⊎_elim, arith}
use Rattle.std.proofs.lemmas.Bool.{cases_lt, both_ways}
use Rattle.image_cache.specs.Caches.{Added, NoRoom}
use Rattle.image_cache.specs.declared.image.Image.{Image}
use Rattle.image_cache.specs.declared.fault.CacheFault.{CacheFault}
use Rattle.grid_cache.specs.declared.grid.Grid.{Grid}
use Rattle.grid_cache.specs.Cells.{is_free, is_taken, image_at, cache_of_grid, Chosen, Fresh}
use Rattle.grid_cache.specs.Laws.{lawful, there_by}

pub it_fits : (g d : Grid) (e : CacheFault) → Fresh 10 2 g → NoRoom (cache_of_grid g) 10 1 e (cache_of_grid d) → ⊥
it_fits g d e fresh refusal =
    let side : g.cell ≡ 10 = fresh.side in
    let law = lawful g.cell g.count g.free g.sizes g.limits g.within in
    both_ways ((cache_of_grid g).fits 10 1) refusal.unfit (law.empty_fits fresh.none_live 10 1 (omega arith) (omega arith) (omega arith) (omega arith))

last_cell : (g : Grid) (i : ℕ) → Fresh 10 2 g → Chosen g i → i ≡ 63
last_cell g i fresh chosen =
    let page : i / 64 ≤ 0 = ⊎_elim (λ l. absurd (both_ways (is_free g.free 0) (chosen.none_earlier 0 l) (fresh.all_free 0 (omega arith)))) (λ l. l) (cases_lt 0 (i / 64)) in
    let same : 0 ≡ i / 64 = omega arith in
    ⊎_elim (λ l. absurd (both_ways (is_free g.free 63) (chosen.none_higher 63 same l) (fresh.all_free 63 (omega arith)))) (λ l. omega arith) (cases_lt i 63)

pub placed : (g d : Grid) (i : ℕ) (a : Image) → Fresh 10 2 g → Chosen g i → Added (cache_of_grid g) 10 1 i (cache_of_grid d) → Some a ≡ (cache_of_grid d).live i → (a.page ≡ 0) × (a.x ≡ 70) × (a.y ≡ 70)
placed g d i a fresh chosen added live =
    let e : a ≡ image_at d.cell d.sizes i = (there_by (is_taken d.count d.free i) (image_at d.cell d.sizes i) a (sym live)).1 in
    let n = last_cell g i fresh chosen in
    let s : d.cell ≡ 10 = added.sizes.widest ∙ fresh.side in (
      ap (λ (z : Image). z.page) e ∙ ap (λ k. k / 64) n,
      ap (λ (z : Image). z.x) e ∙ (ap (λ k. k % 8 * d.cell) n ∙ ap (λ m. 7 * m) s),
      ap (λ (z : Image). z.y) e ∙ (ap (λ k. k % 64 / 8 * d.cell) n ∙ ap (λ m. 7 * m) s),
    )
