-- Refused while a clear waits; otherwise the pages are offered, and then emptied.
use Rattle.std.proofs.Common.{refl, ap, ◌∙◌}
use Rattle.std.proofs.lemmas.Result.{err_from_is_err_and}
use Rattle.atlas_pages.specs.AllPages.{has_failed}
use Rattle.glyph_atlas.specs.Atlases.{Atlas}
use Rattle.glyph_atlas.specs.Calls.{refused, accepted}
use Rattle.glyph_atlas.proofs.atlas.GlyphAtlas.replay.Goals as goal

pub returns-in_err-no_clear_waits-clause-replays : goal.returns-in_err-no_clear_waits-clause-replays
returns-in_err-no_clear_waits-clause-replays g c =
    let p = err_from_is_err_and c.from_residual.result c.from_residual.ensures.1 in
    let e = c.in_err-no_clear_waits in
    rw (p.1, p.2) (refused e.field-0.0, ((e.ensures.0, e.ensures.1, refl), (refl, refl)))

pub returns-clause-replays : goal.returns-clause-replays
returns-clause-replays g c =
    let o = c.offer_all-answer.ensures in
    let q = c.offer_all-answer.result in
    let clean = ap (λ (a : Atlas). a.clears) c.self.view_is ∙ c.in_ok-no_clear_waits.ensures in
    rw (← c.self.view_is) (
      accepted o.offers.0 (has_failed q),
      (
        record {
          clean = clean;
          offered = o.offers.1.0;
          pages = c.clear.ensures.empties;
          entries = refl;
          clears = refl;
          uploads = refl;
          settings = record { age = refl; frequency = refl };
          clock = record { tick = refl; last_due = refl };
          counts = record { hits = refl; misses = refl };
        },
        (q, (refl, refl, o.offers.1.1)),
      ),
    )
