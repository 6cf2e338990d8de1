use Rattle.std.proofs.Common.{◌≡◌, ℕ, ◌+◌, Bool, true, false, not, cond, ap, ◌∙◌, subst}
use Rattle.indexmap.specs.IndexSet.{keys, contains, insert_key}
use Rattle.glyph_key.specs.declared.key.GlyphCacheKey.{GlyphCacheKey}
use Rattle.try_page.proofs.Keys.{alike, put_last}
use Rattle.try_page.proofs.key_set.KeySet.add.Goals as goal

counted : (known added : Bool) (n m : ℕ) → added ≡ not known → m ≡ n + cond added 1 0 → m ≡ n + cond known 0 1
counted true added n m e h = h ∙ ap (λ (b : Bool). n + cond b 1 0) e
counted false added n m e h = h ∙ ap (λ (b : Bool). n + cond b 1 0) e

pub returns : goal.returns
returns c =
    let Same : Type 0 = GlyphCacheKey → GlyphCacheKey → Bool in
    let old = c.args.self.now.items in
    let clauses = c.in_ok-insert.ensures in
    let order = clauses.keys ∙ (ap (λ (same : Same). insert_key same (keys old) c.args.key) alike ∙ put_last (keys old) c.args.key) in
    let added = clauses.added ∙ ap (λ (same : Same). not (contains same old c.args.key)) alike in (
      added,
      record {
        has = λ q. let At : Same → Type 0 = λ same. contains same c.insert.new.self q ≡ cond (same c.args.key q) true (contains same old q) in subst At alike (clauses.updates.0 q);
        count = counted _ _ _ _ added clauses.len;
        order = order;
      },
    )
