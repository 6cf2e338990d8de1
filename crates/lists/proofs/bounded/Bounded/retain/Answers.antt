-- The list keeps what the test accepts.
use Rattle.std.proofs.Common.{filter, ap, ◌∙◌, rules}
use Rattle.std.proofs.lemmas.Fn.{filter_same}
use Rattle.lists.proofs.bounded.Bounded.retain.Goals as goal

pub returns : goal.returns
returns g c =
    let accepts = g.P.Test.accepts c.args.test.now in
    filter_same _ accepts _ (λ x b f' k. search rules) _ _ c.retain.ensures.filtered ∙ ap (filter accepts) c.self.view_is
