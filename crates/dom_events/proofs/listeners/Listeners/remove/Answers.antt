use Rattle.std.proofs.Common.{rules, ap, ◌∙◌}
use Rattle.std.specs.Prelude.{List}
use Rattle.std.proofs.lemmas.Fn.{filter_same}
use Rattle.dom_semantics.specs.declared.listeners.Registration.{Registration}
use Rattle.dom_semantics.specs.Listeners as spec
use Rattle.dom_events.proofs.listeners.Listeners.remove.Goals as goal

pub returns-clause-removed : goal.returns-clause-removed
returns-clause-removed c =
    let kept = filter_same _ _ _ (λ x b f' k. search rules) _ _ c.retain.ensures.filtered in
    ap (λ (xs : List Registration). record { registered = xs; given = c.self.inside.given }) kept ∙ ap (λ (ls : spec.Listeners). spec.listener_removed ls c.args.l.now) c.self.view_is
