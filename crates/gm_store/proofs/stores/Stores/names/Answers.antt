use Rattle.std.proofs.Common.{ap, sym, ◌∙◌}
use Rattle.std.specs.Option.{option_copied}
use Rattle.std.specs.FinMap as map
use Rattle.std.proofs.lemmas.Result.{IfOk-weaker}
use Rattle.gm_store.specs.Maps.{Maps, values_in}
use Rattle.gm_store.proofs.OneText.{sorted_as}
use Rattle.gm_store.proofs.MapLemmas.{no_values_1, no_values_2, no_keys}
use Rattle.gm_store.proofs.stores.Stores.names.Goals as goal

pub returns-in_default : goal.returns-in_default
returns-in_default c =
    let m = c.args.self.now in let ns = c.args.namespace.now in let n = c.args.name.now in
    let all = c.new.ensures.items ∙ sym (no_keys _ (no_values_1 m ns n (ap (λ (t : Maps). map.get t ns) (sym c.self.view_is) ∙ sym c.get.ensures ∙ ap option_copied c.in_default.is))) in
    record { all = all; order = sorted_as _ (values_in m ns n) all }

pub returns-in_default-get : goal.returns-in_default-get
returns-in_default-get c =
    let m = c.args.self.now in let ns = c.args.namespace.now in let n = c.args.name.now in
    let all = c.new-in_default-get.ensures.items ∙ sym (no_keys _ (no_values_2 m ns n c.in-Some.names.now
    (ap (λ (t : Maps). map.get t ns) (sym c.self.view_is) ∙ sym c.get.ensures ∙ ap option_copied c.in-Some.is)
    (sym c.get-2.ensures ∙ ap option_copied c.in_default-get.is))) in
    record { all = all; order = sorted_as _ (values_in m ns n) all }

pub returns-clause-order : goal.returns-clause-order
returns-clause-order c = IfOk-weaker c.keys.result _ _ (λ ks all. sorted_as ks.items c.in-Some-get.values.now all) c.keys.ensures
