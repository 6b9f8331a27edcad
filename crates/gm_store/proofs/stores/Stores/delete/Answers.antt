use Rattle.std.proofs.Common.{ap, sym, ◌∙◌, is_some}
use Rattle.std.specs.Option.{option_copied_mut}
use Rattle.std.specs.FinMap as map
use Rattle.gm_store.specs.Maps.{Maps, without_value}
use Rattle.gm_store.proofs.MapLemmas.{no_values_1, no_values_2, no_value, without_none, without_of, put_back}
use Rattle.gm_store.proofs.Fits.{same_fit, back_fit, delete_fit}
use Rattle.gm_store.proofs.stores.Stores.delete.Goals as goal

pub returns-in_default-clause-found : goal.returns-in_default-clause-found
returns-in_default-clause-found c =
    let m = c.args.self.now in let ns = c.args.namespace.now in let n = c.args.name.now in
    sym (ap is_some (no_value m ns n c.args.key.now (no_values_1 m ns n (ap (λ (t : Maps). map.get t ns) (sym c.self.view_is) ∙ sym c.get_mut.ensures.value ∙ ap option_copied_mut c.in_default.is))))

pub returns-in_default-clause-after : goal.returns-in_default-clause-after
returns-in_default-clause-after c =
    let m = c.args.self.now in let ns = c.args.namespace.now in let n = c.args.name.now in
    c.self.view_is ∙ sym (without_none m ns n c.args.key.now (no_value m ns n c.args.key.now (no_values_1 m ns n (ap (λ (t : Maps). map.get t ns) (sym c.self.view_is) ∙ sym c.get_mut.ensures.value ∙ ap option_copied_mut c.in_default.is))))

pub returns-in_default-get_mut-clause-found : goal.returns-in_default-get_mut-clause-found
returns-in_default-get_mut-clause-found c =
    let m = c.args.self.now in let ns = c.args.namespace.now in let n = c.args.name.now in
    sym (ap is_some (no_value m ns n c.args.key.now (no_values_2 m ns n c.in-Some.names.now
    (ap (λ (t : Maps). map.get t ns) (sym c.self.view_is) ∙ sym c.get_mut.ensures.value ∙ ap option_copied_mut c.in-Some.is)
    (sym c.get_mut-2.ensures.value ∙ ap option_copied_mut c.in_default-get_mut.is))))

pub returns-in_default-get_mut-clause-after : goal.returns-in_default-get_mut-clause-after
returns-in_default-get_mut-clause-after c =
    let m = c.args.self.now in let ns = c.args.namespace.now in let n = c.args.name.now in let names = c.in-Some.names.now in
    let here = sym c.get_mut.ensures.value ∙ ap option_copied_mut c.in-Some.is in
    put_back c.self.inside.scripts ns names here ∙ c.self.view_is
    ∙ sym (without_none m ns n c.args.key.now (no_value m ns n c.args.key.now (no_values_2 m ns n names (ap (λ (t : Maps). map.get t ns) (sym c.self.view_is) ∙ here) (sym c.get_mut-2.ensures.value ∙ ap option_copied_mut c.in_default-get_mut.is))))

pub returns-clause-after : goal.returns-clause-after
returns-clause-after c =
    let ns = c.args.namespace.now in let n = c.args.name.now in let names = c.in-Some.names.now in let k = c.args.key.now in
    ap (λ (t : _). map.insert c.self.inside.scripts ns (map.insert names n t)) c.remove.ensures.after
    ∙ without_of c.self.inside.scripts ns n k names c.in-Some-get_mut.values.now (sym c.get_mut.ensures.value ∙ ap option_copied_mut c.in-Some.is) (sym c.get_mut-2.ensures.value ∙ ap option_copied_mut c.in-Some-get_mut.is)
    ∙ ap (λ (t : Maps). without_value t ns n k) c.self.view_is

pub invariant_of-self-in_default-get_mut : goal.invariant_of-self-in_default-get_mut
invariant_of-self-in_default-get_mut c =
    back_fit c.self.inside.scripts c.args.namespace.now c.in-Some.names.now (sym c.get_mut.ensures.value ∙ ap option_copied_mut c.in-Some.is) c.self.invariant

pub invariant_of-self-2 : goal.invariant_of-self-2
invariant_of-self-2 c =
    let m = c.self.inside.scripts in
    let ns = c.args.namespace.now in let n = c.args.name.now in let names = c.in-Some.names.now in let k = c.args.key.now in
    same_fit (without_value m ns n k) _
    (ap (λ (t : _). map.insert m ns (map.insert names n t)) c.remove.ensures.after
    ∙ without_of m ns n k names c.in-Some-get_mut.values.now (sym c.get_mut.ensures.value ∙ ap option_copied_mut c.in-Some.is) (sym c.get_mut-2.ensures.value ∙ ap option_copied_mut c.in-Some-get_mut.is))
    (delete_fit m ns n k c.self.invariant)
