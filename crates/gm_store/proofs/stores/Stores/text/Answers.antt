use Rattle.std.proofs.Common.{ap, sym, ◌∙◌, ◌≤◌, ◌≡◌, subst, Some, List, ℕ}
use Rattle.std.specs.FinMap as map
use Rattle.serde_json.specs.Data.{Data, depth}
use Rattle.serde_json.specs.View.{view}
use Rattle.serde_json.specs.Written.{has_float, compact_text}
use Rattle.gm_store.specs.Limits.{MapsFit}
use Rattle.gm_store.specs.Maps.{Maps}
use Rattle.gm_store.specs.WrittenModel.{stored_model}
use Rattle.gm_store.proofs.OneReading.{loads_back}
use Rattle.gm_store.proofs.OneText.{stored_same}
use Rattle.gm_store.proofs.Plain.{stored_plain, stored_depth}
use Rattle.gm_store.proofs.stores.Stores.text.Goals as goal

pub returns-clause-text : goal.returns-clause-text
returns-clause-text c =
    let m = c.args.self.now in
    let is : view c.in_ok-value.value ≡ stored_model m = c.in_ok-value.ensures ∙ ap (λ (m : Maps). stored_model m) c.self.view_is in
    c.in_ok-to_vec.ensures.text (ap has_float is ∙ stored_plain m) ∙ ap compact_text (is ∙ stored_same m)

pub returns-clause-loads : goal.returns-clause-loads
returns-clause-loads c =
    let m = c.args.self.now in
    let is : view c.in_ok-value.value ≡ stored_model m = c.in_ok-value.ensures ∙ ap (λ (m : Maps). stored_model m) c.self.view_is in
    loads_back _ m (subst (λ (m : Maps). MapsFit (map.entries m)) c.self.view_is c.self.invariant)
    (c.in_ok-to_vec.ensures.utf8, c.in_ok-to_vec.ensures.reads_back (subst (λ (d : Data). depth d ≤ 127) (sym is) (stored_depth m)) ∙ ap (λ (d : Data). Some d) (is ∙ stored_same m))
