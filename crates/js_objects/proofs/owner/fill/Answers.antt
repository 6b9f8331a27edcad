use Rattle.std.proofs.Common.{◌≡◌, ◌∙◌, ◌++◌, ◌∷◌, [], None, rules, true}
use Rattle.std.specs.Prelude.{is_ok}
use Rattle.js_objects.proofs.OwnerRows.{filled_next, filled_less}
use Rattle.js_objects.proofs.owner.fill.Goals as goal

pub loop-places-preserved : goal.loop-places-preserved
loop-places-preserved c =
    let ok : is_ok c.push.result ≡ true = search rules in
    let w : c.push.new.self.items ≡ c.loop-places.places.items ++ None ∷ [] = rw ok at c.push.ensures.items in
    (filled_next _ _ _ c.loop-places.invariant.0 w, filled_less _ _ _ _ _ c.loop-places.invariant.0 w (c.len.ensures ∙ c.loop-places.places.ok.0) c.loop-places-test.true)
