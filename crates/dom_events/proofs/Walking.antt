-- The walk's words, place by place.
use Rattle.std.proofs.Common.{◌≡◌, ◌+◌, ◌<◌, ◌≤◌, ℕ, false, List, length, get_or, drop, ap, sym, ◌∙◌, Some, None}
use Rattle.std.specs.Prelude.{option_map}
use Rattle.std.proofs.lemmas.List.{at_drop_more, at_drop_all}
use Rattle.dom_semantics.specs.declared.listeners.Registration.{Registration}
use Rattle.dom_semantics.specs.declared.listeners.Due.{Due}
use Rattle.dom_semantics.specs.declared.listeners.Visit.{Visit}
use Rattle.dom_events.specs.Steps.{found_at}
use Rattle.dom_semantics.specs.Walks.{Found, due_at, or_found, found_among, registered_as, step_along, step_at, or_step, copied_at}

-- the registration at a place is still registered, or it isn't
pub found_among-passed : (registered : List Registration) (here : Visit) (ns : List ℕ) (i : ℕ) (a : Registration) → i < length ns → registered_as registered (get_or ns i 0) ≡ Some a → found_among registered here (drop i ns) ≡ Some (record { due = due_at here a; rest = drop (i + 1) ns })
found_among-passed registered here ns i a lt e =
    at_drop_more (found_among registered here) ns i 0 lt
    ∙ ap (λ o. or_found o here (drop (i + 1) ns) (found_among registered here (drop (i + 1) ns))) e

pub found_among-failed : (registered : List Registration) (here : Visit) (ns : List ℕ) (i : ℕ) → i < length ns → registered_as registered (get_or ns i 0) ≡ None → found_among registered here (drop i ns) ≡ found_among registered here (drop (i + 1) ns)
found_among-failed registered here ns i lt e =
    at_drop_more (found_among registered here) ns i 0 lt
    ∙ ap (λ o. or_found o here (drop (i + 1) ns) (found_among registered here (drop (i + 1) ns))) e

pub found_among-end : (registered : List Registration) (here : Visit) (ns : List ℕ) (i : ℕ) → length ns ≤ i → found_among registered here (drop i ns) ≡ None
found_among-end registered here ns i past = at_drop_all (found_among registered here) ns i past

-- the visit at a place has a step, or it has none
pub step_along-passed : (registered : List Registration) (kind : List ℕ) (event : ℕ) (vs : List Visit) (i : ℕ) (d : Visit) (found : Found) → i < length vs → found_among registered (get_or vs i d) (copied_at registered kind (get_or vs i d)) ≡ Some found → step_along registered kind event (drop i vs) ≡ Some (step_at event (get_or vs i d) (drop (i + 1) vs) found)
step_along-passed registered kind event vs i d found lt e =
    at_drop_more (step_along registered kind event) vs i d lt
    ∙ ap (λ o. or_step (option_map (step_at event (get_or vs i d) (drop (i + 1) vs)) o) false (step_along registered kind event (drop (i + 1) vs))) e

pub step_along-failed : (registered : List Registration) (kind : List ℕ) (event : ℕ) (vs : List Visit) (i : ℕ) (d : Visit) → i < length vs → found_among registered (get_or vs i d) (copied_at registered kind (get_or vs i d)) ≡ None → step_along registered kind event (drop i vs) ≡ step_along registered kind event (drop (i + 1) vs)
step_along-failed registered kind event vs i d lt e =
    at_drop_more (step_along registered kind event) vs i d lt
    ∙ ap (λ o. or_step (option_map (step_at event (get_or vs i d) (drop (i + 1) vs)) o) false (step_along registered kind event (drop (i + 1) vs))) e

pub step_along-end : (registered : List Registration) (kind : List ℕ) (event : ℕ) (vs : List Visit) (i : ℕ) → length vs ≤ i → step_along registered kind event (drop i vs) ≡ None
step_along-end registered kind event vs i past = at_drop_all (step_along registered kind event) vs i past

-- what was found among the numbers that were copied at the visit at a place
pub step_along-came : (registered : List Registration) (kind : List ℕ) (event : ℕ) (vs : List Visit) (i : ℕ) (d : Visit) (now items : List ℕ) (at : ℕ) (due : Due) → i < length vs → now ≡ items → items ≡ copied_at registered kind (get_or vs i d) → found_among registered (get_or vs i d) now ≡ Some (found_at now (at, due)) → due.visit ≡ get_or vs i d → step_along registered kind event (drop i vs) ≡ Some (record { due = due; left = record { event = event; here = due.visit; copied = drop (at + 1) items; ahead = drop (i + 1) vs } })
step_along-came registered kind event vs i d now items at due lt same copied found visit =
    let pair : ℕ × Due = (at, due) in
    let e = ap (λ ns. found_among registered (get_or vs i d) ns) (sym (same ∙ copied)) ∙ (found ∙ ap (λ ns. Some (found_at ns pair)) same) in
    step_along-passed registered kind event vs i d (found_at items pair) lt e
    ∙ ap (λ h. Some (record { due = due; left = record { event = event; here = h; copied = drop (at + 1) items; ahead = drop (i + 1) vs } })) (sym visit)
