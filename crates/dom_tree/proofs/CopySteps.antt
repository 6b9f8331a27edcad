-- Copies that are laid one after another.
use Rattle.std.proofs.Common.{◌≡◌, ◌≢◌, ◌+◌, ◌-◌, ◌<◌, ◌≤◌, ℕ, List, [], ◌∷◌, ◌++◌, length, get_or, drop, refl, ap, sym, ◌∙◌, arith, append_assoc, Option, Some}
use Prim.Native.Nat.{zero, suc}
use Rattle.std.proofs.lemmas.List.{at_drop_more, at_drop_all, append-nil}
use Rattle.std.proofs.Math.Seq.{get_or-append_seam, set-append_seam}
use Rattle.std.specs.Prelude.{slice_set}
use Rattle.door.specs.declared.values.Actor.{Actor}
use Rattle.dom_semantics.specs.Forest.{Forest, Node, no_node, node_at, children_of}
use Rattle.dom_semantics.specs.Changes.{laid, starts, copied, with_children}
use Rattle.dom_tree.specs.Copies.{parents_laid, parents_of_copies}

pub laid-step : (lay : ℕ → ℕ → List Node) (a b : ℕ) (old new whole : List Node) (xs : List ℕ) (i : ℕ) → i < length xs → old ++ laid lay a (drop i xs) ≡ whole → new ≡ old ++ lay a (get_or xs i 0) → b ≡ a + length (lay a (get_or xs i 0)) → new ++ laid lay b (drop (i + 1) xs) ≡ whole
laid-step lay a b old new whole xs i lt is now next =
    let x = get_or xs i 0 in
    ap (λ n. n ++ laid lay b (drop (i + 1) xs)) now ∙ (ap (λ k. (old ++ lay a x) ++ laid lay k (drop (i + 1) xs)) next ∙ (append_assoc old (lay a x) (laid lay (a + length (lay a x)) (drop (i + 1) xs)) ∙ (ap (λ r. old ++ r) (sym (at_drop_more (laid lay a) xs i 0 lt)) ∙ is)))

pub parents-step : (lay : ℕ → ℕ → List (Option ℕ)) (a b : ℕ) (old new whole : List (Option ℕ)) (xs : List ℕ) (i : ℕ) → i < length xs → old ++ parents_laid lay a (drop i xs) ≡ whole → new ≡ old ++ lay a (get_or xs i 0) → b ≡ a + length (lay a (get_or xs i 0)) → new ++ parents_laid lay b (drop (i + 1) xs) ≡ whole
parents-step lay a b old new whole xs i lt is now next =
    let x = get_or xs i 0 in
    ap (λ n. n ++ parents_laid lay b (drop (i + 1) xs)) now ∙ (ap (λ k. (old ++ lay a x) ++ parents_laid lay k (drop (i + 1) xs)) next ∙ (append_assoc old (lay a x) (parents_laid lay (a + length (lay a x)) (drop (i + 1) xs)) ∙ (ap (λ r. old ++ r) (sym (at_drop_more (parents_laid lay a) xs i 0 lt)) ∙ is)))

pub starts-step : (lay : ℕ → ℕ → List Node) (a b : ℕ) (old new whole : List ℕ) (xs : List ℕ) (i : ℕ) → i < length xs → old ++ starts lay a (drop i xs) ≡ whole → new ≡ old ++ a ∷ [] → b ≡ a + length (lay a (get_or xs i 0)) → new ++ starts lay b (drop (i + 1) xs) ≡ whole
starts-step lay a b old new whole xs i lt is now next =
    let x = get_or xs i 0 in
    ap (λ n. n ++ starts lay b (drop (i + 1) xs)) now ∙ (ap (λ k. (old ++ a ∷ []) ++ starts lay k (drop (i + 1) xs)) next ∙ (append_assoc old (a ∷ []) (starts lay (a + length (lay a x)) (drop (i + 1) xs)) ∙ (ap (λ r. old ++ r) (sym (at_drop_more (starts lay a) xs i 0 lt)) ∙ is)))

-- the end, where none is left
pub laid-end : (lay : ℕ → ℕ → List Node) (a : ℕ) (new whole : List Node) (xs : List ℕ) (i : ℕ) → length xs ≤ i → new ++ laid lay a (drop i xs) ≡ whole → new ≡ whole
laid-end lay a new whole xs i past is = sym (append-nil new) ∙ (ap (λ r. new ++ r) (sym (at_drop_all (laid lay a) xs i past)) ∙ is)

pub parents-end : (lay : ℕ → ℕ → List (Option ℕ)) (a : ℕ) (new whole : List (Option ℕ)) (xs : List ℕ) (i : ℕ) → length xs ≤ i → new ++ parents_laid lay a (drop i xs) ≡ whole → new ≡ whole
parents-end lay a new whole xs i past is = sym (append-nil new) ∙ (ap (λ r. new ++ r) (sym (at_drop_all (parents_laid lay a) xs i past)) ∙ is)

pub starts-end : (lay : ℕ → ℕ → List Node) (a : ℕ) (new whole : List ℕ) (xs : List ℕ) (i : ℕ) → length xs ≤ i → new ++ starts lay a (drop i xs) ≡ whole → new ≡ whole
starts-end lay a new whole xs i past is = sym (append-nil new) ∙ (ap (λ r. new ++ r) (sym (at_drop_all (starts lay a) xs i past)) ∙ is)

-- the copy of a node with its children, before those of the children
pub copied-more : (levels : ℕ) (f : Forest) (maker : Actor) (at n : ℕ) → levels ≢ 0 → record (node_at f n) { maker = maker; children = starts (copied (levels - 1) f maker) (at + 1) (children_of f n) } ∷ laid (copied (levels - 1) f maker) (at + 1) (children_of f n) ≡ copied levels f maker at n
copied-more zero f maker at n ne = absurd (ne refl)
copied-more (suc levels) f maker at n ne =
    let same : suc levels - 1 ≡ levels = omega arith in
    ap (λ k. (record (node_at f n) { maker = maker; children = starts (copied k f maker) (at + 1) (children_of f n) } ∷ laid (copied k f maker) (at + 1) (children_of f n))) same

pub parents-more : (levels : ℕ) (f : Forest) (parent : Option ℕ) (at n : ℕ) → levels ≢ 0 → parent ∷ parents_laid (parents_of_copies (levels - 1) f (Some at)) (at + 1) (children_of f n) ≡ parents_of_copies levels f parent at n
parents-more zero f parent at n ne = absurd (ne refl)
parents-more (suc levels) f parent at n ne =
    let same : suc levels - 1 ≡ levels = omega arith in
    ap (λ k. (parent ∷ parents_laid (parents_of_copies k f (Some at)) (at + 1) (children_of f n))) same

-- a node among others gets its children
pub with_children-seam : (old : List Node) (x : Node) (rest : List Node) (cs : List ℕ) → with_children (old ++ x ∷ rest) (length old) cs ≡ old ++ record x { children = cs } ∷ rest
with_children-seam old x rest cs =
    ap (λ (y : Node). slice_set (old ++ x ∷ rest) (length old) (record y { children = cs })) (get_or-append_seam old x rest no_node) ∙ set-append_seam old x rest (record x { children = cs })
