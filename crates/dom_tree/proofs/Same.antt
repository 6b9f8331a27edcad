-- A change of the nodes that it touches is the change of the forest.
use Rattle.std.proofs.Common.{◌≡◌, ◌≢◌, ◌<◌, ℕ, false, List, length, ap, sym, ◌∙◌, arith, Option, Some, None, ⊎_elim, subst}
use Rattle.std.proofs.lemmas.Bool.{cases_eq, false_from_ne_true}
use Rattle.std.proofs.lemmas.List.{length-set}
use Rattle.dom_semantics.specs.Forest.{Node, Forest, IsForest, node_at, children_of, is_child, parent_of}
use Rattle.dom_semantics.specs.Changes.{removed, without, moved, placed, with_children}
use Rattle.dom_tree.proofs.Lists.{without_none}
use Rattle.dom_tree.proofs.NodeLemmas.{same_nodes, node_at-removed, node_at-set_same, node_at-set_other, length-removed}
use Rattle.dom_tree.proofs.Parents.{own_parents, parent_of-none, some_same}

-- these children, but else the node as it is
abbrev with : Node → List ℕ → Node
with x children = record x { children = children }

-- n is no child of the others
not_child : (f : Forest) → IsForest f → (n p m : ℕ) → parent_of f n ≡ Some p → m ≢ p → is_child f m n ≡ false
not_child f h n p m some ne = false_from_ne_true _ (λ yes. ne (some_same m p (sym ((own_parents f h).up m n yes) ∙ some)))

node_at-kept : (f : Forest) (n m : ℕ) → is_child f m n ≡ false → node_at (removed f n) m ≡ node_at f m
node_at-kept f n m out = node_at-removed f n m ∙ ap (with (node_at f m)) (without_none n (children_of f m) out)

moved-here : (f : Forest) (p n : ℕ) (b : Option ℕ) → p < length f → node_at (moved (removed f n) p n b) p ≡ with (node_at f p) (placed n b (without n (children_of f p)))
moved-here f p n b lt =
    let long = length-removed f n in
    node_at-set_same (removed f n) p _ (omega arith) ∙ ap (λ (x : Node). with x (placed n b x.children)) (node_at-removed f n p)

moved-there : (f : Forest) (p n : ℕ) (b : Option ℕ) (m : ℕ) → m ≢ p → node_at (moved (removed f n) p n b) m ≡ node_at (removed f n) m
moved-there f p n b m ne = node_at-set_other (removed f n) p _ m ne

pub length-moved : (f : Forest) (p n : ℕ) (b : Option ℕ) → length (moved (removed f n) p n b) ≡ length f
length-moved f p n b = length-set (removed f n) p _ ∙ length-removed f n

pub length-with : (f : Forest) (p : ℕ) (cs : List ℕ) → length (with_children f p cs) ≡ length f
length-with f p cs = length-set f p _

-- taken out of its parent alone
pub removed-at : (f : Forest) → IsForest f → (n p : ℕ) → p < length f → parent_of f n ≡ Some p → with_children f p (without n (children_of f p)) ≡ removed f n
removed-at f h n p lt some =
    same_nodes (with_children f p (without n (children_of f p))) (removed f n) (length-with f p _ ∙ sym (length-removed f n)) (λ m.
    ⊎_elim
    (λ e. subst (λ k. node_at (with_children f p (without n (children_of f p))) k ≡ node_at (removed f n) k) (sym e) (node_at-set_same f p _ lt ∙ sym (node_at-removed f n p)))
    (λ ne. node_at-set_other f p _ m ne ∙ sym (node_at-kept f n m (not_child f h n p m some ne)))
    (cases_eq m p))

-- moved among the children of its parent
pub moved-shift : (f : Forest) → IsForest f → (n p : ℕ) (b : Option ℕ) → p < length f → parent_of f n ≡ Some p → with_children f p (placed n b (without n (children_of f p))) ≡ moved (removed f n) p n b
moved-shift f h n p b lt some =
    let g = with_children f p (placed n b (without n (children_of f p))) in
    same_nodes g (moved (removed f n) p n b) (length-with f p _ ∙ sym (length-moved f p n b)) (λ m.
    ⊎_elim
    (λ e. subst (λ k. node_at g k ≡ node_at (moved (removed f n) p n b) k) (sym e) (node_at-set_same f p _ lt ∙ sym (moved-here f p n b lt)))
    (λ ne. node_at-set_other f p _ m ne ∙ sym (moved-there f p n b m ne ∙ node_at-kept f n m (not_child f h n p m some ne)))
    (cases_eq m p))

-- put in below a parent, from no other
pub moved-root : (f : Forest) → IsForest f → (n p : ℕ) (b : Option ℕ) → p < length f → parent_of f n ≡ None → with_children f p (placed n b (children_of f p)) ≡ moved (removed f n) p n b
moved-root f h n p b lt none =
    let g = with_children f p (placed n b (children_of f p)) in
    same_nodes g (moved (removed f n) p n b) (length-with f p _ ∙ sym (length-moved f p n b)) (λ m.
    ⊎_elim
    (λ e. subst (λ k. node_at g k ≡ node_at (moved (removed f n) p n b) k) (sym e) (node_at-set_same f p _ lt ∙ (ap (λ cs. with (node_at f p) (placed n b cs)) (sym (without_none n (children_of f p) (parent_of-none f n none p))) ∙ sym (moved-here f p n b lt))))
    (λ ne. node_at-set_other f p _ m ne ∙ sym (moved-there f p n b m ne ∙ node_at-kept f n m (parent_of-none f n none m)))
    (cases_eq m p))

-- put in below a parent and then taken out of another
pub moved-other : (f : Forest) → IsForest f → (n p q : ℕ) (b : Option ℕ) → p < length f → q < length f → parent_of f n ≡ Some q → q ≢ p → (g : Forest) → g ≡ with_children f p (placed n b (children_of f p)) → with_children g q (without n (children_of g q)) ≡ moved (removed f n) p n b
moved-other f h n p q b lt within some apart g is =
    let put = with_children f p (placed n b (children_of f p)) in
    let at_q : node_at g q ≡ node_at f q = ap (λ (k : Forest). node_at k q) is ∙ node_at-set_other f p _ q apart in
    let at_p : node_at g p ≡ with (node_at f p) (placed n b (children_of f p)) = ap (λ (k : Forest). node_at k p) is ∙ node_at-set_same f p _ lt in
    let long : length g ≡ length f = ap length is ∙ length-with f p _ in
    let whole = with_children g q (without n (children_of g q)) in
    let other : is_child f p n ≡ false = not_child f h n q p some (λ e. apart (sym e)) in
    same_nodes whole (moved (removed f n) p n b) (length-with g q _ ∙ (long ∙ sym (length-moved f p n b))) (λ m.
    ⊎_elim
    (λ e. subst (λ k. node_at whole k ≡ node_at (moved (removed f n) p n b) k) (sym e)
    (node_at-set_same g q _ (omega arith) ∙ (ap (λ (x : Node). with x (without n x.children)) at_q ∙ sym (moved-there f p n b q apart ∙ node_at-removed f n q))))
    (λ ne.
    ⊎_elim
    (λ e. subst (λ k. node_at whole k ≡ node_at (moved (removed f n) p n b) k) (sym e)
    (node_at-set_other g q _ p (λ i. apart (sym i)) ∙ (at_p ∙ (ap (λ cs. with (node_at f p) (placed n b cs)) (sym (without_none n (children_of f p) other)) ∙ sym (moved-here f p n b lt)))))
    (λ ne'.
    node_at-set_other g q _ m ne ∙ (ap (λ (k : Forest). node_at k m) is ∙ (node_at-set_other f p _ m ne' ∙ sym (moved-there f p n b m ne' ∙ node_at-kept f n m (not_child f h n q m some ne)))))
    (cases_eq m p))
    (cases_eq m q))
