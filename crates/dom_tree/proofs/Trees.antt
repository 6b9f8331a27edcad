-- What is kept of a tree by each change.
use Rattle.std.proofs.Common.{◌≡◌, ◌+◌, ◌<◌, ◌≤◌, ◌^◌, ℕ, Bool, true, false, cond, List, [], ◌∷◌, ◌++◌, length, get_or, refl, ap, sym, ◌∙◌, arith, Option, Some, None, ⊎_elim, subst}
use Rattle.std.specs.Prelude.{nat_eq, slice_set}
use Rattle.std.proofs.lemmas.Bool.{cases_eq, both_ways}
use Rattle.std.proofs.lemmas.List.{length_push, length-set, get_or_past}
use Prim.Native.Nat.{zero, suc}
use Rattle.door.specs.declared.values.Actor.{Actor}
use Rattle.dom_semantics.specs.Forest.{Node, Forest, IsForest, Form, Root, Tagged, Written, Noted, no_node, new_node, node_at, form_at, children_of, is_among, is_document, made_by, parent_of, depth_of, are_different}
use Rattle.dom_semantics.specs.Changes.{created}
use Rattle.dom_tree.specs.Counts.{count_in, IsRaised}
use Rattle.dom_tree.specs.Forms.{form_of, data_in}
use Rattle.dom_tree.specs.declared.form.NodeForm.{NodeForm}
use Rattle.dom_tree.specs.declared.form.NodeForm.TheVariants.{Element, Str, Comment}
use Rattle.dom_tree.specs.Tree.{IsTree}
use Rattle.dom_tree.proofs.NodeLemmas.{node_at-set_same, node_at-set_other, made_by-set, made_by-append, made_by-one, one_of, node_at-pushed, node_at-pushed_other}
use Rattle.dom_tree.proofs.Parents.{HasParents, parent_of-is, parent_of-child, cases_option, own_parents, forest_from, depth_of-some}

-- where children and the document stay, so do the parents
pub same_parents : (f g : Forest) → IsForest f → ((n : ℕ) → children_of g n ≡ children_of f n) → HasParents g (parent_of f)
same_parents f g h same =
    let own = own_parents f h in
    record {
      up = λ p c e. own.up p c (ap (is_among c) (sym (same p)) ∙ e);
      down = λ p c e. ap (is_among c) (same p) ∙ own.down p c e;
    }

pub falls : (f : Forest) → IsForest f → (c p : ℕ) → parent_of f c ≡ Some p → depth_of f p < depth_of f c
falls f h c p e = let d = depth_of-some f h c p e in omega arith

pub no_parent : (f : Forest) → IsForest f → parent_of f 0 ≡ None
no_parent f h =
    ⊎_elim (λ none. none) (λ (p, some). absurd (both_ways _ (h.free p) (parent_of-child f 0 p some))) (cases_option (parent_of f 0))

pub same_forest : (f g : Forest) → IsForest f → length f ≤ length g → ((n : ℕ) → children_of g n ≡ children_of f n) → ((n : ℕ) → is_document (form_at g n) ≡ is_document (form_at f n)) → IsForest g
same_forest f g h long same kind =
    forest_from g (parent_of f) (depth_of f) (same_parents f g h same)
    (kind 0 ∙ h.document) (λ n. kind (suc n) ∙ h.alone n)
    (λ p c e. let less = h.known p c ((own_parents f h).down p c e) in omega arith)
    (no_parent f h)
    (λ p. ap are_different (same p) ∙ h.once p)
    (falls f h) (h.shallow)

-- a node is replaced by one with the same children, maker and kind
pub tree-set : (f : Forest) (above : List (Option ℕ)) (tally : List (Actor × ℕ)) (n : ℕ) (x : Node) → n < length f → x.children ≡ children_of f n → is_document x.form ≡ is_document (form_at f n) → x.maker ≡ (node_at f n).maker → IsTree f above tally → IsTree (slice_set f n x) above tally
tree-set f above tally n x lt children kind maker t =
    let g = slice_set f n x in
    let same : (q : ℕ) → children_of g q ≡ children_of f q =
    λ q. ⊎_elim (λ e. subst (λ m. children_of g m ≡ children_of f m) (sym e) (ap (λ (y : Node). y.children) (node_at-set_same f n x lt) ∙ children)) (λ ne. ap (λ (y : Node). y.children) (node_at-set_other f n x q ne)) (cases_eq q n) in
    let kinds : (q : ℕ) → is_document (form_at g q) ≡ is_document (form_at f q) =
    λ q. ⊎_elim (λ e. subst (λ m. is_document (form_at g m) ≡ is_document (form_at f m)) (sym e) (ap (λ (y : Node). is_document y.form) (node_at-set_same f n x lt) ∙ kind)) (λ ne. ap (λ (y : Node). is_document y.form) (node_at-set_other f n x q ne)) (cases_eq q n) in
    record {
      forest = same_forest f g t.forest (omega (arith, length-set f n x)) same kinds;
      parents = λ m. t.parents m ∙ sym (parent_of-is g (parent_of f) (same_parents f g t.forest same) m);
      rows = t.rows ∙ sym (length-set f n x);
      counts = λ m. t.counts m ∙ sym (made_by-set f n x m lt maker);
      small = rw (length-set f n x) t.small;
    }

-- a row of no parent more changes no row
pub get_or-None : (above : List (Option ℕ)) (m : ℕ) → get_or (above ++ None ∷ []) m None ≡ get_or above m None
get_or-None [] zero = refl
get_or-None [] (suc m) = refl
get_or-None (x ∷ above) zero = refl
get_or-None (x ∷ above) (suc m) = get_or-None above m

cond_plus : (b : Bool) (n k : ℕ) → cond b (n + k) n ≡ n + cond b k 0
cond_plus true n k = refl
cond_plus false n k = omega arith

-- a node more, which is no document and has no children
pub tree-pushed_node : (f : Forest) (above : List (Option ℕ)) (tally more : List (Actor × ℕ)) (x : Node) → x.children ≡ [] → is_document x.form ≡ false → length f + 1 < 2 ^ 32 → IsRaised tally more x.maker 1 → IsTree f above tally → IsTree (f ++ x ∷ []) (above ++ None ∷ []) more
tree-pushed_node f above tally more x leaf plain small counted t =
    let g = f ++ x ∷ [] in
    let past : node_at f (length f) ≡ no_node = get_or_past f (length f) no_node (omega arith) in
    let same : (q : ℕ) → children_of g q ≡ children_of f q =
    λ q. ⊎_elim (λ e. subst (λ m. children_of g m ≡ children_of f m) (sym e) (ap (λ (y : Node). y.children) (node_at-pushed f x) ∙ (leaf ∙ ap (λ (y : Node). y.children) (sym past)))) (λ ne. ap (λ (y : Node). y.children) (node_at-pushed_other f x q ne)) (cases_eq q (length f)) in
    let kinds : (q : ℕ) → is_document (form_at g q) ≡ is_document (form_at f q) =
    λ q. ⊎_elim (λ e. subst (λ m. is_document (form_at g m) ≡ is_document (form_at f m)) (sym e) (ap (λ (y : Node). is_document y.form) (node_at-pushed f x) ∙ (plain ∙ ap (λ (y : Node). is_document y.form) (sym past)))) (λ ne. ap (λ (y : Node). is_document y.form) (node_at-pushed_other f x q ne)) (cases_eq q (length f)) in
    let long = length_push f x in
    let rows = length_push above None in
    record {
      forest = same_forest f g t.forest (omega arith) same kinds;
      parents = λ m. get_or-None above m ∙ (t.parents m ∙ sym (parent_of-is g (parent_of f) (same_parents f g t.forest same) m));
      rows = rows ∙ (ap (λ n. n + 1) t.rows ∙ sym long);
      counts = λ m. counted m ∙ (cond_plus (nat_eq x.maker.0 m.0) (count_in tally m) 1 ∙ (ap (λ k. k + one_of x m) (t.counts m) ∙ sym (made_by-append f (x ∷ []) m ∙ ap (λ k. made_by f m + k) (made_by-one x m))));
      small = rw long small;
    }

-- a node more as it is made
pub tree-pushed : (f : Forest) (above : List (Option ℕ)) (tally more : List (Actor × ℕ)) (maker : Actor) (form : Form) → is_document form ≡ false → length f + 1 < 2 ^ 32 → IsRaised tally more maker 1 → IsTree f above tally → IsTree (created f maker form) (above ++ None ∷ []) more
tree-pushed f above tally more maker form plain small counted t = tree-pushed_node f above tally more (new_node maker form) refl plain small counted t

-- the same tree, with counts that tell the same
pub tree_of : (f g : Forest) (above rows : List (Option ℕ)) (tally counts : List (Actor × ℕ)) → g ≡ f → rows ≡ above → ((other : Actor) → count_in counts other ≡ count_in tally other) → IsTree f above tally → IsTree g rows counts
tree_of f g above rows tally counts nodes same alike t =
    subst (λ (h : Forest). IsTree h rows counts) (sym nodes) (subst (λ (r : List (Option ℕ)). IsTree f r counts) (sym same) (record {
      forest = t.forest;
      parents = t.parents;
      rows = t.rows;
      counts = λ m. alike m ∙ t.counts m;
      small = t.small;
    }))

-- a node more
pub tree_with : (f g : Forest) (above rows : List (Option ℕ)) (tally counts : List (Actor × ℕ)) (maker : Actor) (form : Form) → is_document form ≡ false → length f + 1 < 2 ^ 32 → g ≡ created f maker form → rows ≡ above ++ None ∷ [] → IsRaised tally counts maker 1 → IsTree f above tally → IsTree g rows counts
tree_with f g above rows tally counts maker form plain small nodes same raised t =
    subst (λ (h : Forest). IsTree h rows counts) (sym nodes) (subst (λ (r : List (Option ℕ)). IsTree (created f maker form) r counts) (sym same) (tree-pushed f above tally counts maker form plain small raised t))

-- a node more, which is no document and has no children
pub tree_with_node : (f g : Forest) (above rows : List (Option ℕ)) (tally counts : List (Actor × ℕ)) (x : Node) → x.children ≡ [] → is_document x.form ≡ false → length f + 1 < 2 ^ 32 → g ≡ f ++ x ∷ [] → rows ≡ above ++ None ∷ [] → IsRaised tally counts x.maker 1 → IsTree f above tally → IsTree g rows counts
tree_with_node f g above rows tally counts x leaf plain small nodes same raised t =
    subst (λ (h : Forest). IsTree h rows counts) (sym nodes) (subst (λ (r : List (Option ℕ)). IsTree (f ++ x ∷ []) r counts) (sym same) (tree-pushed_node f above tally counts x leaf plain small raised t))

pub is_document-form_of : (form : NodeForm) → is_document (form_of form) ≡ false
is_document-form_of (Element tag) = refl
is_document-form_of (Str text) = refl
is_document-form_of (Comment text) = refl

pub is_document-data_in : (form : Form) (text : List ℕ) → is_document (data_in form text) ≡ is_document form
is_document-data_in Root text = refl
is_document-data_in (Tagged tag) text = refl
is_document-data_in (Written old) text = refl
is_document-data_in (Noted old) text = refl
