-- What is kept of a tree where the children of a node are taken out, and where one text is put in their place.
use Rattle.std.proofs.Common.{◌≡◌, ◌≢◌, ◌+◌, ◌-◌, ◌<◌, ◌≤◌, ◌^◌, ℕ, Bool, true, false, cond, List, [], ◌∷◌, ◌++◌, length, get_or, take, refl, ap, sym, ◌∙◌, arith, Option, Some, None, ⊎_elim, subst}
use Rattle.std.specs.Prelude.{nat_eq, ◌||◌, slice_set}
use Rattle.std.proofs.lemmas.Bool.{cases_eq, cases_Bool, both_ways, false≢true, or_right, eq-eqb, ne_eqb, cond-true, cond-false, false_from_ne_true}
use Rattle.std.proofs.lemmas.List.{get_or-set_same, get_or-set_other, length-set, length_push, set-set}
use Rattle.std.proofs.lemmas.List.Folds.{list_any_more}
use Prim.Native.Nat.{zero, suc}
use Rattle.std.specs.List.{list_all}
use Rattle.door.specs.declared.values.Actor.{Actor}
use Rattle.dom_semantics.specs.Forest.{Node, Forest, IsForest, Written, new_node, node_at, form_at, children_of, is_child, is_among, is_document, parent_of, up_from, ancestors_of, depth_of, has_levels, DEPTH_LIMIT, are_different}
use Rattle.dom_semantics.specs.Changes.{removed, moved, with_children, created}
use Rattle.dom_tree.specs.Counts.{IsRaised}
use Rattle.dom_tree.specs.Tree.{IsTree}
use Rattle.dom_tree.proofs.Moves.{CanMove, tree-moved}
use Rattle.dom_tree.proofs.NodeLemmas.{node_at-set_same, node_at-set_other, node_at-pushed, node_at-pushed_other, made_by-set}
use Rattle.dom_tree.proofs.Parents.{HasParents, parent_of-is, parent_of-child, own_parents, cases_option, none≢some, forest_from, up_from-some, up_from-none, up_from-rank}
use Rattle.dom_tree.proofs.Same.{moved-root}
use Rattle.dom_tree.proofs.Trees.{falls, no_parent, tree-pushed, get_or-None}

-- one more of the numbers has no parent
pub orphan-more : (rows : List (Option ℕ)) (numbers : List ℕ) (i m : ℕ) (old : Option ℕ) → i < length numbers → get_or numbers i 0 < length rows → get_or rows m None ≡ cond (is_among m (take i numbers)) None old → get_or (slice_set rows (get_or numbers i 0) None) m None ≡ cond (is_among m (take (i + 1) numbers)) None old
orphan-more rows numbers i m old lt within before =
    let x = get_or numbers i 0 in
    let more : is_among m (take (i + 1) numbers) ≡ (is_among m (take i numbers) || nat_eq m x) = list_any_more (nat_eq m) numbers i 0 lt in
    ⊎_elim
    (λ e.
    let hit : is_among m (take (i + 1) numbers) ≡ true = more ∙ or_right (is_among m (take i numbers)) (nat_eq m x) (eq-eqb m x e) in
    ap (λ k. get_or (slice_set rows x None) k None) e ∙ (get_or-set_same rows x None None within ∙ sym (cond-true _ None old hit)))
    (λ ne.
    let miss : is_among m (take (i + 1) numbers) ≡ is_among m (take i numbers) = more ∙ (ap (λ b. is_among m (take i numbers) || b) (ne_eqb m x ne) ∙ or_false (is_among m (take i numbers))) in
    get_or-set_other rows x m None None ne ∙ (before ∙ ap (λ b. cond b None old) (sym miss)))
    (cases_eq m x)
  where
    or_false : (b : Bool) → (b || false) ≡ b
    or_false true = refl
    or_false false = refl

-- the parents where the children of n are roots
abbrev pub emptied : Forest → ℕ → ℕ → Option ℕ
emptied f n c = cond (is_child f n c) None (parent_of f c)

children_of-emptied : (f : Forest) (n : ℕ) → n < length f → children_of (with_children f n []) n ≡ []
children_of-emptied f n lt = ap (λ (y : Node). y.children) (node_at-set_same f n _ lt)

children_of-others : (f : Forest) (n : ℕ) (cs : List ℕ) (p : ℕ) → p ≢ n → children_of (with_children f n cs) p ≡ children_of f p
children_of-others f n cs p ne = ap (λ (y : Node). y.children) (node_at-set_other f n _ p ne)

pub is_document-with : (f : Forest) (n : ℕ) (cs : List ℕ) (m : ℕ) → n < length f → is_document (form_at (with_children f n cs) m) ≡ is_document (form_at f m)
is_document-with f n cs m lt =
    ⊎_elim
    (λ e. subst (λ k. is_document (form_at (with_children f n cs) k) ≡ is_document (form_at f k)) (sym e) (ap (λ (y : Node). is_document y.form) (node_at-set_same f n _ lt)))
    (λ ne. ap (λ (y : Node). is_document y.form) (node_at-set_other f n _ m ne))
    (cases_eq m n)

pub emptied_parents : (f : Forest) (n : ℕ) → IsForest f → n < length f → HasParents (with_children f n []) (emptied f n)
emptied_parents f n h lt =
    let own = own_parents f h in
    record {
      up = λ p c e.
          ⊎_elim
          (λ same. absurd (false≢true (sym (ap (is_among c) (ap (children_of (with_children f n [])) same ∙ children_of-emptied f n lt)) ∙ e)))
          (λ ne.
          let child : is_child f p c ≡ true = ap (is_among c) (sym (children_of-others f n [] p ne)) ∙ e in
          cond-false _ None _ (false_from_ne_true _ (λ yes. ne (h.one_parent p n c child yes))) ∙ own.up p c child)
          (cases_eq p n);
      down = λ p c e.
          ⊎_elim
          (λ yes. absurd (none≢some p (sym (cond-true _ None _ yes) ∙ e)))
          (λ out.
          let child : is_child f p c ≡ true = own.down p c (sym (cond-false _ None _ out) ∙ e) in
          let ne : p ≢ n = λ same. both_ways _ out (subst (λ k. is_child f k c ≡ true) same child) in
          ap (is_among c) (children_of-others f n [] p ne) ∙ child)
          (cases_Bool (is_child f n c));
    }

-- a parent that is left is the one that was
pub kept_emptied : (f : Forest) (n c p : ℕ) → emptied f n c ≡ Some p → parent_of f c ≡ Some p
kept_emptied f n c p e =
    ⊎_elim (λ yes. absurd (none≢some p (sym (cond-true _ None _ yes) ∙ e))) (λ out. sym (cond-false _ None _ out) ∙ e) (cases_Bool (is_child f n c))

pub forest-emptied : (f : Forest) (n : ℕ) → IsForest f → n < length f → IsForest (with_children f n [])
forest-emptied f n h lt =
    let long = length-set f n (record (node_at f n) { children = [] }) in
    forest_from (with_children f n []) (emptied f n) (depth_of f) (emptied_parents f n h lt)
    (is_document-with f n [] 0 lt ∙ h.document)
    (λ m. is_document-with f n [] (suc m) lt ∙ h.alone m)
    (λ p c e. let less = h.known p c (parent_of-child f c p (kept_emptied f n c p e)) in omega arith)
    (⊎_elim (λ yes. cond-true _ None _ yes) (λ out. cond-false _ None _ out ∙ no_parent f h) (cases_Bool (is_child f n 0)))
    (λ p.
    ⊎_elim
    (λ same. ap are_different (ap (children_of (with_children f n [])) same ∙ children_of-emptied f n lt))
    (λ ne. ap are_different (children_of-others f n [] p ne) ∙ h.once p)
    (cases_eq p n))
    (λ c p e. falls f h c p (kept_emptied f n c p e))
    (h.shallow)

-- the rows where the children of n are roots
pub record Orphaned (f : Forest) (n : ℕ) (above rows : List (Option ℕ)) : Type 0 where
  pub long : length rows ≡ length above
  pub gone : (m : ℕ) → get_or rows m None ≡ cond (is_child f n m) None (get_or above m None)

pub tree-emptied : (f : Forest) (above rows : List (Option ℕ)) (tally : List (Actor × ℕ)) (n : ℕ) → n < length f → Orphaned f n above rows → IsTree f above tally → IsTree (with_children f n []) rows tally
tree-emptied f above rows tally n lt o t =
    let x = record (node_at f n) { children = [] } in
    let long = length-set f n x in
    record {
      forest = forest-emptied f n t.forest lt;
      parents = λ m. o.gone m ∙ (ap (λ p. cond (is_child f n m) None p) (t.parents m) ∙ sym (parent_of-is (with_children f n []) (emptied f n) (emptied_parents f n t.forest lt) m));
      rows = o.long ∙ (t.rows ∙ sym long);
      counts = λ m. t.counts m ∙ sym (made_by-set f n x m lt refl);
      small = rw long t.small;
    }

-- a node without children is above none
childless-above : (f : Forest) (k : ℕ) → children_of f k ≡ [] → (l n : ℕ) → is_among k (up_from l f n) ≡ false
childless-above f k none zero n = refl
childless-above f k none (suc l) n =
    ⊎_elim
    (λ root. ap (is_among k) (up_from-none (suc l) f n root))
    (λ (p, some).
    let other : nat_eq k p ≡ false =
    ne_eqb k p (λ e. false≢true (sym (ap (is_among n) (ap (children_of f) (sym e) ∙ none)) ∙ parent_of-child f n p some)) in
    ap (is_among k) (up_from-some l f n p some) ∙ (ap (λ b. b || is_among k (up_from l f p)) other ∙ childless-above f k none l p))
    (cases_option (parent_of f n))

leaf-levels : (k : ℕ) (f : Forest) (n : ℕ) → 0 < k → children_of f n ≡ [] → has_levels k f n ≡ true
leaf-levels zero f n lt none = absurd (omega arith)
leaf-levels (suc k) f n lt none = ap (λ cs. list_all (λ child. has_levels k f child) cs) none

-- the new node is nobody's child
no_child-new : (f : Forest) (x : Node) → IsForest f → x.children ≡ [] → (p : ℕ) → is_child (f ++ x ∷ []) p (length f) ≡ false
no_child-new f x h none p =
    ⊎_elim
    (λ e. ap (λ q. is_child (f ++ x ∷ []) q (length f)) e ∙ (ap (λ (y : Node). is_among (length f) y.children) (node_at-pushed f x) ∙ ap (is_among (length f)) none))
    (λ ne. false_from_ne_true _ (λ yes.
    let less = h.known p (length f) (sym (ap (λ (y : Node). is_among (length f) y.children) (node_at-pushed_other f x p ne)) ∙ yes) in
    absurd (omega arith)))
    (cases_eq p (length f))

root-new : (f : Forest) (k : ℕ) → ((p : ℕ) → is_child f p k ≡ false) → parent_of f k ≡ None
root-new f k none =
    ⊎_elim (λ root. root) (λ (p, some). absurd (both_ways _ (none p) (parent_of-child f k p some))) (cases_option (parent_of f k))

-- one new text in place of the children of n
pub tree-texted : (f : Forest) (above rows : List (Option ℕ)) (tally counts : List (Actor × ℕ)) (maker : Actor) (t : List ℕ) (n : ℕ) → IsTree f above tally → n < length f → depth_of f n < DEPTH_LIMIT → length f + 1 < 2 ^ 32 → IsRaised tally counts maker 1 → Orphaned (created f maker (Written t)) n (above ++ None ∷ []) rows → IsTree (with_children (created f maker (Written t)) n (length f ∷ [])) (slice_set rows (length f) (Some n)) counts
tree-texted f above rows tally counts maker t n tree lt depth small raised o =
    let k = length f in
    let g = created f maker (Written t) in
    let long : length g ≡ k + 1 = length_push f _ in
    let within : n < length g = omega arith in
    let g-tree = tree-pushed f above tally counts maker (Written t) refl small raised tree in
    let e = with_children g n [] in
    let e-long : length e ≡ length g = length-set g n _ in
    let e-tree = tree-emptied g (above ++ None ∷ []) rows counts n within o g-tree in
    let ne : k ≢ n = (λ same. absurd (omega arith)) in
    let new : node_at g k ≡ new_node maker (Written t) = node_at-pushed f _ in
    let e-new : node_at e k ≡ new_node maker (Written t) = node_at-set_other g n _ k ne ∙ new in
    let no_children : children_of e k ≡ [] = ap (λ (y : Node). y.children) e-new in
    let root : parent_of e k ≡ None = root-new e k (λ p. ⊎_elim (λ same. ap (λ q. is_child e q k) same ∙ ap (is_among k) (children_of-emptied g n within)) (λ other. ap (is_among k) (children_of-others g n [] p other) ∙ no_child-new f _ tree.forest refl p) (cases_eq p n)) in
    let lower : depth_of e n ≤ depth_of f n =
    up_from-rank e (depth_of f) (λ c p some.
    let g-some : parent_of g c ≡ Some p = kept_emptied g n c p (sym (parent_of-is e (emptied g n) (emptied_parents g n g-tree.forest within) c) ∙ some) in
    falls f tree.forest c p (sym (tree.parents c) ∙ (sym (get_or-None above c) ∙ (g-tree.parents c ∙ g-some)))) (suc DEPTH_LIMIT) n in
    let can : CanMove e n k = record {
      known = omega arith;
      itself = omega arith;
      plain = ap (λ (y : Node). is_document y.form) e-new;
      apart = ap (λ b. b || is_among k (ancestors_of e n)) (ne_eqb k n ne) ∙ childless-above e k no_children (suc DEPTH_LIMIT) n;
      levels = leaf-levels (DEPTH_LIMIT - depth_of e n) e k (omega arith) no_children;
    } in
    let at_n : node_at e n ≡ record (node_at g n) { children = [] } = node_at-set_same g n _ within in
    let whole : with_children g n (k ∷ []) ≡ moved (removed e k) n k None =
    sym (set-set g n (record (node_at g n) { children = [] }) (record (node_at g n) { children = k ∷ [] }))
    ∙ (ap (λ (y : Node). slice_set e n (record y { children = y.children ++ k ∷ [] })) (sym at_n) ∙ moved-root e e-tree.forest k n None (omega arith) root) in
    subst (λ (h : Forest). IsTree h (slice_set rows k (Some n)) counts) (sym whole) (tree-moved e rows counts n k None can e-tree)
