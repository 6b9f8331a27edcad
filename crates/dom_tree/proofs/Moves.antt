-- What is kept of a tree where a node leaves its parent, and where it moves to another.
use Rattle.std.proofs.Common.{◌≡◌, ◌≢◌, ◌+◌, ◌-◌, ◌<◌, ◌≤◌, ℕ, Bool, true, false, cond, List, [], ◌∷◌, length, get_or, refl, ap, sym, ◌∙◌, arith, Option, Some, None, ⊎_elim, subst}
use Rattle.std.specs.Prelude.{nat_eq, not, ◌||◌, ◌&&◌, slice_set}
use Rattle.std.specs.List.{list_all}
use Rattle.std.proofs.lemmas.Bool.{cases_eq, cases_Bool, both_ways, false≢true, and_parts, and_from, or_cases, or_left, or_right, not-true, not_from_false, eqb-true, eq-eqb, ne_eqb, cond-true, cond-false}
use Rattle.std.proofs.lemmas.List.{get_or-set_same, get_or-set_other, length-set}
use Prim.Native.Nat.{zero, suc}
use Rattle.door.specs.declared.values.Actor.{Actor}
use Rattle.dom_semantics.specs.Forest.{Node, Forest, IsForest, node_at, form_at, children_of, is_child, is_among, is_document, parent_of, up_from, ancestors_of, depth_of, is_inclusive_ancestor, has_levels, DEPTH_LIMIT, are_different}
use Rattle.dom_semantics.specs.Changes.{removed, without, moved, placed}
use Rattle.dom_tree.specs.Tree.{IsTree}
use Rattle.dom_tree.proofs.Lists.{is_among-without, is_among-placed, are_different-without, are_different-placed, eqb_sym}
use Rattle.dom_tree.proofs.NodeLemmas.{node_at-removed, node_at-set_same, node_at-set_other, length-removed, made_by-removed, made_by-set}
use Rattle.dom_tree.proofs.Parents.{HasParents, parent_of-is, parent_of-child, own_parents, cases_option, none≢some, some_same, forest_from, depth_of-some, up_from-some, up_from-none, ancestors_of-some}
use Rattle.dom_tree.proofs.Trees.{falls, no_parent}

pub children_of-removed : (f : Forest) (n q : ℕ) → children_of (removed f n) q ≡ without n (children_of f q)
children_of-removed f n q = ap (λ (y : Node). y.children) (node_at-removed f n q)

pub is_child-removed : (f : Forest) (n p c : ℕ) → is_child (removed f n) p c ≡ (not (nat_eq n c) && is_child f p c)
is_child-removed f n p c = ap (is_among c) (children_of-removed f n p) ∙ is_among-without n c (children_of f p)

-- the parents where n has this one
abbrev pub with_parent : Forest → ℕ → Option ℕ → ℕ → Option ℕ
with_parent f n o c = cond (nat_eq c n) o (parent_of f c)

pub with_parent-row : (f : Forest) (above : List (Option ℕ)) (n : ℕ) (o : Option ℕ) → n < length above → ((m : ℕ) → get_or above m None ≡ parent_of f m) → (m : ℕ) → get_or (slice_set above n o) m None ≡ with_parent f n o m
with_parent-row f above n o lt same m =
    ⊎_elim
    (λ e. subst (λ k. get_or (slice_set above n o) k None ≡ with_parent f n o k) (sym e) (get_or-set_same above n o None lt ∙ rw (eq-eqb n n refl) refl))
    (λ ne. get_or-set_other above n m o None ne ∙ (same m ∙ rw (ne_eqb m n ne) refl))
    (cases_eq m n)

pub removed_parents : (f : Forest) (n : ℕ) → IsForest f → HasParents (removed f n) (with_parent f n None)
removed_parents f n h =
    let own = own_parents f h in
    record {
      up = λ p c e.
          let parts = and_parts (not (nat_eq n c)) (is_child f p c) (sym (is_child-removed f n p c) ∙ e) in
          let other : nat_eq c n ≡ false = eqb_sym c n ∙ not-true _ parts.0 in
          rw other (own.up p c parts.1);
      down = λ p c e.
          ⊎_elim
          (λ yes. absurd (none≢some p (rw yes at e)))
          (λ no. is_child-removed f n p c ∙ and_from _ _ (not_from_false _ (eqb_sym n c ∙ no)) (own.down p c (rw no at e)))
          (cases_Bool (nat_eq c n));
    }

-- where a parent is left, it is the one that was
pub kept_parent : (f : Forest) (n c p : ℕ) → with_parent f n None c ≡ Some p → parent_of f c ≡ Some p
kept_parent f n c p e =
    ⊎_elim (λ yes. absurd (none≢some p (rw yes at e))) (λ no. rw no at e) (cases_Bool (nat_eq c n))

pub forest-removed : (f : Forest) (n : ℕ) → IsForest f → IsForest (removed f n)
forest-removed f n h =
    forest_from (removed f n) (with_parent f n None) (depth_of f) (removed_parents f n h)
    (ap (λ (y : Node). is_document y.form) (node_at-removed f n 0) ∙ h.document)
    (λ m. ap (λ (y : Node). is_document y.form) (node_at-removed f n (suc m)) ∙ h.alone m)
    (λ p c e. let less = h.known p c (parent_of-child f c p (kept_parent f n c p e)) in let long = length-removed f n in omega arith)
    (⊎_elim (λ yes. rw yes refl) (λ no. rw no (no_parent f h)) (cases_Bool (nat_eq 0 n)))
    (λ p. ap are_different (children_of-removed f n p) ∙ are_different-without n (children_of f p) (h.once p))
    (λ c p e. falls f h c p (kept_parent f n c p e))
    (h.shallow)

pub tree-removed : (f : Forest) (above : List (Option ℕ)) (tally : List (Actor × ℕ)) (n : ℕ) → n < length f → IsTree f above tally → IsTree (removed f n) (slice_set above n None) tally
tree-removed f above tally n lt t =
    let rows = t.rows in
    let long = length-removed f n in
    record {
      forest = forest-removed f n t.forest;
      parents = λ m. with_parent-row f above n None (omega arith) t.parents m ∙ sym (parent_of-is (removed f n) (with_parent f n None) (removed_parents f n t.forest) m);
      rows = length-set above n None ∙ (rows ∙ sym long);
      counts = λ m. t.counts m ∙ sym (made_by-removed f n m);
      small = rw long t.small;
    }

-- each of the numbers passes where all do
all_among : (p : ℕ → Bool) (c : ℕ) (cs : List ℕ) → list_all p cs ≡ true → is_among c cs ≡ true → p c ≡ true
all_among p c [] all here = absurd (cc)
all_among p c (x ∷ xs) all here =
    let parts = and_parts (p x) (list_all p xs) all in
    ⊎_elim (λ yes. ap p (eqb-true c x yes) ∙ parts.0) (λ no. all_among p c xs parts.1 (rw no at here)) (cases_Bool (nat_eq c x))

has_one_level : (k : ℕ) (f : Forest) (n : ℕ) → has_levels k f n ≡ true → (m : ℕ) × (k ≡ suc m)
has_one_level zero f n h = absurd (cc)
has_one_level (suc m) f n h = (m, refl)

-- c is below n: it has as many levels less as it has steps more
pub record Below (f : Forest) (n k c : ℕ) : Type 0 where
  pub steps : ℕ
  pub rest : ℕ
  pub deeper : depth_of f c ≡ depth_of f n + steps
  pub fewer : k ≡ steps + suc rest
  pub levels : has_levels (suc rest) f c ≡ true

below-itself : (f : Forest) (n k c : ℕ) → has_levels k f n ≡ true → n ≡ c → Below f n k c
below-itself f n k c levels same =
    let one = has_one_level k f n levels in
    record {
      steps = 0;
      rest = one.0;
      deeper = let d = ap (depth_of f) same in omega arith;
      fewer = let e = one.1 in omega arith;
      levels = subst (λ x. has_levels (suc one.0) f x ≡ true) same (subst (λ x. has_levels x f n ≡ true) one.1 levels);
    }

below-child : (f : Forest) (n k q c : ℕ) → IsForest f → parent_of f c ≡ Some q → Below f n k q → Below f n k c
below-child f n k q c h some b =
    let levels : has_levels b.rest f c ≡ true = all_among (λ child. has_levels b.rest f child) c (children_of f q) b.levels (parent_of-child f c q some) in
    let one = has_one_level b.rest f c levels in
    let depth = depth_of-some f h c q some in
    record {
      steps = suc b.steps;
      rest = one.0;
      deeper = let d = b.deeper in omega arith;
      fewer = let d = b.fewer in let e = one.1 in omega arith;
      levels = subst (λ x. has_levels x f c ≡ true) one.1 levels;
    }

pub below_levels : (f : Forest) → IsForest f → (n k : ℕ) → has_levels k f n ≡ true → (l c : ℕ) → is_among n (c ∷ up_from l f c) ≡ true → Below f n k c
below_levels f h n k levels zero c here =
    ⊎_elim (λ yes. below-itself f n k c levels (eqb-true n c yes)) (λ no. absurd (false≢true (rw no at here))) (cases_Bool (nat_eq n c))
below_levels f h n k levels (suc l) c here =
    ⊎_elim (λ yes. below-itself f n k c levels (eqb-true n c yes))
    (λ no.
    let up : is_among n (up_from (suc l) f c) ≡ true = (rw no at here) in
    ⊎_elim (λ none. absurd (both_ways _ (ap (is_among n) (up_from-none (suc l) f c none)) up))
    (λ (q, some). below-child f n k q c h some (below_levels f h n k levels l q (sym (ap (is_among n) (up_from-some l f c q some)) ∙ up)))
    (cases_option (parent_of f c)))
    (cases_Bool (nat_eq n c))

pub children_of-moved_here : (f : Forest) (parent n : ℕ) (before : Option ℕ) → parent < length f → children_of (moved f parent n before) parent ≡ placed n before (children_of f parent)
children_of-moved_here f parent n before lt = ap (λ (y : Node). y.children) (node_at-set_same f parent _ lt)

pub children_of-moved_other : (f : Forest) (parent n : ℕ) (before : Option ℕ) (p : ℕ) → p ≢ parent → children_of (moved f parent n before) p ≡ children_of f p
children_of-moved_other f parent n before p ne = ap (λ (y : Node). y.children) (node_at-set_other f parent _ p ne)

is_document-moved : (f : Forest) (parent n : ℕ) (before : Option ℕ) (m : ℕ) → parent < length f → is_document (form_at (moved f parent n before) m) ≡ is_document (form_at f m)
is_document-moved f parent n before m lt =
    ⊎_elim
    (λ e. subst (λ k. is_document (form_at (moved f parent n before) k) ≡ is_document (form_at f k)) (sym e) (ap (λ (y : Node). is_document y.form) (node_at-set_same f parent _ lt)))
    (λ ne. ap (λ (y : Node). is_document y.form) (node_at-set_other f parent _ m ne))
    (cases_eq m parent)

-- n stands in its new place, and all others where they were
pub moved_parents : (f : Forest) (parent n : ℕ) (before : Option ℕ) → IsForest f → parent < length f → HasParents (moved (removed f n) parent n before) (with_parent f n (Some parent))
moved_parents f parent n before h lt =
    let g = removed f n in
    let within : parent < length g = let long = length-removed f n in omega arith in
    let own = own_parents f h in
    let here : (c : ℕ) → is_child (moved g parent n before) parent c ≡ (nat_eq c n || is_child g parent c) =
    λ c. ap (is_among c) (children_of-moved_here g parent n before within) ∙ is_among-placed n before c (children_of g parent) in
    let there : (p c : ℕ) → p ≢ parent → is_child (moved g parent n before) p c ≡ is_child g p c =
    λ p c ne. ap (is_among c) (children_of-moved_other g parent n before p ne) in
    let stays : (p c : ℕ) → is_child g p c ≡ true → with_parent f n (Some parent) c ≡ Some p =
    λ p c e.
    let parts = and_parts (not (nat_eq n c)) (is_child f p c) (sym (is_child-removed f n p c) ∙ e) in
    let other : nat_eq c n ≡ false = eqb_sym c n ∙ not-true _ parts.0 in
    rw other (own.up p c parts.1) in
    record {
      up = λ p c e.
          ⊎_elim
          (λ same.
          let e' : (nat_eq c n || is_child g parent c) ≡ true = sym (here c) ∙ subst (λ k. is_child (moved g parent n before) k c ≡ true) same e in
          ⊎_elim (λ yes. rw yes (ap Some (sym same))) (λ rest. subst (λ k. with_parent f n (Some parent) c ≡ Some k) (sym same) (stays parent c rest)) (or_cases (nat_eq c n) (is_child g parent c) e'))
          (λ ne. stays p c (sym (there p c ne) ∙ e))
          (cases_eq p parent);
      down = λ p c e.
          ⊎_elim
          (λ yes.
          let same : parent ≡ p = some_same parent p (rw yes at e) in
          subst (λ k. is_child (moved g parent n before) k c ≡ true) same (here c ∙ or_left (nat_eq c n) (is_child g parent c) yes))
          (λ no.
          let kept : is_child g p c ≡ true = is_child-removed f n p c ∙ and_from _ _ (not_from_false _ (eqb_sym n c ∙ no)) (own.down p c (rw no at e)) in
          ⊎_elim
          (λ same. subst (λ k. is_child (moved g parent n before) k c ≡ true) (sym same) (here c ∙ or_right (nat_eq c n) (is_child g parent c) (subst (λ k. is_child g k c ≡ true) same kept)))
          (λ ne. there p c ne ∙ kept)
          (cases_eq p parent))
          (cases_Bool (nat_eq c n));
    }

-- how deep nodes are where n moves below the parent
abbrev moved_depth : Forest → ℕ → ℕ → ℕ → ℕ
moved_depth f parent n c = cond (is_inclusive_ancestor f n c) ((depth_of f c - depth_of f n) + suc (depth_of f parent)) (depth_of f c)

moved_depth-under : (f : Forest) (parent n c : ℕ) → is_inclusive_ancestor f n c ≡ true → moved_depth f parent n c ≡ (depth_of f c - depth_of f n) + suc (depth_of f parent)
moved_depth-under f parent n c under = cond-true _ _ _ under

moved_depth-out : (f : Forest) (parent n c : ℕ) → is_inclusive_ancestor f n c ≡ false → moved_depth f parent n c ≡ depth_of f c
moved_depth-out f parent n c out = cond-false _ _ _ out

moved_falls : (f : Forest) (parent n k : ℕ) → IsForest f → is_inclusive_ancestor f n parent ≡ false → has_levels k f n ≡ true → (c p : ℕ) → with_parent f n (Some parent) c ≡ Some p → moved_depth f parent n p < moved_depth f parent n c
moved_falls f parent n k h apart levels c p e =
    ⊎_elim
    (λ yes.
    let same : parent ≡ p = some_same parent p (rw yes at e) in
    let one : is_inclusive_ancestor f n c ≡ true = or_left (nat_eq n c) (is_among n (ancestors_of f c)) (eqb_sym n c ∙ yes) in
    let top = moved_depth-out f parent n parent apart in
    let below = moved_depth-under f parent n c one in
    subst (λ m. moved_depth f parent n m < moved_depth f parent n c) same (omega arith))
    (λ no.
    let some : parent_of f c ≡ Some p = (rw no at e) in
    let depth = depth_of-some f h c p some in
    let alike : is_inclusive_ancestor f n c ≡ is_inclusive_ancestor f n p =
    ap (λ b. b || is_among n (ancestors_of f c)) (eqb_sym n c ∙ no) ∙ ap (is_among n) (ancestors_of-some f h c p some) in
    ⊎_elim
    (λ under. let b = below_levels f h n k levels (suc DEPTH_LIMIT) p under in let d = b.deeper in
    let up = moved_depth-under f parent n p under in let down = moved_depth-under f parent n c (alike ∙ under) in omega arith)
    (λ out. let up = moved_depth-out f parent n p out in let down = moved_depth-out f parent n c (alike ∙ out) in omega arith)
    (cases_Bool (is_inclusive_ancestor f n p)))
    (cases_Bool (nat_eq c n))

moved_low : (f : Forest) (parent n : ℕ) → IsForest f → has_levels (DEPTH_LIMIT - depth_of f parent) f n ≡ true → (c : ℕ) → moved_depth f parent n c ≤ DEPTH_LIMIT
moved_low f parent n h levels c =
    let low = h.shallow c in
    ⊎_elim
    (λ under.
    let b = below_levels f h n (DEPTH_LIMIT - depth_of f parent) levels (suc DEPTH_LIMIT) c under in
    let d = b.deeper in let fewer = b.fewer in let deep = moved_depth-under f parent n c under in omega arith)
    (λ out. let deep = moved_depth-out f parent n c out in omega arith)
    (cases_Bool (is_inclusive_ancestor f n c))

-- n can stand below the parent: it is no document, the parent isn't below it, and all below it stay within the limit
pub record CanMove (f : Forest) (parent n : ℕ) : Type 0 where
  pub known : parent < length f
  pub itself : n < length f
  pub plain : is_document (form_at f n) ≡ false
  pub apart : is_inclusive_ancestor f n parent ≡ false
  pub levels : has_levels (DEPTH_LIMIT - depth_of f parent) f n ≡ true

pub forest-moved : (f : Forest) (parent n : ℕ) (before : Option ℕ) → IsForest f → CanMove f parent n → IsForest (moved (removed f n) parent n before)
forest-moved f parent n before h can =
    let g = removed f n in
    let long = length-removed f n in
    let known = can.known in
    let within : parent < length g = omega arith in
    let all = length-set g parent (record (node_at g parent) { children = placed n before (children_of g parent) }) in
    let own = own_parents f h in
    let new : is_among n (children_of g parent) ≡ false = is_child-removed f n parent n ∙ ap (λ b. not b && is_child f parent n) (eq-eqb n n refl) in
    let root : nat_eq 0 n ≡ false = ne_eqb 0 n (λ e. both_ways _ (subst (λ m. is_document (form_at f m) ≡ false) (sym e) can.plain) h.document) in
    let kind : (m : ℕ) → is_document (form_at (moved g parent n before) m) ≡ is_document (form_at f m) =
    λ m. is_document-moved g parent n before m within ∙ ap (λ (y : Node). is_document y.form) (node_at-removed f n m) in
    forest_from (moved g parent n before) (with_parent f n (Some parent)) (moved_depth f parent n) (moved_parents f parent n before h known)
    (kind 0 ∙ h.document)
    (λ m. kind (suc m) ∙ h.alone m)
    (λ p c e.
    ⊎_elim (λ yes. let same = eqb-true c n yes in let lt = can.itself in omega arith)
    (λ no. let less = h.known p c (own.down p c (rw no at e)) in omega arith)
    (cases_Bool (nat_eq c n)))
    (rw root (no_parent f h))
    (λ p.
    ⊎_elim
    (λ same. subst (λ q. are_different (children_of (moved g parent n before) q) ≡ true) (sym same) (ap are_different (children_of-moved_here g parent n before within) ∙ are_different-placed n before (children_of g parent) new ((forest-removed f n h).once parent)))
    (λ ne. ap are_different (children_of-moved_other g parent n before p ne) ∙ (forest-removed f n h).once p)
    (cases_eq p parent))
    (moved_falls f parent n (DEPTH_LIMIT - depth_of f parent) h can.apart can.levels)
    (moved_low f parent n h can.levels)

pub tree-moved : (f : Forest) (above : List (Option ℕ)) (tally : List (Actor × ℕ)) (parent n : ℕ) (before : Option ℕ) → CanMove f parent n → IsTree f above tally → IsTree (moved (removed f n) parent n before) (slice_set above n (Some parent)) tally
tree-moved f above tally parent n before can t =
    let g = removed f n in
    let rows = t.rows in
    let long = length-removed f n in
    let itself = can.itself in
    let known = can.known in
    let within : parent < length g = omega arith in
    let x = record (node_at g parent) { children = placed n before (children_of g parent) } in
    let all = length-set g parent x in
    let small = t.small in
    record {
      forest = forest-moved f parent n before t.forest can;
      parents = λ m. with_parent-row f above n (Some parent) (omega arith) t.parents m ∙ sym (parent_of-is (moved g parent n before) (with_parent f n (Some parent)) (moved_parents f parent n before t.forest known) m);
      rows = length-set above n (Some parent) ∙ (rows ∙ sym (all ∙ long));
      counts = λ m. t.counts m ∙ sym (made_by-set g parent x m within refl ∙ made_by-removed f n m);
      small = rw (all ∙ long) small;
    }
