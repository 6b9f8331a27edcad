-- What is kept of a tree that gets the copies of a node and of all below it.
use Rattle.std.proofs.Common.{◌≡◌, ◌+◌, ◌-◌, ◌<◌, ◌≤◌, ◌^◌, ℕ, Bool, true, false, cond, List, [], ◌∷◌, ◌++◌, length, get_or, refl, ap, sym, ◌∙◌, arith, Option, Some, None, ⊎_elim, subst, length-append}
use Rattle.std.specs.Prelude.{nat_eq, nat_lt}
use Prim.Native.Nat.{zero, suc}
use Rattle.std.proofs.Math.Seq.{get_or-append_right}
use Rattle.std.proofs.lemmas.Bool.{cases_Bool, cases_lt, lt-ltb, le-ltb}
use Rattle.std.proofs.lemmas.List.{get_or_append_left, get_or_past}
use Rattle.door.specs.declared.values.Actor.{Actor}
use Rattle.dom_semantics.specs.Forest.{Node, Forest, IsForest, no_node, node_at, form_at, children_of, is_among, is_child, is_document, made_by, parent_of, depth_of, are_different, in_order, tree_order, DEPTH_LIMIT}
use Rattle.dom_semantics.specs.Changes.{laid, starts, copied}
use Rattle.dom_tree.specs.Copies.{parents_of_copies}
use Rattle.dom_tree.specs.Counts.{count_in, IsRaised}
use Rattle.dom_tree.specs.Tree.{IsTree}
use Rattle.dom_tree.proofs.Blocks.{kids, kids-left, kids-right, part, IsBlock, IsBelow, block-copied}
use Rattle.dom_tree.proofs.Children.{forest_some}
use Rattle.dom_tree.proofs.Counted.{length-copied}
use Rattle.dom_tree.proofs.NodeLemmas.{made_by-append, made_by-cons, one_of}
use Rattle.dom_tree.proofs.Parents.{HasParents, parent_of-is, parent_of-child, child-within, own_parents, none≢some, forest_from}
use Rattle.dom_tree.proofs.Trees.{falls, no_parent}

-- all of these nodes are of one maker
abbrev AreOf : Actor → List Node → Type 0
AreOf maker b = (a : Actor) → made_by b a ≡ cond (nat_eq maker.0 a.0) (length b) 0

cond_sum : (b : Bool) (m n : ℕ) → cond b m 0 + cond b n 0 ≡ cond b (m + n) 0
cond_sum true m n = refl
cond_sum false m n = refl

cond_more : (b : Bool) (n k : ℕ) → cond b (n + k) n ≡ n + cond b k 0
cond_more true n k = refl
cond_more false n k = omega arith

of-append : (maker : Actor) (x y : List Node) → AreOf maker x → AreOf maker y → AreOf maker (x ++ y)
of-append maker x y hx hy a =
    let left = hx a in
    let right = hy a in
    let both = made_by-append x y a in
    let sum = cond_sum (nat_eq maker.0 a.0) (length x) (length y) in
    let long = ap (λ n. cond (nat_eq maker.0 a.0) n 0) (length-append x y) in
    omega arith

of-cons : (maker : Actor) (x : Node) (b : List Node) → x.maker ≡ maker → AreOf maker b → AreOf maker (x ∷ b)
of-cons maker x b is h a =
    let rest = h a in
    let one : one_of x a ≡ cond (nat_eq maker.0 a.0) 1 0 = ap (λ (m : Actor). cond (nat_eq m.0 a.0) 1 0) is in
    let both = made_by-cons x b a in
    let sum = cond_sum (nat_eq maker.0 a.0) 1 (length b) in
    let long : cond (nat_eq maker.0 a.0) (1 + length b) 0 ≡ cond (nat_eq maker.0 a.0) (length (x ∷ b)) 0 = ap (λ n. cond (nat_eq maker.0 a.0) n 0) (omega arith) in
    omega arith

of-laid : (maker : Actor) (lay : ℕ → ℕ → List Node) → ((at n : ℕ) → AreOf maker (lay at n)) → (at : ℕ) (ns : List ℕ) → AreOf maker (laid lay at ns)
of-laid maker lay each at [] a = ⊎_elim (λ yes. rw yes refl) (λ no. rw no refl) (cases_Bool (nat_eq maker.0 a.0))
of-laid maker lay each at (n ∷ ns) a =
    of-append maker (lay at n) (laid lay (at + length (lay at n)) ns) (each at n) (of-laid maker lay each (at + length (lay at n)) ns) a

of-copied : (f : Forest) (maker : Actor) (levels at n : ℕ) → AreOf maker (copied levels f maker at n)
of-copied f maker zero at n a = ⊎_elim (λ yes. rw yes refl) (λ no. rw no refl) (cases_Bool (nat_eq maker.0 a.0))
of-copied f maker (suc levels) at n a =
    of-cons maker (record (node_at f n) { maker = maker; children = starts (copied levels f maker) (at + 1) (children_of f n) }) (laid (copied levels f maker) (at + 1) (children_of f n)) refl (of-laid maker (copied levels f maker) (of-copied f maker levels) (at + 1) (children_of f n)) a

-- the parents, and how deep each node is, where a block follows a forest
abbrev rows_of : List (Option ℕ) → List (Option ℕ) → ℕ → Option ℕ
rows_of above rows c = get_or (above ++ rows) c None

abbrev rank_of : Forest → List ℕ → ℕ → ℕ
rank_of f ds c = cond (nat_lt c (length f)) (depth_of f c) (get_or ds (c - length f) 0)

rank-left : (f : Forest) (ds : List ℕ) (c : ℕ) → c < length f → rank_of f ds c ≡ depth_of f c
rank-left f ds c lt = rw (lt-ltb c (length f) lt) refl

rank-right : (f : Forest) (ds : List ℕ) (c : ℕ) → length f ≤ c → rank_of f ds c ≡ get_or ds (c - length f) 0
rank-right f ds c le = rw (le-ltb c (length f) le) refl

-- a row before the block is that of a parent, and one in the block that of a node in it
row-parent : (f : Forest) (above rows : List (Option ℕ)) → length above ≡ length f → ((m : ℕ) → get_or above m None ≡ parent_of f m) → (c : ℕ) → c < length f → rows_of above rows c ≡ parent_of f c
row-parent f above rows long same c lt = get_or_append_left above rows None c (omega arith) ∙ same c

row-block : (f : Forest) (above rows : List (Option ℕ)) → length above ≡ length f → (c : ℕ) → length f ≤ c → rows_of above rows c ≡ get_or rows (c - length f) None
row-block f above rows long c le = get_or-append_right above rows c None (omega arith) ∙ ap (λ k. get_or rows (c - k) None) long

in_block : (f : Forest) (b : List Node) (rows : List (Option ℕ)) (ds tops : List ℕ) (d : ℕ) → IsBlock (length f) None tops b rows ds d → (c p : ℕ) → length f ≤ c → get_or rows (c - length f) None ≡ Some p → IsBelow (length f) b ds (c - length f) p
in_block f b rows ds tops d h c p le e =
    ⊎_elim (λ (none, among). absurd (none≢some p none)) (λ (r : IsBelow (length f) b ds (c - length f) p). r) (h.above (c - length f) p e)

block_parents : (f : Forest) (above : List (Option ℕ)) (b : List Node) (rows : List (Option ℕ)) (ds tops : List ℕ) (d : ℕ) → IsForest f → length above ≡ length f → ((m : ℕ) → get_or above m None ≡ parent_of f m) → IsBlock (length f) None tops b rows ds d → HasParents (f ++ b) (rows_of above rows)
block_parents f above b rows ds tops d is long same h = record { up = up; down = down }
  where
    up : (p c : ℕ) → is_child (f ++ b) p c ≡ true → rows_of above rows c ≡ Some p
    up p c e =
        ⊎_elim
        (λ lt.
        let child = ap (is_among c) (sym (kids-left f b p lt)) ∙ e in
        row-parent f above rows long same c (is.known p c child) ∙ (own_parents f is).up p c child)
        (λ le.
        let r = h.below (p - length f) c (ap (is_among c) (sym (kids-right f b p le)) ∙ e) in
        let place = r.is in
        let there : c - length f ≡ r.j = omega arith in
        row-block f above rows long c (omega arith) ∙ (ap (λ k. get_or rows k None) there ∙ (r.row ∙ ap Some (omega arith))))
        (cases_lt p (length f))

    down : (p c : ℕ) → rows_of above rows c ≡ Some p → is_child (f ++ b) p c ≡ true
    down p c e =
        ⊎_elim
        (λ lt.
        let child = parent_of-child f c p (sym (row-parent f above rows long same c lt) ∙ e) in
        ap (is_among c) (kids-left f b p (child-within f p c child)) ∙ child)
        (λ le.
        let r = in_block f b rows ds tops d h c p le (sym (row-block f above rows long c le) ∙ e) in
        let place = r.is in
        let number : length f + (c - length f) ≡ c = omega arith in
        let there : p - length f ≡ r.k = omega arith in
        ap (is_among c) (kids-right f b p (omega arith) ∙ ap (kids b) there) ∙ subst (λ m. is_among m (kids b r.k) ≡ true) number r.child)
        (cases_lt c (length f))

-- a block after a forest makes a forest
block_forest : (f : Forest) (above : List (Option ℕ)) (b : List Node) (rows : List (Option ℕ)) (ds tops : List ℕ) (d : ℕ) → IsForest f → length above ≡ length f → ((m : ℕ) → get_or above m None ≡ parent_of f m) → IsBlock (length f) None tops b rows ds d → IsForest (f ++ b)
block_forest f above b rows ds tops d is long same h =
    forest_from (f ++ b) (rows_of above rows) (rank_of f ds) (block_parents f above b rows ds tops d is long same h)
    (ap (λ (x : Node). is_document x.form) (get_or_append_left f b no_node 0 some) ∙ is.document)
    alone known
    (row-parent f above rows long same 0 some ∙ no_parent f is)
    (λ p. part f b no_node (λ (x : Node). are_different x.children ≡ true) is.once h.once p)
    lower low
  where
    some : 0 < length f
    some = forest_some f is

    alone : (n : ℕ) → is_document (form_at (f ++ b) (suc n)) ≡ false
    alone n =
        ⊎_elim
        (λ lt. ap (λ (x : Node). is_document x.form) (get_or_append_left f b no_node (suc n) lt) ∙ is.alone n)
        (λ le. ap (λ (x : Node). is_document x.form) (get_or-append_right f b (suc n) no_node le) ∙ h.plain (suc n - length f))
        (cases_lt (suc n) (length f))

    known : (p c : ℕ) → rows_of above rows c ≡ Some p → c < length (f ++ b)
    known p c e =
        let all = length-append above rows in
        let both = length-append f b in
        let rest = h.long in
        ⊎_elim (λ lt. lt) (λ past. absurd (none≢some p (sym (get_or_past (above ++ rows) c None (omega arith)) ∙ e))) (cases_lt c (length (f ++ b)))

    lower : (c p : ℕ) → rows_of above rows c ≡ Some p → rank_of f ds p < rank_of f ds c
    lower c p e =
        ⊎_elim
        (λ lt.
        let parent = sym (row-parent f above rows long same c lt) ∙ e in
        let within = child-within f p c (parent_of-child f c p parent) in
        let here = rank-left f ds c lt in
        let there = rank-left f ds p within in
        let less = falls f is c p parent in
        omega arith)
        (λ le.
        let r = in_block f b rows ds tops d h c p le (sym (row-block f above rows long c le) ∙ e) in
        let place = r.is in
        let less = r.deeper in
        let here = rank-right f ds c le in
        let there : rank_of f ds p ≡ get_or ds r.k 0 = rank-right f ds p (omega arith) ∙ ap (λ k. get_or ds k 0) (omega arith) in
        omega arith)
        (cases_lt c (length f))

    low : (n : ℕ) → rank_of f ds n ≤ DEPTH_LIMIT
    low n =
        ⊎_elim
        (λ lt. let here = rank-left f ds n lt in let bound = is.shallow n in omega arith)
        (λ le. let here = rank-right f ds n le in let bound = h.high (n - length f) in omega arith)
        (cases_lt n (length f))

tree-block : (f : Forest) (above : List (Option ℕ)) (tally more : List (Actor × ℕ)) (maker : Actor) (b : List Node) (rows : List (Option ℕ)) (ds tops : List ℕ) (d : ℕ) → IsBlock (length f) None tops b rows ds d → AreOf maker b → length f + length b < 2 ^ 32 → IsRaised tally more maker (length b) → IsTree f above tally → IsTree (f ++ b) (above ++ rows) more
tree-block f above tally more maker b rows ds tops d h made small raised t =
    record {
      forest = block_forest f above b rows ds tops d t.forest t.rows t.parents h;
      parents = λ m. sym (parent_of-is (f ++ b) (rows_of above rows) (block_parents f above b rows ds tops d t.forest t.rows t.parents h) m);
      rows = let l = t.rows in let k = h.long in omega (arith, length-append f b, length-append above rows);
      counts = λ m. raised m ∙ (cond_more (nat_eq maker.0 m.0) (count_in tally m) (length b) ∙ (ap (λ k. k + cond (nat_eq maker.0 m.0) (length b) 0) (t.counts m) ∙ sym (made_by-append f b m ∙ ap (λ k. made_by f m + k) (made m))));
      small = omega (arith, length-append f b);
    }

-- the copies of a node and of all below it
pub tree-copied : (f g : Forest) (above rows : List (Option ℕ)) (tally counts : List (Actor × ℕ)) (maker : Actor) (n levels : ℕ) → levels ≡ suc DEPTH_LIMIT → 0 < n → length f + length (copied levels f maker (length f) n) < 2 ^ 32 → g ≡ f ++ copied levels f maker (length f) n → rows ≡ above ++ parents_of_copies levels f None (length f) n → IsRaised tally counts maker (length (copied levels f maker (length f) n)) → IsTree f above tally → IsTree g rows counts
tree-copied f g above rows tally counts maker n levels all some small nodes same raised t =
    let b = copied levels f maker (length f) n in
    let whole = tree-block f above tally counts maker b (parents_of_copies levels f None (length f) n) _ _ (depth_of f n) (block-copied f t.forest levels maker None (length f) n (depth_of f n) (omega arith) refl some) (of-copied f maker levels (length f) n) small raised t in
    subst (λ (h : Forest). IsTree h rows counts) (sym nodes) (subst (λ (r : List (Option ℕ)). IsTree (f ++ b) r counts) (sym same) whole)

-- copies after no others, of a forest that was read
pub copies_alone : (f g : Forest) (maker : Actor) (n levels : ℕ) (old new : List Node) → g ≡ f → old ≡ [] → new ≡ old ++ copied levels g maker (length g + length old) n → new ≡ copied levels f maker (length f) n
copies_alone f g maker n levels old new same none is =
    let place : length f + 0 ≡ length f = omega arith in
    is ∙ (ap (λ (r : List Node). r ++ copied levels g maker (length g + length r) n) none ∙ (ap (λ (h : Forest). copied levels h maker (length h + 0) n) same ∙ ap (λ k. copied levels f maker k n) place))

pub parents_alone : (f g : Forest) (n levels : ℕ) (old : List Node) (rows new : List (Option ℕ)) → g ≡ f → old ≡ [] → rows ≡ [] → new ≡ rows ++ parents_of_copies levels g None (length g + length old) n → new ≡ parents_of_copies levels f None (length f) n
parents_alone f g n levels old rows new same none empty is =
    let place : length f + 0 ≡ length f = omega arith in
    is ∙ (ap (λ (r : List (Option ℕ)). r ++ parents_of_copies levels g None (length g + length old) n) empty ∙ (ap (λ (r : List Node). parents_of_copies levels g None (length g + length r) n) none ∙ (ap (λ (h : Forest). parents_of_copies levels h None (length h + 0) n) same ∙ ap (λ k. parents_of_copies levels f None k n) place)))

-- there are as many copies as nodes in tree order
pub copies_count : (f : Forest) (maker : Actor) (n levels : ℕ) → levels ≡ suc DEPTH_LIMIT → length (copied levels f maker (length f) n) ≡ length (tree_order f n)
copies_count f maker n levels all = length-copied levels f maker (length f) n ∙ ap (λ k. length (in_order k f n)) all
