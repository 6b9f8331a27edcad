-- The copies of a node and of all below it are a tree of their own, and agree with their parents' rows.
use Rattle.std.proofs.Common.{◌≡◌, ◌+◌, ◌-◌, ◌<◌, ◌≤◌, ℕ, true, false, List, [], ◌∷◌, ◌++◌, length, get_or, refl, ap, sym, ◌∙◌, arith, Option, Some, None, ◌⊎◌, inl, inr, ⊎_elim, subst, length-append}
use Rattle.std.specs.Prelude.{nat_eq}
use Rattle.std.specs.List.{flat_map}
use Prim.Native.Nat.{zero, suc}
use Rattle.std.proofs.Math.Seq.{get_or-append_right}
use Rattle.std.proofs.lemmas.Bool.{both_ways, cases_Bool, cases_eq, cases_lt, eqb-true, eq-eqb, or_cases, or_left, or_right, false_from_ne_true}
use Rattle.std.proofs.lemmas.List.{get_or_append_left, get_or-append-add, get_or_past}
use Rattle.door.specs.declared.values.Actor.{Actor}
use Rattle.dom_semantics.specs.Forest.{Node, Forest, IsForest, no_node, node_at, form_at, children_of, is_among, is_child, is_document, are_different, depth_of, DEPTH_LIMIT}
use Rattle.dom_semantics.specs.Changes.{laid, starts, copied}
use Rattle.dom_tree.specs.Copies.{parents_laid, parents_of_copies}
use Rattle.dom_tree.proofs.Parents.{own_parents, depth_of-some, none≢some, some_same}

-- the children of the node at a place
abbrev pub kids : List Node → ℕ → List ℕ
kids b k = (get_or b k no_node).children

-- how deep each copied node is
abbrev pub depths : ℕ → ℕ → Forest → ℕ → List ℕ
depths zero d f n = []
depths (suc levels) d f n = d ∷ flat_map (λ child. depths levels (suc d) f child) (children_of f n)

-- a row's child is a top, or the child of a node before it that is less deep
pub record IsBelow (at : ℕ) (b : List Node) (ds : List ℕ) (j p : ℕ) : Type 0 where
  pub k : ℕ
  pub is : p ≡ at + k
  pub child : is_among (at + j) (kids b k) ≡ true
  pub deeper : get_or ds k 0 < get_or ds j 0

-- where a child's row is, and that it names this parent
pub record HasRow (at : ℕ) (b : List Node) (rows : List (Option ℕ)) (up : Option ℕ) (c : ℕ) : Type 0 where
  pub j : ℕ
  pub is : c ≡ at + j
  pub within : j < length b
  pub row : get_or rows j None ≡ up

-- nodes that are laid from a number on agree with their parents' rows; the tops among them have the parent up
pub record IsBlock (at : ℕ) (up : Option ℕ) (tops : List ℕ) (b : List Node) (rows : List (Option ℕ)) (ds : List ℕ) (d : ℕ) : Type 0 where
  pub long : length rows ≡ length b
  pub deep : length ds ≡ length b
  pub first : (c : ℕ) → is_among c tops ≡ true → HasRow at b rows up c
  pub apart : are_different tops ≡ true
  pub below : (k c : ℕ) → is_among c (kids b k) ≡ true → HasRow at b rows (Some (at + k)) c
  pub above : (j p : ℕ) → get_or rows j None ≡ Some p → ((up ≡ Some p) × (is_among (at + j) tops ≡ true)) ⊎ IsBelow at b ds j p
  pub once : (k : ℕ) → are_different (kids b k) ≡ true
  pub low : (j : ℕ) → j < length b → d ≤ get_or ds j 0
  pub high : (j : ℕ) → get_or ds j 0 ≤ DEPTH_LIMIT
  pub plain : (k : ℕ) → is_document (get_or b k no_node).form ≡ false

-- nothing is laid
pub block-none : (at : ℕ) (up : Option ℕ) (d : ℕ) → IsBlock at up [] [] [] [] d
block-none at up d =
    record {
      long = refl;
      deep = refl;
      first = λ c e. absurd (cc);
      apart = refl;
      below = λ k c e. absurd (cc);
      above = λ j p e. absurd (cc);
      once = λ k. refl;
      low = λ j h. absurd (omega arith);
      high = λ j. omega arith;
      plain = λ k. refl;
    }

among-one : (c at : ℕ) → is_among c (at ∷ []) ≡ true → c ≡ at
among-one c at e = ⊎_elim (λ yes. eqb-true c at yes) (λ no. absurd (cc)) (cases_Bool (nat_eq c at))

-- a node before the blocks of its children
pub block-root : (at : ℕ) (up : Option ℕ) (tops : List ℕ) (x : Node) (b : List Node) (rows : List (Option ℕ)) (ds : List ℕ) (d : ℕ) → x.children ≡ tops → is_document x.form ≡ false → d ≤ DEPTH_LIMIT → IsBlock (at + 1) (Some at) tops b rows ds (suc d) → IsBlock at up (at ∷ []) (x ∷ b) (up ∷ rows) (d ∷ ds) d
block-root at up tops x b rows ds d children form low h =
    record {
      long = ap suc h.long;
      deep = ap suc h.deep;
      first = λ c e. record { j = 0; is = among-one c at e ∙ (omega arith); within = omega arith; row = refl };
      apart = refl;
      below = below_root;
      above = above_root;
      once = once_root;
      low = low_root;
      high = high_root;
      plain = plain_root;
    }
  where
    below_root : (k c : ℕ) → is_among c (kids (x ∷ b) k) ≡ true → HasRow at (x ∷ b) (up ∷ rows) (Some (at + k)) c
    below_root zero c e = let r = h.first c (ap (is_among c) (sym children) ∙ e) in record { j = suc r.j; is = let i = r.is in omega arith; within = let w = r.within in omega arith; row = r.row ∙ ap Some (omega arith) }
    below_root (suc k) c e = let r = h.below k c e in record { j = suc r.j; is = let i = r.is in omega arith; within = let w = r.within in omega arith; row = r.row ∙ ap Some (omega arith) }

    above_root : (j p : ℕ) → get_or (up ∷ rows) j None ≡ Some p → ((up ≡ Some p) × (is_among (at + j) (at ∷ []) ≡ true)) ⊎ IsBelow at (x ∷ b) (d ∷ ds) j p
    above_root zero p e = inl (e, rw (eq-eqb (at + 0) at (omega arith)) refl)
    above_root (suc j) p e =
        let same : at + 1 + j ≡ at + suc j = omega arith in
        ⊎_elim
        (λ (top, among).
        let within : j < length b = row_within j p e in
        let deeper = h.low j within in
        inr (record { k = 0; is = sym (some_same at p top) ∙ omega arith; child = ap (is_among (at + suc j)) children ∙ subst (λ c. is_among c tops ≡ true) same among; deeper = omega arith }))
        (λ (r : IsBelow (at + 1) b ds j p). inr (record { k = suc r.k; is = let i = r.is in omega arith; child = subst (λ c. is_among c (kids b r.k) ≡ true) same r.child; deeper = r.deeper }))
        (h.above j p e)
      where
        row_within : (i q : ℕ) → get_or rows i None ≡ Some q → i < length b
        row_within i q is = ⊎_elim (λ lt. lt) (λ past. absurd (none≢some q (sym (get_or_past rows i None (let l = h.long in omega arith)) ∙ is))) (cases_lt i (length b))

    once_root : (k : ℕ) → are_different (kids (x ∷ b) k) ≡ true
    once_root zero = ap are_different children ∙ h.apart
    once_root (suc k) = h.once k

    low_root : (j : ℕ) → j < length (x ∷ b) → d ≤ get_or (d ∷ ds) j 0
    low_root zero lt = omega arith
    low_root (suc j) lt = let more = h.low j (omega arith) in omega arith

    high_root : (j : ℕ) → get_or (d ∷ ds) j 0 ≤ DEPTH_LIMIT
    high_root zero = low
    high_root (suc j) = h.high j

    plain_root : (k : ℕ) → is_document (get_or (x ∷ b) k no_node).form ≡ false
    plain_root zero = form
    plain_root (suc k) = h.plain k

-- what holds of each element of two lists, also past their ends, holds of both together
pub part : {X : Type 0} (xs ys : List X) (d : X) (P : X → Type 0) → ((k : ℕ) → P (get_or xs k d)) → ((k : ℕ) → P (get_or ys k d)) → (k : ℕ) → P (get_or (xs ++ ys) k d)
part [] ys d P left right k = right k
part (x ∷ xs) ys d P left right zero = left 0
part (x ∷ xs) ys d P left right (suc k) = part xs ys d P (λ i. left (suc i)) right k

pub kids-left : (x y : List Node) (k : ℕ) → k < length x → kids (x ++ y) k ≡ kids x k
kids-left x y k lt = ap (λ (n : Node). n.children) (get_or_append_left x y no_node k lt)

pub kids-right : (x y : List Node) (k : ℕ) → length x ≤ k → kids (x ++ y) k ≡ kids y (k - length x)
kids-right x y k le = ap (λ (n : Node). n.children) (get_or-append_right x y k no_node le)

-- a node that has a child is there
pub kids-within : (b : List Node) (k c : ℕ) → is_among c (kids b k) ≡ true → k < length b
kids-within b k c e =
    ⊎_elim (λ lt. lt)
    (λ past. absurd (both_ways (is_among c (kids b k)) (ap (λ (n : Node). is_among c n.children) (get_or_past b k no_node past)) e))
    (cases_lt k (length b))

row-left : (at : ℕ) (x y : List Node) (rx ry : List (Option ℕ)) (up : Option ℕ) (c : ℕ) → length rx ≡ length x → HasRow at x rx up c → HasRow at (x ++ y) (rx ++ ry) up c
row-left at x y rx ry up c long r =
    record {
      j = r.j;
      is = r.is;
      within = let w = r.within in omega (arith, length-append x y);
      row = get_or_append_left rx ry None r.j (let w = r.within in omega arith) ∙ r.row;
    }

row-right : (at : ℕ) (x y : List Node) (rx ry : List (Option ℕ)) (up : Option ℕ) (c : ℕ) → length rx ≡ length x → HasRow (at + length x) y ry up c → HasRow at (x ++ y) (rx ++ ry) up c
row-right at x y rx ry up c long r =
    record {
      j = length x + r.j;
      is = let i = r.is in omega arith;
      within = let w = r.within in omega (arith, length-append x y);
      row = ap (λ k. get_or (rx ++ ry) (k + r.j) None) (sym long) ∙ (get_or-append-add rx ry r.j None ∙ r.row);
    }

-- the block of one top before that of the tops after it
pub block-join : (at : ℕ) (up : Option ℕ) (tops : List ℕ) (x y : List Node) (rx ry : List (Option ℕ)) (dx dy : List ℕ) (d : ℕ) → IsBlock at up (at ∷ []) x rx dx d → IsBlock (at + length x) up tops y ry dy d → IsBlock at up (at ∷ tops) (x ++ y) (rx ++ ry) (dx ++ dy) d
block-join at up tops x y rx ry dx dy d hx hy =
    record {
      long = let l = hx.long in let r = hy.long in omega (arith, length-append x y, length-append rx ry);
      deep = let l = hx.deep in let r = hy.deep in omega (arith, length-append x y, length-append dx dy);
      first = first_join;
      apart = apart_join;
      below = below_join;
      above = above_join;
      once = λ k. part x y no_node (λ (n : Node). are_different n.children ≡ true) hx.once hy.once k;
      low = low_join;
      high = λ j. part dx dy 0 (λ m. m ≤ DEPTH_LIMIT) hx.high hy.high j;
      plain = λ k. part x y no_node (λ (n : Node). is_document n.form ≡ false) hx.plain hy.plain k;
    }
  where
    top : is_among at (at ∷ []) ≡ true
    top = rw (eq-eqb at at refl) refl

    some : 0 < length x
    some = let w = (hx.first at top).within in omega arith

    first_join : (c : ℕ) → is_among c (at ∷ tops) ≡ true → HasRow at (x ++ y) (rx ++ ry) up c
    first_join c e =
        ⊎_elim
        (λ yes. row-left at x y rx ry up c hx.long (hx.first c (or_left (nat_eq c at) false yes)))
        (λ rest. row-right at x y rx ry up c hx.long (hy.first c rest))
        (or_cases (nat_eq c at) (is_among c tops) e)

    apart_join : are_different (at ∷ tops) ≡ true
    apart_join =
        let out : is_among at tops ≡ false = false_from_ne_true _ (λ yes. let i = (hy.first at yes).is in absurd (omega (arith, some))) in
        rw (out, hy.apart) refl

    below_join : (k c : ℕ) → is_among c (kids (x ++ y) k) ≡ true → HasRow at (x ++ y) (rx ++ ry) (Some (at + k)) c
    below_join k c e =
        ⊎_elim
        (λ lt. row-left at x y rx ry (Some (at + k)) c hx.long (hx.below k c (ap (is_among c) (sym (kids-left x y k lt)) ∙ e)))
        (λ le.
        let same : at + length x + (k - length x) ≡ at + k = omega arith in
        row-right at x y rx ry (Some (at + k)) c hx.long (subst (λ m. HasRow (at + length x) y ry (Some m) c) same (hy.below (k - length x) c (ap (is_among c) (sym (kids-right x y k le)) ∙ e))))
        (cases_lt k (length x))

    left_above : (j p : ℕ) → j < length x → IsBelow at x dx j p → IsBelow at (x ++ y) (dx ++ dy) j p
    left_above j p lt r =
        let within = kids-within x r.k (at + j) r.child in
        let long = hx.deep in
        let here = get_or_append_left dx dy 0 j (omega arith) in
        let there = get_or_append_left dx dy 0 r.k (omega arith) in
        let less = r.deeper in
        record { k = r.k; is = r.is; child = ap (is_among (at + j)) (kids-left x y r.k within) ∙ r.child; deeper = omega arith }

    right_above : (j p : ℕ) → length x ≤ j → IsBelow (at + length x) y dy (j - length x) p → IsBelow at (x ++ y) (dx ++ dy) j p
    right_above j p le r =
        let long = hx.deep in
        let here : get_or (dx ++ dy) j 0 ≡ get_or dy (j - length x) 0 = get_or-append_right dx dy j 0 (omega arith) ∙ ap (λ k. get_or dy (j - k) 0) long in
        let there : get_or (dx ++ dy) (length x + r.k) 0 ≡ get_or dy r.k 0 = ap (λ k. get_or (dx ++ dy) (k + r.k) 0) (sym long) ∙ get_or-append-add dx dy r.k 0 in
        let less = r.deeper in
        let number : at + length x + (j - length x) ≡ at + j = omega arith in
        let place : length x + r.k - length x ≡ r.k = omega arith in
        record {
          k = length x + r.k;
          is = let i = r.is in omega arith;
          child = ap (is_among (at + j)) (kids-right x y (length x + r.k) (omega arith) ∙ ap (kids y) place) ∙ subst (λ m. is_among m (kids y r.k) ≡ true) number r.child;
          deeper = omega arith;
        }

    above_join : (j p : ℕ) → get_or (rx ++ ry) j None ≡ Some p → ((up ≡ Some p) × (is_among (at + j) (at ∷ tops) ≡ true)) ⊎ IsBelow at (x ++ y) (dx ++ dy) j p
    above_join j p e =
        let long = hx.long in
        ⊎_elim
        (λ lt.
        ⊎_elim (λ (is, among). inl (is, first_among j among)) (λ (r : IsBelow at x dx j p). inr (left_above j p lt r))
        (hx.above j p (sym (get_or_append_left rx ry None j (omega arith)) ∙ e)))
        (λ le.
        let row : get_or ry (j - length x) None ≡ Some p = ap (λ k. get_or ry (j - k) None) (sym long) ∙ (sym (get_or-append_right rx ry j None (omega arith)) ∙ e) in
        let number : at + length x + (j - length x) ≡ at + j = omega arith in
        ⊎_elim (λ (is, among). inl (is, or_right (nat_eq (at + j) at) (is_among (at + j) tops) (subst (λ m. is_among m tops ≡ true) number among)))
        (λ (r : IsBelow (at + length x) y dy (j - length x) p). inr (right_above j p le r))
        (hy.above (j - length x) p row))
        (cases_lt j (length x))
      where
        first_among : (i : ℕ) → is_among (at + i) (at ∷ []) ≡ true → is_among (at + i) (at ∷ tops) ≡ true
        first_among i among = or_left (nat_eq (at + i) at) (is_among (at + i) tops) (eq-eqb (at + i) at (among-one (at + i) at among))

    low_join : (j : ℕ) → j < length (x ++ y) → d ≤ get_or (dx ++ dy) j 0
    low_join j lt =
        let long = hx.deep in
        let both = length-append x y in
        ⊎_elim
        (λ here. let m = hx.low j here in let same = get_or_append_left dx dy 0 j (omega arith) in omega arith)
        (λ le. let m = hy.low (j - length x) (omega arith) in let same : get_or (dx ++ dy) j 0 ≡ get_or dy (j - length x) 0 = get_or-append_right dx dy j 0 (omega arith) ∙ ap (λ k. get_or dy (j - k) 0) long in omega arith)
        (cases_lt j (length x))

-- blocks one after another
block-list : (lay : ℕ → ℕ → List Node) (rows : ℕ → ℕ → List (Option ℕ)) (deep : ℕ → List ℕ) (up : Option ℕ) (d : ℕ) (Fine : ℕ → Type 0) → ((at n : ℕ) → Fine n → IsBlock at up (at ∷ []) (lay at n) (rows at n) (deep n) d) → (at : ℕ) (ns : List ℕ) → ((n : ℕ) → is_among n ns ≡ true → Fine n) → IsBlock at up (starts lay at ns) (laid lay at ns) (parents_laid rows at ns) (flat_map deep ns) d
block-list lay rows deep up d Fine each at [] fine = block-none at up d
block-list lay rows deep up d Fine each at (n ∷ ns) fine =
    let here = each at n (fine n (or_left (nat_eq n n) (is_among n ns) (eq-eqb n n refl))) in
    let next = at + length (lay at n) in
    let rest = block-list lay rows deep up d Fine each next ns (λ m e. fine m (or_right (nat_eq m n) (is_among m ns) e)) in
    block-join at up (starts lay next ns) (lay at n) (laid lay next ns) (rows at n) (parents_laid rows (at + length (rows at n)) ns) (deep n) (flat_map deep ns) d here
    (subst (λ k. IsBlock next up (starts lay next ns) (laid lay next ns) (parents_laid rows (at + k) ns) (flat_map deep ns) d) (sym here.long) rest)

-- no node but the first is the document
pub no_document-after : (f : Forest) → IsForest f → (n : ℕ) → 0 < n → is_document (form_at f n) ≡ false
no_document-after f h zero some = absurd (omega arith)
no_document-after f h (suc n) some = h.alone n

-- a child is one deeper, and not the document
child-fine : (f : Forest) → IsForest f → (n c d : ℕ) → depth_of f n ≡ d → is_child f n c ≡ true → (depth_of f c ≡ suc d) × (0 < c)
child-fine f h n c d deep e = (
  depth_of-some f h c n ((own_parents f h).up n c e) ∙ ap suc deep,
  ⊎_elim (λ is. absurd (both_ways _ (h.free n) (subst (λ m. is_child f n m ≡ true) is e))) (λ ne. omega arith) (cases_eq c 0),
)

-- the copies of a node and of all below it, where there are levels enough
pub block-copied : (f : Forest) → IsForest f → (levels : ℕ) (maker : Actor) (up : Option ℕ) (at n d : ℕ) → DEPTH_LIMIT < levels + d → depth_of f n ≡ d → 0 < n → IsBlock at up (at ∷ []) (copied levels f maker at n) (parents_of_copies levels f up at n) (depths levels d f n) d
block-copied f h zero maker up at n d low deep some = absurd (let s = h.shallow n in omega arith)
block-copied f h (suc levels) maker up at n d low deep some =
    let lay = copied levels f maker in
    block-root at up (starts lay (at + 1) (children_of f n)) (record (node_at f n) { maker = maker; children = starts lay (at + 1) (children_of f n) }) (laid lay (at + 1) (children_of f n)) (parents_laid (parents_of_copies levels f (Some at)) (at + 1) (children_of f n)) (flat_map (λ child. depths levels (suc d) f child) (children_of f n)) d
    refl (no_document-after f h n some) (let s = h.shallow n in omega arith)
    (block-list lay (parents_of_copies levels f (Some at)) (λ child. depths levels (suc d) f child) (Some at) (suc d) (λ c. (depth_of f c ≡ suc d) × (0 < c))
    (λ a c fine. block-copied f h levels maker (Some at) a c (suc d) (omega arith) fine.0 fine.1)
    (at + 1) (children_of f n) (λ c e. child-fine f h n c d deep e))
