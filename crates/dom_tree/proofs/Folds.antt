-- Folds that end at the first fault, in parts and by what a step gives.
use Rattle.std.proofs.Common.{◌≡◌, ◌+◌, ◌-◌, ◌<◌, ◌≤◌, arith, ⊎_elim, inl, inr, ℕ, Bool, true, false, cond, List, [], ◌∷◌, ◌++◌, length, get_or, drop, refl, ap, sym, subst, ◌∙◌, Option, Some, None}
use Rattle.std.specs.Prelude.{Result, Ok, Err, IsErrAnd, MatchResult, is_ok, nat_le}
use Rattle.std.proofs.lemmas.Bool.Decides.{nat_tests}
use Rattle.std.specs.List.{find, flat_map}
use Prim.Native.Nat.{suc}
use Rattle.dom_semantics.specs.Forest.{Forest, children_of, descendants_of, in_order, DEPTH_LIMIT}
use Rattle.dom_tree.specs.declared.form.NodeId.{NodeId}
use Rattle.dom_tree.specs.Folds.{MayFold, TryFolds, Finds}
use Rattle.dom_tree.specs.Ids.{node_id, number_of}
use Rattle.dom_tree.proofs.Counted.{in_order-more}
use Rattle.dom_tree.proofs.Gathered.{flat_map-more}

one_ok : {B E : Type 0} (r : Result B E) (b c : B) → r ≡ Ok b → r ≡ Ok c → b ≡ c
one_ok r b c e f = cc

not_both : {B E : Type 0} (r : Result B E) (b : B) (e : E) → r ≡ Ok b → r ≡ Err e → ⊥
not_both r b e h k = cc

-- what is below children, for so many levels
abbrev pub below : ℕ → Forest → List ℕ → List ℕ
below levels f ns = flat_map (λ child. in_order levels f child) ns

pub below-none : (levels : ℕ) (f : Forest) (ns : List ℕ) → levels ≡ 0 → below levels f ns ≡ []
below-none levels f [] e = refl
below-none levels f (n ∷ ns) e = ap (λ k. in_order k f n ++ below levels f ns) e ∙ below-none levels f ns e

-- the child at a place, what is below it, and the children after it
pub below-more : (levels : ℕ) (f : Forest) (ns : List ℕ) (i : ℕ) → (levels ≡ 0 → ⊥) → i < length ns
    → below levels f (drop i ns) ≡ get_or ns i 0 ∷ (below (levels - 1) f (children_of f (get_or ns i 0)) ++ below levels f (drop (i + 1) ns))
below-more levels f ns i ne lt =
    flat_map-more (λ child. in_order levels f child) ns i 0 lt ∙ ap (λ xs. xs ++ below levels f (drop (i + 1) ns)) (in_order-more levels f (get_or ns i 0) ne)

module _ {B E : Type 0} (pre : B → NodeId → Type 0) (post : B → NodeId → Result B E → Type 0) (f : Forest) where
  -- the step may be called at the first part of the nodes, and after it at the other
  may-left : (b : B) (xs ys : List ℕ) → MayFold pre post f b (xs ++ ys) → MayFold pre post f b xs
  may-left b [] ys m = tt
  may-left b (x ∷ xs) ys m = (m.0, λ c lt g. may-left c xs ys (m.1 c lt g))

  may-right : (b c : B) (xs ys : List ℕ) → MayFold pre post f b (xs ++ ys) → TryFolds post f b xs (Ok c) → MayFold pre post f c ys
  may-right b c [] ys m t = subst (λ d. MayFold pre post f d ys) (one_ok (Ok c) b c t refl) m
  may-right b c (x ∷ xs) ys m t =
      ⊎_elim (λ (d, g, more). may-right d c xs ys (m.1 d t.0 g) more) (λ (e, g, is). absurd (not_both (Ok c) c e refl is)) t.1

  -- a fold goes on after a part that has no fault, and ends with one that has
  folds-on : (b c : B) (xs ys : List ℕ) (r : Result B E) → TryFolds post f b xs (Ok c) → TryFolds post f c ys r → TryFolds post f b (xs ++ ys) r
  folds-on b c [] ys r t u = subst (λ d. TryFolds post f d ys r) (one_ok (Ok c) c b refl t) u
  folds-on b c (x ∷ xs) ys r t u =
      (t.0, ⊎_elim (λ (d, g, more). inl (d, g, folds-on d c xs ys r more u)) (λ (e, g, is). absurd (not_both (Ok c) c e refl is)) t.1)

  folds-end : (b : B) (e : E) (xs ys : List ℕ) → TryFolds post f b xs (Err e) → TryFolds post f b (xs ++ ys) (Err e)
  folds-end b e [] ys t = absurd (not_both (Err e) b e t refl)
  folds-end b e (x ∷ xs) ys t =
      (t.0, ⊎_elim (λ (d, g, more). inl (d, g, folds-end d e xs ys more)) (λ (d, g, is). inr (d, g, is)) t.1)

  -- over nodes that are the same
  pub may-same : (b : B) (ns ms : List ℕ) → ns ≡ ms → MayFold pre post f b ns → MayFold pre post f b ms
  may-same b ns ms e m = subst (λ xs. MayFold pre post f b xs) e m

  pub folds-same : (b : B) (r : Result B E) (ns ms : List ℕ) → ns ≡ ms → TryFolds post f b ns r → TryFolds post f b ms r
  folds-same b r ns ms e t = subst (λ xs. TryFolds post f b xs r) e t

  pub folds-none : (b : B) (ns : List ℕ) → ns ≡ [] → TryFolds post f b ns (Ok b)
  folds-none b ns e = folds-same b (Ok b) [] ns (sym e) refl

  -- a fault that is passed on
  pub folds-fault : (b : B) (ns : List ℕ) (e : E) (r : Result B E) → IsErrAnd r (λ x. x ≡ e) → TryFolds post f b ns (Err e) → TryFolds post f b ns r
  folds-fault b ns e (Ok c) is t = absurd is
  folds-fault b ns e (Err x) is t = subst (λ y. TryFolds post f b ns (Err y)) (sym is) t

  -- where the step may be called at any node
  pub may-always : ((b : B) (n : ℕ) → n < length f → pre b (node_id n)) → (b : B) (ns : List ℕ) → MayFold pre post f b ns
  may-always h b [] = tt
  may-always h b (n ∷ ns) = (λ lt. h b n lt, λ c lt g. may-always h c ns)

  -- the descendants are what is below the children, for as many levels as a tree may have
  pub may-descendants : (g : Forest) (levels n : ℕ) (b : B) → g ≡ f → levels ≡ DEPTH_LIMIT → MayFold pre post f b (descendants_of f n) → MayFold pre post g b (below levels g (children_of g n))
  may-descendants g levels n b e l m =
      subst (λ k. MayFold pre post g b (below k g (children_of g n))) (sym l) (subst (λ h. MayFold pre post h b (below DEPTH_LIMIT h (children_of h n))) (sym e) m)

  pub folds-descendants : (g : Forest) (levels n : ℕ) (b : B) (r : Result B E) → g ≡ f → levels ≡ DEPTH_LIMIT → TryFolds post g b (below levels g (children_of g n)) r → TryFolds post f b (descendants_of f n) r
  folds-descendants g levels n b r e l t =
      subst (λ h. TryFolds post h b (below DEPTH_LIMIT h (children_of h n)) r) e (subst (λ k. TryFolds post g b (below k g (children_of g n)) r) l t)

  -- at a child, for so many levels: what may be called there, and how a fold of it and the children after it goes
  pub record AtChild (b : B) (child : ℕ) (inner others all : List ℕ) : Type 0 where
    pub here : child < length f → pre b (node_id child)
    pub under : (c : B) → child < length f → post b (node_id child) (Ok c) → MayFold pre post f c inner
    pub rest : (c d : B) → child < length f → post b (node_id child) (Ok c) → TryFolds post f c inner (Ok d) → MayFold pre post f d others
    pub faults : (e : E) → child < length f → post b (node_id child) (Err e) → TryFolds post f b all (Err e)
    pub faults_under : (c : B) (e : E) → child < length f → post b (node_id child) (Ok c) → TryFolds post f c inner (Err e) → TryFolds post f b all (Err e)
    pub goes_on : (c d : B) (r : Result B E) → child < length f → post b (node_id child) (Ok c) → TryFolds post f c inner (Ok d) → TryFolds post f d others r → TryFolds post f b all r

  pub at-child : (b : B) (levels : ℕ) (ns : List ℕ) (i : ℕ) → (levels ≡ 0 → ⊥) → i < length ns → MayFold pre post f b (below levels f (drop i ns))
      → AtChild b (get_or ns i 0) (below (levels - 1) f (children_of f (get_or ns i 0))) (below levels f (drop (i + 1) ns)) (below levels f (drop i ns))
  at-child b levels ns i ne lt m =
      let child = get_or ns i 0 in
      let inner = below (levels - 1) f (children_of f child) in
      let others = below levels f (drop (i + 1) ns) in
      let whole = child ∷ (inner ++ others) in
      let more : below levels f (drop i ns) ≡ whole = below-more levels f ns i ne lt in
      let may = may-same b (below levels f (drop i ns)) whole more m in
      record {
        here = may.0;
        under = λ c k g. may-left c inner others (may.1 c k g);
        rest = λ c d k g t. may-right c d inner others (may.1 c k g) t;
        faults = λ e k g. folds-same b (Err e) whole (below levels f (drop i ns)) (sym more) (k, inr (e, g, refl));
        faults_under = λ c e k g t. folds-same b (Err e) whole (below levels f (drop i ns)) (sym more) (k, inl (c, g, folds-end c e inner others t));
        goes_on = λ c d r k g t u. folds-same b r whole (below levels f (drop i ns)) (sym more) (k, inl (c, g, folds-on c d inner others r t u));
      }

-- the node at which a fold ends
abbrev pub end_of : Result (Unit {0}) NodeId → Option NodeId
end_of (Ok _) = None
end_of (Err n) = Some n

-- whether a fold ends at a node tells whether it passes
abbrev pub Ends : (NodeId → Bool → Type 0) → NodeId → Result (Unit {0}) NodeId → Type 0
Ends post n r = MatchResult r (λ _. post n false) (λ found. post n true × (found ≡ n))

abbrev some_of : ℕ → Option ℕ
some_of n = Some n

one_some : (n m : ℕ) → some_of n ≡ some_of m → n ≡ m
one_some n m e = cc

-- what is found is a node
pub finds-known : (post : NodeId → Bool → Type 0) (f : Forest) (ns : List ℕ) (m : ℕ) → Finds post f ns (Some m) → m < length f
finds-known post f [] m h = absurd (cc)
finds-known post f (n ∷ ns) m h = ⊎_elim (λ (g, is). subst (λ k. k < length f) (one_some n m (sym is)) h.0) (λ (g, more). finds-known post f ns m more) h.1

-- a fold that ends where a test passes finds the first such node
pub finds-ended : (post : NodeId → Bool → Type 0) (step : Unit {0} → NodeId → Result (Unit {0}) NodeId → Type 0) (f : Forest) (ns : List ℕ) (r : Result (Unit {0}) NodeId) → TryFolds step f tt ns r
    → ((n : ℕ) (r : Result (Unit {0}) NodeId) → n < length f → step tt (node_id n) r → Ends post (node_id n) r) → Finds post f ns (number_of (end_of r))
finds-ended post step f [] r t ends = ap (λ x. number_of (end_of x)) t
finds-ended post step f (n ∷ ns) r t ends = (
  t.0,
  ⊎_elim
      (λ (c, g, more). inr (ends n (Ok c) t.0 g, finds-ended post step f ns r more ends))
      (λ (m, g, is). let here = ends n (Err m) t.0 g in inl (here.0, ap (λ x. number_of (end_of x)) is ∙ ap (λ (x : NodeId). Some x.0) here.1))
      t.1,
)

pub one_more : (k c b : ℕ) → c + 1 ≡ b → nat_le k c ≡ nat_le (suc k) b
one_more k c b e = grind (arith, nat_tests)

pub no_more : (k b : ℕ) → b ≡ 0 → false ≡ nat_le (suc k) b
no_more k b e = grind (arith, nat_tests)

none_more : (b : ℕ) → true ≡ nat_le 0 b
none_more b = grind (arith, nat_tests)

-- a fold that takes one of some room at each node ends well where there is room for all
pub room-folded : (step : ℕ → NodeId → Result ℕ (Unit {0}) → Type 0) (f : Forest) (most : ℕ) (ns : List ℕ) (b : ℕ) (r : Result ℕ (Unit {0})) → b ≤ most → TryFolds step f b ns r
    → ((b n : ℕ) (r : Result ℕ (Unit {0})) → b ≤ most → n < length f → step b (node_id n) r → MatchResult r (λ left. left + 1 ≡ b) (λ _. b ≡ 0)) → is_ok r ≡ nat_le (length ns) b
room-folded step f most [] b r le t one = ap is_ok t ∙ none_more b
room-folded step f most (n ∷ ns) b r le t one =
    ⊎_elim
    (λ (c, g, more). let left = one b n (Ok c) le t.0 g in room-folded step f most ns c r (omega arith) more one ∙ one_more (length ns) c b left)
    (λ (e, g, is). ap is_ok is ∙ no_more (length ns) b (one b n (Err e) le t.0 g))
    t.1

pub room-fits : (step : ℕ → NodeId → Result ℕ (Unit {0}) → Type 0) (f : Forest) (ns : List ℕ) (b : ℕ) (r : Result ℕ (Unit {0})) → TryFolds step f b ns r
    → ((c n : ℕ) (q : Result ℕ (Unit {0})) → c ≤ b → n < length f → step c (node_id n) q → MatchResult q (λ left. left + 1 ≡ c) (λ _. c ≡ 0)) → is_ok r ≡ nat_le (length ns) b
room-fits step f ns b r t one = room-folded step f b ns b r (omega arith) t one

-- a test that is told at each node tells the first
pub finds-find : (post : NodeId → Bool → Type 0) (f : Forest) (p : ℕ → Bool) (ns : List ℕ) (r : Option ℕ) → Finds post f ns r → ((n : ℕ) (b : Bool) → n < length f → post (node_id n) b → b ≡ p n) → r ≡ find p ns
finds-find post f p [] r h tells = h
finds-find post f p (n ∷ ns) r h tells =
    ⊎_elim
    (λ (g, is). is ∙ ap (λ b. cond b (Some n) (find p ns)) (tells n true h.0 g))
    (λ (g, more). finds-find post f p ns r more tells ∙ ap (λ b. cond b (Some n) (find p ns)) (tells n false h.0 g))
    h.1
