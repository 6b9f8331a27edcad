-- The parent of a node is the one that has it as a child.
use Rattle.std.proofs.Common.{◌≡◌, ◌+◌, ◌<◌, ◌≤◌, ℕ, Bool, true, false, List, [], ◌∷◌, length, refl, ap, sym, ◌∙◌, arith, Option, Some, None, ◌⊎◌, inl, inr, ⊎_elim, subst}
use Rattle.std.specs.List.{position_from}
use Prim.Native.Nat.{zero, suc}
use Rattle.std.proofs.lemmas.Bool.{false≢true, cases_Bool, both_ways, cases_lt}
use Rattle.std.proofs.lemmas.List.{get_or_past}
use Rattle.dom_semantics.specs.Forest.{Node, Forest, IsForest, no_node, is_among, is_child, children_of, parent_of, up_from, ancestors_of, depth_of, DEPTH_LIMIT, is_document, form_at, are_different}

abbrev has : ℕ → Node → Bool
has c node = is_among c node.children

-- the place that is found has the child
pub found : (f : List Node) (c i p : ℕ) → position_from (has c) i f ≡ Some p → (j : ℕ) × (p ≡ i + j) × (is_child f j c ≡ true)
found [] c i p e = absurd (cc)
found (x ∷ xs) c i p e =
    ⊎_elim
    (λ yes. let same : p ≡ i = (cc) in (0, omega arith, yes))
    (λ no. let rest : position_from (has c) (i + 1) xs ≡ Some p = (rw no at e) in let r = found xs c (i + 1) p rest in (suc r.0, omega arith, r.2))
    (cases_Bool (has c x))

-- where none is found no node has the child
pub none_found : (f : List Node) (c i : ℕ) → position_from (has c) i f ≡ None → (j : ℕ) → is_child f j c ≡ false
none_found [] c i e j = refl
none_found (x ∷ xs) c i e zero = ⊎_elim (λ yes. absurd (cc)) (λ no. no) (cases_Bool (has c x))
none_found (x ∷ xs) c i e (suc j) = ⊎_elim (λ yes. absurd (cc)) (λ no. none_found xs c (i + 1) (rw no at e) j) (cases_Bool (has c x))

pub parent_of-child : (f : Forest) (c p : ℕ) → parent_of f c ≡ Some p → is_child f p c ≡ true
parent_of-child f c p e =
    let r = found f c 0 p e in let same : r.0 ≡ p = omega arith in subst (λ j. is_child f j c ≡ true) same r.2

pub parent_of-none : (f : Forest) (c : ℕ) → parent_of f c ≡ None → (p : ℕ) → is_child f p c ≡ false
parent_of-none f c e p = none_found f c 0 e p

pub cases_option : {A : Type 0} (o : Option A) → (o ≡ None) ⊎ ((x : A) × (o ≡ Some x))
cases_option None = inl refl
cases_option (Some x) = inr (x, refl)

-- g has the parents P
pub record HasParents (g : Forest) (P : ℕ → Option ℕ) : Type 0 where
  pub up : (p c : ℕ) → is_child g p c ≡ true → P c ≡ Some p
  pub down : (p c : ℕ) → P c ≡ Some p → is_child g p c ≡ true

pub none≢some : {A : Type 0} (x : A) → None ≡ Some x → ⊥
none≢some x e = cc

pub some_same : {A : Type 0} (x y : A) → Some x ≡ Some y → x ≡ y
some_same x y e = cc

pub one_parent-from : (g : Forest) (P : ℕ → Option ℕ) → HasParents g P → (p q c : ℕ) → is_child g p c ≡ true → is_child g q c ≡ true → p ≡ q
one_parent-from g P h p q c a b = let x = h.up p c a in let y = h.up q c b in cc

pub parent_of-is : (g : Forest) (P : ℕ → Option ℕ) → HasParents g P → (c : ℕ) → parent_of g c ≡ P c
parent_of-is g P h c =
    ⊎_elim
    (λ none. ⊎_elim (λ e. none ∙ sym e) (λ (p, e). absurd (both_ways _ (parent_of-none g c none p) (h.down p c e))) (cases_option (P c)))
    (λ (p, e). e ∙ sym (h.up p c (parent_of-child g c p e)))
    (cases_option (parent_of g c))

-- the parents that a forest has
pub own_parents : (f : Forest) → IsForest f → HasParents f (parent_of f)
own_parents f h =
    record {
      up = λ p c e.
          ⊎_elim (λ none. absurd (both_ways _ (parent_of-none f c none p) e))
          (λ (q, some). some ∙ ap Some (h.one_parent q p c (parent_of-child f c q some) e))
          (cases_option (parent_of f c));
      down = λ p c e. parent_of-child f c p e;
    }

pub up_from-some : (l : ℕ) (f : Forest) (n p : ℕ) → parent_of f n ≡ Some p → up_from (suc l) f n ≡ p ∷ up_from l f p
up_from-some l f n p e = rw e refl

pub up_from-none : (l : ℕ) (f : Forest) (n : ℕ) → parent_of f n ≡ None → up_from l f n ≡ []
up_from-none zero f n e = refl
up_from-none (suc l) f n e = rw e refl

-- one more step finds nothing where the way ends before
pub up_from-stable : (l : ℕ) (f : Forest) (n : ℕ) → length (up_from (suc l) f n) ≤ l → up_from (suc l) f n ≡ up_from l f n
up_from-stable zero f n h =
    ⊎_elim (λ none. up_from-none 1 f n none) (λ (p, some). absurd (let more = (rw (up_from-some 0 f n p some) at h) in omega arith)) (cases_option (parent_of f n))
up_from-stable (suc l) f n h =
    ⊎_elim (λ none. up_from-none (suc (suc l)) f n none ∙ sym (up_from-none (suc l) f n none))
    (λ (p, some).
    let shorter : length (p ∷ up_from (suc l) f p) ≤ suc l = (rw (up_from-some (suc l) f n p some) at h) in
    up_from-some (suc l) f n p some ∙ ap (λ up. p ∷ up) (up_from-stable l f p (omega arith)) ∙ sym (up_from-some l f n p some))
    (cases_option (parent_of f n))

-- the ancestors of a node are its parent and the parent's
pub ancestors_of-some : (f : Forest) → IsForest f → (n p : ℕ) → parent_of f n ≡ Some p → ancestors_of f n ≡ p ∷ ancestors_of f p
ancestors_of-some f h n p some =
    up_from-some DEPTH_LIMIT f n p some ∙ ap (λ up. p ∷ up) (sym (up_from-stable DEPTH_LIMIT f p (h.shallow p)))

pub ancestors_of-none : (f : Forest) (n : ℕ) → parent_of f n ≡ None → ancestors_of f n ≡ []
ancestors_of-none f n none = up_from-none (suc DEPTH_LIMIT) f n none

pub depth_of-some : (f : Forest) → IsForest f → (n p : ℕ) → parent_of f n ≡ Some p → depth_of f n ≡ suc (depth_of f p)
depth_of-some f h n p some = ap length (ancestors_of-some f h n p some)

-- a rank that falls from a node to its parent bounds the steps upwards
pub up_from-rank : (f : Forest) (r : ℕ → ℕ) → ((c p : ℕ) → parent_of f c ≡ Some p → r p < r c) → (l n : ℕ) → length (up_from l f n) ≤ r n
up_from-rank f r falls zero n = omega arith
up_from-rank f r falls (suc l) n =
    ⊎_elim (λ none. rw (up_from-none (suc l) f n none) (omega arith))
    (λ (p, some). let less = falls n p some in let rest = up_from-rank f r falls l p in rw (up_from-some l f n p some) (omega arith))
    (cases_option (parent_of f n))

-- a forest by its parents and a rank
pub forest_from : (g : Forest) (P : ℕ → Option ℕ) (r : ℕ → ℕ) → HasParents g P → is_document (form_at g 0) ≡ true → ((n : ℕ) → is_document (form_at g (suc n)) ≡ false) → ((p c : ℕ) → P c ≡ Some p → c < length g) → P 0 ≡ None → ((p : ℕ) → are_different (children_of g p) ≡ true) → ((c p : ℕ) → P c ≡ Some p → r p < r c) → ((n : ℕ) → r n ≤ DEPTH_LIMIT) → IsForest g
forest_from g P r h document alone known free once falls low =
    record {
      document = document;
      alone = alone;
      known = λ p c e. known p c (h.up p c e);
      free = λ p. ⊎_elim (λ yes. absurd (none≢some _ (sym free ∙ h.up p 0 yes))) (λ no. no) (cases_Bool (is_child g p 0));
      one_parent = one_parent-from g P h;
      once = once;
      shallow = λ n. let up = up_from-rank g r (λ c p e. falls c p (sym (parent_of-is g P h c) ∙ e)) (suc DEPTH_LIMIT) n in let bound = low n in omega arith;
    }

-- a node that has a child is one of the nodes
pub child-within : (f : Forest) (p c : ℕ) → is_child f p c ≡ true → p < length f
child-within f p c e =
    ⊎_elim (λ lt. lt)
    (λ past. absurd (false≢true (ap (λ (x : Node). is_among c x.children) (sym (get_or_past f p no_node past)) ∙ e)))
    (cases_lt p (length f))
