-- Nodes that moves come to.
use Rattle.std.proofs.Common.{◌≡◌, ◌≢◌, ◌<◌, ◌-◌, ◌∙◌, ℕ, zero, suc, Bool, true, false, List, [], ◌∷◌, length, sym, ap, refl, subst, Option, Some, None, arith, slice_index_or}
use Rattle.std.specs.Prelude.{IfSome, nat_eq, option_and_then, slice_get, if◌then◌else◌}
use Rattle.std.specs.Option.{option_map_or}
use Rattle.std.proofs.lemmas.Option.{get_or_from_slice_get, slice_get_within}
use Rattle.dom_semantics.specs.Forest.{Forest, IsForest, after_in, children_of, first_child_of, next_sibling_of, parent_of, up_from}
use Rattle.dom_semantics.specs.NodeReplies as node
use Rattle.dom_tree.specs.declared.form.NodeId.{NodeId}
use Rattle.dom_tree.specs.Ids.{number_of}
use Rattle.dom_tree.proofs.Children.{children_known}
use Rattle.dom_tree.proofs.Parents.{child-within, parent_of-child, up_from-some}

-- ---- the way up

pub parent_within : (f : Forest) (n p : ℕ) → parent_of f n ≡ Some p → p < length f
parent_within f n p e = child-within f p n (parent_of-child f n p e)

pub parent_known : (f : Forest) (n : ℕ) (o : Option NodeId) → number_of o ≡ parent_of f n → IfSome o (λ p. p.0 < length f)
parent_known f n None e = tt
parent_known f n (Some p) e = parent_within f n p.0 (sym e)

pub up_from_more : (limit : ℕ) (f : Forest) (n p : ℕ) → limit ≢ 0 → parent_of f n ≡ Some p → up_from limit f n ≡ p ∷ up_from (limit - 1) f p
up_from_more zero f n p ne some = absurd (ne refl)
up_from_more (suc limit) f n p ne some =
    let same : limit ≡ suc limit - 1 = omega arith in
    up_from-some limit f n p some ∙ ap (λ (k : ℕ). p ∷ up_from k f p) same

-- ---- the last of some

last_by : (n : ℕ) (ns : List ℕ) (k : ℕ) → k ≡ length ns → node.last_in (n ∷ ns) ≡ Some (slice_index_or (n ∷ ns) k 0)
last_by n [] zero e = refl
last_by n [] (suc k) e = absurd (omega arith)
last_by n (m ∷ ms) zero e = absurd (omega arith)
last_by n (m ∷ ms) (suc k) e = ap (λ (o : Option ℕ). Some (option_map_or (λ (x : ℕ). x) o n)) (last_by m ms k (omega arith))

-- it stands at one less than their number
pub last_at : (ns : List ℕ) → (length ns ≡ 0 → ⊥) → Some (slice_index_or ns (length ns - 1) 0) ≡ node.last_in ns
last_at [] some = absurd (some refl)
last_at (n ∷ ns) some =
    let place : length ns ≡ length (n ∷ ns) - 1 = omega arith in
    sym (last_by n ns (length (n ∷ ns) - 1) (sym place))

-- ---- children are nodes

at_place : (P : ℕ → Type 0) (ns : List ℕ) (k n : ℕ) → ((k d : ℕ) → k < length ns → P (slice_index_or ns k d)) → slice_get ns k ≡ Some n → P n
at_place P ns k n all e = subst P (get_or_from_slice_get ns k n n e) (all k n (slice_get_within ns k n e))

pub first_known : (f : Forest) (n : ℕ) (o : Option NodeId) → IsForest f → number_of o ≡ first_child_of f n → IfSome o (λ m. m.0 < length f)
first_known f n None is e = tt
first_known f n (Some m) is e = at_place (λ c. c < length f) (children_of f n) 0 m.0 (children_known f n (children_of f n) is refl) (sym e)

after_by : (cs : List ℕ) (m limit : ℕ) (b : Bool) (later : Option ℕ) → ((k d : ℕ) → k < length cs → slice_index_or cs k d < limit) → (later ≡ Some m → m < limit)
    → (if b then slice_get cs 0 else later) ≡ Some m → m < limit
after_by cs m limit true later all more e = at_place (λ x. x < limit) cs 0 m all e
after_by cs m limit false later all more e = more e

after_place : (n m : ℕ) (cs : List ℕ) (limit : ℕ) → ((k d : ℕ) → k < length cs → slice_index_or cs k d < limit) → after_in n cs ≡ Some m → m < limit
after_place n m [] limit all e = cc
after_place n m (c ∷ cs) limit all e =
    let rest : (k d : ℕ) → k < length cs → slice_index_or cs k d < limit = λ k d below. all (suc k) d (omega arith) in
    after_by cs m limit (nat_eq n c) (after_in n cs) rest (λ h. after_place n m cs limit rest h) e

pub next_known : (f : Forest) (n : ℕ) (o : Option NodeId) → IsForest f → number_of o ≡ next_sibling_of f n → IfSome o (λ m. m.0 < length f)
next_known f n None is e = tt
next_known f n (Some m) is e = side (parent_of f n) (sym e)
  where
    side : (p : Option ℕ) → option_and_then (λ q. after_in n (children_of f q)) p ≡ Some m.0 → m.0 < length f
    side None h = cc
    side (Some q) h = after_place n m.0 (children_of f q) (length f) (children_known f q (children_of f q) is refl) h
