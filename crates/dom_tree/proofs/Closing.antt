-- What closes the changes of a tree.
use Rattle.std.proofs.Common.{◌≡◌, ◌<◌, ℕ, Bool, true, false, cond, List, [], ◌++◌, length, take, drop, refl, ap, sym, ◌∙◌, arith, Option, Some, None, subst}
use Rattle.std.specs.Prelude.{not}
use Rattle.std.proofs.Math.ListN.{drop_of_length-le}
use Rattle.std.proofs.Math.Seq.{take-length}
use Rattle.std.proofs.lemmas.Bool.{or_parts, not-false}
use Rattle.std.proofs.lemmas.List.{append-nil}
use Rattle.door.specs.declared.requests.ErrorKind.TheVariants.{Hierarchy, NotFound, TooDeep}
use Rattle.door.specs.declared.values.Actor.{Actor}
use Rattle.dom_tree.specs.Tree.{IsTree}
use Rattle.dom_semantics.specs.Forest.{Forest, is_document, form_at, takes_children, is_inclusive_ancestor}
use Rattle.dom_semantics.specs.Changes.{insert_refusal, cannot_parent, is_child_of_parent, violates_document, is_too_deep}
use Rattle.dom_tree.proofs.Parents.{none≢some}
use Rattle.dom_tree.proofs.Moves.{CanMove}

-- a slice of a whole vector is put back whole
pub refilled : {X : Type 0} (n : ℕ) (xs ws : List X) → n ≡ length xs → length ws ≡ length xs → take n (ws ++ drop (length ws) xs) ≡ ws
refilled n xs ws e same =
    let end : drop (length ws) xs ≡ [] = drop_of_length-le xs (omega arith) in
    let all : n ≡ length ws = omega arith in
    ap (λ r. take n (ws ++ r)) end ∙ (ap (λ r. take n r) (append-nil ws) ∙ (ap (λ k. take k ws) all ∙ take-length ws))

-- where the first refusal isn't there, its cause isn't either
not_refused : {A : Type 0} (b : Bool) (x : A) (rest : Option A) → cond b (Some x) rest ≡ None → (b ≡ false) × (rest ≡ None)
not_refused true x rest e = absurd (none≢some x (sym e))
not_refused false x rest e = (refl, e)

pub can_move : (f : Forest) (parent n : ℕ) (before : Option ℕ) → parent < length f → n < length f → insert_refusal f parent n before ≡ None → CanMove f parent n
can_move f parent n before known itself none =
    let first = not_refused (cannot_parent f parent n) Hierarchy _ none in
    let second = not_refused (not (is_child_of_parent f parent before)) NotFound _ first.1 in
    let third = not_refused (violates_document f parent n) Hierarchy _ second.1 in
    let last = not_refused (is_too_deep f parent n) TooDeep _ third.1 in
    record {
      known = known;
      itself = itself;
      plain = (or_parts (is_document (form_at f n)) _ third.0).0;
      apart = (or_parts (not (takes_children (form_at f parent))) (is_inclusive_ancestor f n parent) first.0).1;
      levels = not-false _ last.0;
    }

pub tree_refilled : (n : ℕ) (f ws g : Forest) (above : List (Option ℕ)) (tally : List (Actor × ℕ)) → n ≡ length f → length g ≡ length f → ws ≡ g → IsTree g above tally → IsTree (take n (ws ++ drop (length ws) f)) above tally
tree_refilled n f ws g above tally e long is t =
    subst (λ (h : Forest). IsTree h above tally) (sym (refilled n f ws e (ap length is ∙ long) ∙ is)) t

pub tree_both : (n : ℕ) (f ws g : Forest) (m : ℕ) (above rows : List (Option ℕ)) (tally : List (Actor × ℕ)) → n ≡ length f → length g ≡ length f → ws ≡ g → m ≡ length above → length rows ≡ length above → IsTree g rows tally → IsTree (take n (ws ++ drop (length ws) f)) (take m (rows ++ drop (length rows) above)) tally
tree_both n f ws g m above rows tally e long is e' long' t =
    subst (λ (r : List (Option ℕ)). IsTree (take n (ws ++ drop (length ws) f)) r tally) (sym (refilled m above rows e' long')) (tree_refilled n f ws g rows tally e long is t)
