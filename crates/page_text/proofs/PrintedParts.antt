-- A node is printed in parts: what stands before what is inside, what is inside where it is printed, and what stands after it.
use Rattle.std.proofs.Common.{◌≡◌, ◌∙◌, ap, sym, refl, ℕ, zero, suc, ◌+◌, ◌-◌, ◌<◌, ◌≤◌, Bool, true, false, not, List, [], ◌∷◌, ◌++◌, append_assoc, append-nil, if◌then◌else◌, arith, take, length, get_or}
use Rattle.std.specs.List.{flat_map}
use Rattle.std.proofs.lemmas.List.{take_all, take_more}
use Rattle.std.proofs.lemmas.List.Concat.{flat_map-append}
use Rattle.std.proofs.lemmas.Str.{encodes-append}
use lib.Utf8.{encodes}
use Rattle.dom_semantics.specs.Forest.{DEPTH_LIMIT, Form, Root, Tagged, Written, Noted, Forest, attributes_of, children_of, form_at}
use Rattle.dom_tree.specs.declared.limits.TheConstants.{TREE_LEVELS}
use Rattle.page_text.specs.Nodes.{is_void}
use Rattle.page_text.specs.Printed.{around, end_tag, printed_levels, stands_raw, start_tag}
use Rattle.page_text.specs.Around.{back_of, front_of, has_inside}

-- what is inside a node, where it is printed
abbrev pub inside_of : Form → List ℕ → List ℕ
inside_of form inside = if has_inside form then inside else []

tagged_parts : (void : Bool) (front inside back : List ℕ) → front ++ (if void then [] else inside ++ back) ≡ front ++ ((if not void then inside else []) ++ (if void then [] else back))
tagged_parts true front inside back = refl
tagged_parts false front inside back = refl

pub around_parts : (raw : Bool) (form : Form) (attributes : List (List ℕ × List ℕ)) (inside : List ℕ) → around raw form attributes inside ≡ front_of raw form attributes ++ (inside_of form inside ++ back_of form)
around_parts raw Root attributes inside = sym (append-nil inside)
around_parts raw (Tagged tag) attributes inside = tagged_parts (is_void tag) (start_tag tag attributes) inside (end_tag tag)
around_parts raw (Written text) attributes inside = sym (append-nil _)
around_parts raw (Noted text) attributes inside = sym (append-nil _)

-- the children of a node, for so many levels
abbrev pub children_printed : ℕ → Forest → List ℕ → List ℕ
children_printed levels f children = flat_map (λ child. printed_levels levels f child) children

abbrev pub front_at : Forest → ℕ → List ℕ
front_at f n = front_of (stands_raw f n) (form_at f n) (attributes_of f n)

-- what is printed for one level more
pub printed_parts : (levels : ℕ) (f : Forest) (n : ℕ) → 0 < levels
    → printed_levels levels f n ≡ front_at f n ++ (inside_of (form_at f n) (children_printed (levels - 1) f (children_of f n)) ++ back_of (form_at f n))
printed_parts zero f n h = absurd (omega (arith, h))
printed_parts (suc levels) f n h = let e : suc levels - 1 ≡ levels = omega arith in rw e (around_parts (stands_raw f n) (form_at f n) (attributes_of f n) _)

-- and its UTF-8
pub parts_encoded : (front inside back : List ℕ) → encodes (front ++ (inside ++ back)) ≡ encodes front ++ (encodes inside ++ encodes back)
parts_encoded front inside back = encodes-append front (inside ++ back) ∙ ap (λ x. encodes front ++ x) (encodes-append inside back)

-- as many levels as the limit leaves room for
pub levels_are : TREE_LEVELS ≡ suc DEPTH_LIMIT
unfolding DEPTH_LIMIT
levels_are = refl

-- what is inside stands after what is before it, where it is printed
pub with_inside : (f : Forest) (n levels i : ℕ) (old front joined items : List ℕ) → has_inside (form_at f n) ≡ true → items ≡ children_of f n → length items ≤ i → joined ≡ old ++ (encodes front ++ encodes (children_printed levels f (take i items)))
    → joined ≡ old ++ (encodes front ++ encodes (inside_of (form_at f n) (children_printed levels f (children_of f n))))
with_inside f n levels i old front joined items has are whole is = rw has (is ∙ ap (λ xs. old ++ (encodes front ++ encodes (children_printed levels f xs))) (take_all i items whole ∙ are))

pub without_inside : (f : Forest) (n levels : ℕ) (old front joined : List ℕ) → has_inside (form_at f n) ≡ false → joined ≡ old ++ encodes front → joined ≡ old ++ (encodes front ++ encodes (inside_of (form_at f n) (children_printed levels f (children_of f n))))
without_inside f n levels old front joined has is = rw has (is ∙ ap (λ xs. old ++ xs) (sym (append-nil (encodes front))))

-- and before what is after it
pub with_back : (old front inside back joined new : List ℕ) → joined ≡ old ++ (encodes front ++ encodes inside) → new ≡ joined ++ encodes back → new ≡ old ++ encodes (front ++ (inside ++ back))
with_back old front inside back joined new e f =
    f ∙ ap (λ xs. xs ++ encodes back) e ∙ append_assoc old (encodes front ++ encodes inside) (encodes back)
    ∙ ap (λ xs. old ++ xs) (append_assoc (encodes front) (encodes inside) (encodes back) ∙ sym (parts_encoded front inside back))

-- one child more
pub child_more : (f : Forest) (levels i d : ℕ) (items old front now new : List ℕ) → i < length items → now ≡ old ++ (encodes front ++ encodes (children_printed levels f (take i items))) → new ≡ now ++ encodes (printed_levels levels f (get_or items i d))
    → new ≡ old ++ (encodes front ++ encodes (children_printed levels f (take (i + 1) items)))
child_more f levels i d items old front now new lt before more =
    let one : children_printed levels f (take (i + 1) items) ≡ children_printed levels f (take i items) ++ printed_levels levels f (get_or items i d) =
    ap (children_printed levels f) (take_more items i d lt) ∙ flat_map-append (λ child. printed_levels levels f child) (take i items) (get_or items i d ∷ []) ∙ ap (λ x. children_printed levels f (take i items) ++ x) (append-nil _)
    in
    more ∙ ap (λ x. x ++ encodes (printed_levels levels f (get_or items i d))) before ∙ append_assoc old _ _
    ∙ ap (λ x. old ++ x) (append_assoc (encodes front) _ _ ∙ ap (λ x. encodes front ++ x) (sym (ap encodes one ∙ encodes-append (children_printed levels f (take i items)) (printed_levels levels f (get_or items i d)))))
