-- How many nodes are copied.
use Rattle.std.proofs.Common.{◌≡◌, ◌≢◌, ◌+◌, ◌-◌, ◌<◌, ◌^◌, ℕ, List, [], ◌∷◌, ◌++◌, length, get_or, drop, refl, ap, arith, ◌∙◌, length-append, Option, Some}
use Rattle.std.specs.List.{flat_map}
use Prim.Native.Nat.{zero, suc}
use Rattle.door.specs.declared.values.Actor.{Actor}
use Rattle.dom_semantics.specs.Forest.{Forest, Node, in_order, children_of}
use Rattle.dom_semantics.specs.Changes.{laid, copied}
use Rattle.dom_tree.specs.Copies.{parents_laid, parents_of_copies}
use Rattle.dom_tree.proofs.Gathered.{flat_map-more}

pub in_order-more : (levels : ℕ) (f : Forest) (n : ℕ) → levels ≢ 0 → in_order levels f n ≡ n ∷ flat_map (λ child. in_order (levels - 1) f child) (children_of f n)
in_order-more zero f n ne = absurd (ne refl)
in_order-more (suc levels) f n ne =
    let same : levels ≡ suc levels - 1 = omega arith in
    ap (λ k. n ∷ flat_map (λ child. in_order k f child) (children_of f n)) same

length-laid : (lay : ℕ → ℕ → List Node) (order : ℕ → List ℕ) → ((at n : ℕ) → length (lay at n) ≡ length (order n)) → (at : ℕ) (ns : List ℕ) → length (laid lay at ns) ≡ length (flat_map order ns)
length-laid lay order same at [] = refl
length-laid lay order same at (n ∷ ns) =
    let here = same at n in
    let rest = length-laid lay order same (at + length (lay at n)) ns in
    let left = length-append (lay at n) (laid lay (at + length (lay at n)) ns) in
    let right = length-append (order n) (flat_map order ns) in
    omega arith

-- a copy for each node
pub length-copied : (levels : ℕ) (f : Forest) (maker : Actor) (at n : ℕ) → length (copied levels f maker at n) ≡ length (in_order levels f n)
length-copied zero f maker at n = refl
length-copied (suc levels) f maker at n =
    ap suc (length-laid (copied levels f maker) (in_order levels f) (length-copied levels f maker) (at + 1) (children_of f n))

length-parents_laid : (lay : ℕ → ℕ → List (Option ℕ)) (order : ℕ → List ℕ) → ((at n : ℕ) → length (lay at n) ≡ length (order n)) → (at : ℕ) (ns : List ℕ) → length (parents_laid lay at ns) ≡ length (flat_map order ns)
length-parents_laid lay order same at [] = refl
length-parents_laid lay order same at (n ∷ ns) =
    let here = same at n in
    let rest = length-parents_laid lay order same (at + length (lay at n)) ns in
    let left = length-append (lay at n) (parents_laid lay (at + length (lay at n)) ns) in
    let right = length-append (order n) (flat_map order ns) in
    omega arith

-- and a parent's row for each
pub length-parents : (levels : ℕ) (f : Forest) (parent : Option ℕ) (at n : ℕ) → length (parents_of_copies levels f parent at n) ≡ length (in_order levels f n)
length-parents zero f parent at n = refl
length-parents (suc levels) f parent at n =
    ap suc (length-parents_laid (parents_of_copies levels f (Some at)) (in_order levels f) (length-parents levels f (Some at)) (at + 1) (children_of f n))

-- the copies of the children that are left fit too
pub room-left : (levels : ℕ) (f : Forest) (maker : Actor) (n first a b i : ℕ) (x : Node) (xs : List ℕ) (old new : List Node) → levels ≢ 0 → new ++ laid (copied (levels - 1) f maker) a (drop i xs) ≡ old ++ x ∷ laid (copied (levels - 1) f maker) b (children_of f n) → first + length old + length (in_order levels f n) < 2 ^ 32 → first + length new + length (flat_map (λ child. in_order (levels - 1) f child) (drop i xs)) < 2 ^ 32
room-left levels f maker n first a b i x xs old new ne is room =
    let lay = copied (levels - 1) f maker in
    let order = λ (child : ℕ). in_order (levels - 1) f child in
    let full = ap length (in_order-more levels f n ne) in
    let whole = ap length is in
    let left = length-append new (laid lay a (drop i xs)) in
    let right = length-append old (x ∷ laid lay b (children_of f n)) in
    let here = length-laid lay order (length-copied (levels - 1) f maker) a (drop i xs) in
    let there = length-laid lay order (length-copied (levels - 1) f maker) b (children_of f n) in
    omega arith

-- and so do those of the next child
pub room-here : (levels : ℕ) (f : Forest) (maker : Actor) (n first a b i : ℕ) (x : Node) (xs : List ℕ) (old new : List Node) → levels ≢ 0 → new ++ laid (copied (levels - 1) f maker) a (drop i xs) ≡ old ++ x ∷ laid (copied (levels - 1) f maker) b (children_of f n) → first + length old + length (in_order levels f n) < 2 ^ 32 → i < length xs → first + length new + length (in_order (levels - 1) f (get_or xs i 0)) < 2 ^ 32
room-here levels f maker n first a b i x xs old new ne is room lt =
    let order = λ (child : ℕ). in_order (levels - 1) f child in
    let left = room-left levels f maker n first a b i x xs old new ne is room in
    let more = ap length (flat_map-more order xs i 0 lt) ∙ length-append (order (get_or xs i 0)) (flat_map order (drop (i + 1) xs)) in
    omega arith
