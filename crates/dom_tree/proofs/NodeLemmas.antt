-- The node of a number after a change.
use Rattle.std.proofs.Common.{◌≡◌, ◌≢◌, ◌+◌, ◌<◌, ℕ, cond, [], ◌∷◌, ◌++◌, length, get_or, refl, ap, sym, zero-add, ◌∙◌, arith}
use Rattle.std.specs.Prelude.{nat_eq, slice_set}
use Prim.Native.Nat.{zero, suc}
use Rattle.std.proofs.lemmas.List.{get_or-set_same, get_or-set_other, ext_get_or, length-map, get_or_read}
use Rattle.std.proofs.lemmas.List.Sums.{sum_by-append}
use Rattle.door.specs.declared.values.Actor.{Actor}
use Rattle.dom_semantics.specs.Forest.{Node, Forest, no_node, node_at, children_of, made_by}
use Rattle.dom_semantics.specs.Changes.{removed, without}

-- two forests with the same nodes are one
pub same_nodes : (f g : Forest) → length f ≡ length g → ((n : ℕ) → node_at f n ≡ node_at g n) → f ≡ g
same_nodes f g long same = ext_get_or no_node f g long (λ i h. same i)

pub node_at-set_same : (f : Forest) (n : ℕ) (x : Node) → n < length f → node_at (slice_set f n x) n ≡ x
node_at-set_same f n x h = get_or-set_same f n x no_node h

pub node_at-set_other : (f : Forest) (n : ℕ) (x : Node) (q : ℕ) → q ≢ n → node_at (slice_set f n x) q ≡ node_at f q
node_at-set_other f n x q h = get_or-set_other f n q x no_node h

pub node_at-removed : (f : Forest) (n q : ℕ) → node_at (removed f n) q ≡ record (node_at f q) { children = without n (children_of f q) }
node_at-removed [] n q = refl
node_at-removed (x ∷ f) n zero = refl
node_at-removed (x ∷ f) n (suc q) = node_at-removed f n q

pub length-removed : (f : Forest) (n : ℕ) → length (removed f n) ≡ length f
length-removed f n = length-map f _

-- a node more at the end
pub node_at-pushed : (f : Forest) (x : Node) → node_at (f ++ x ∷ []) (length f) ≡ x
node_at-pushed [] x = refl
node_at-pushed (y ∷ f) x = node_at-pushed f x

pub node_at-pushed_other : (f : Forest) (x : Node) (q : ℕ) → q ≢ length f → node_at (f ++ x ∷ []) q ≡ node_at f q
node_at-pushed_other [] x zero h = absurd (h refl)
node_at-pushed_other [] x (suc q) h = refl
node_at-pushed_other (y ∷ f) x zero h = refl
node_at-pushed_other (y ∷ f) x (suc q) h = node_at-pushed_other f x q (λ e. h (ap suc e))

-- how many nodes an actor has made
abbrev pub one_of : Node → Actor → ℕ
one_of y maker = cond (nat_eq y.maker.0 maker.0) 1 0

pub made_by-append : (f g : Forest) (maker : Actor) → made_by (f ++ g) maker ≡ made_by f maker + made_by g maker
made_by-append f g maker = sum_by-append (λ y. one_of y maker) f g

pub made_by-cons : (y : Node) (f : Forest) (maker : Actor) → made_by (y ∷ f) maker ≡ one_of y maker + made_by f maker
made_by-cons y f maker = made_by-append (y ∷ []) f maker ∙ ap (λ n. n + made_by f maker) (zero-add (one_of y maker))

pub made_by-set : (f : Forest) (n : ℕ) (x : Node) (maker : Actor) → n < length f → x.maker ≡ (node_at f n).maker → made_by (slice_set f n x) maker ≡ made_by f maker
made_by-set [] n x maker h same = refl
made_by-set (y ∷ f) zero x maker h same =
    made_by-cons x f maker ∙ (ap (λ (m : Actor). cond (nat_eq m.0 maker.0) 1 0 + made_by f maker) same ∙ sym (made_by-cons y f maker))
made_by-set (y ∷ f) (suc n) x maker h same =
    made_by-cons y (slice_set f n x) maker ∙ (ap (λ m. one_of y maker + m) (made_by-set f n x maker (omega arith) same) ∙ sym (made_by-cons y f maker))

pub made_by-removed : (f : Forest) (n : ℕ) (maker : Actor) → made_by (removed f n) maker ≡ made_by f maker
made_by-removed [] n maker = refl
made_by-removed (y ∷ f) n maker =
    made_by-cons (record y { children = without n y.children }) (removed f n) maker ∙ (ap (λ m. one_of y maker + m) (made_by-removed f n maker) ∙ sym (made_by-cons y f maker))

pub made_by-one : (x : Node) (maker : Actor) → made_by (x ∷ []) maker ≡ one_of x maker
made_by-one x maker = zero-add (one_of x maker)

-- the node that was read is the node of that number
pub node_at-read : (f : Forest) (n : ℕ) (x : Node) → n < length f → x ≡ get_or f n x → x ≡ node_at f n
node_at-read f n x lt e = get_or_read f n x lt e no_node
