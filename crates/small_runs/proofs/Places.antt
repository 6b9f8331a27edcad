-- The page's own nodes stand in the forest, each with its kind.
use Rattle.std.proofs.Common.{◌≡◌, sym, refl, subst, ℕ, ◌+◌, ◌<◌, ◌&&◌, Bool, true, false, [], ◌∷◌, arith, length, nat_eq, nat_lt, if◌then◌else◌, slice_get, slice_index_or, Some}
use Prim.Native.Nat.{zero, suc}
use Rattle.std.proofs.lemmas.Bool.Decides.{nat_tests}
use Rattle.door.specs.declared.values.Kind.{Kind}
use Rattle.dom_semantics.specs.Forest.{Forest, Node, form_at, the_host}
use Rattle.dom_semantics.specs.Stage.{has_node}
use Rattle.dom_semantics.specs.Things.{is_actor, is_kind, is_node_kind, kind_number, kind_of_form, thing_of}
use Rattle.solo_model.specs.Turns.{numbers_from, placed}
use Rattle.small_runs.proofs.Made.{own_kinds}

-- a node of this kind stands at this number
pub record Stands (n : ℕ) (f : Forest) (kind : Kind) (found : ℕ) : Type 0 where
  pub place : ℕ
  pub same : found ≡ n + place
  pub there : place < length f
  pub kind_is : kind_of_form (form_at f place) ≡ kind

same_some : (x y : Kind) → Some x ≡ Some y → x ≡ y
same_some x y e = cc

further : (n : ℕ) (node : Node) (f : Forest) (kind : Kind) (found : ℕ) → Stands (n + 1) f kind found → Stands n (node ∷ f) kind found
further n node f kind found s = record { place = suc s.place; same = omega (arith, s.same); there = omega (arith, s.there); kind_is = s.kind_is }

here : (n : ℕ) (node : Node) (f : Forest) (kind : Kind) → Some (kind_of_form node.form) ≡ Some kind → Stands n (node ∷ f) kind n
here n node f kind e = record { place = 0; same = omega arith; there = omega arith; kind_is = same_some _ kind e }

own_by : (b : Bool) (n k d : ℕ) (node : Node) (f : Forest) (kind : Kind)
    → ((j : ℕ) → slice_get (own_kinds f) j ≡ Some kind → Stands (n + 1) f kind (slice_index_or (numbers_from (n + 1) f) j d))
    → slice_get (if b then kind_of_form node.form ∷ own_kinds f else own_kinds f) k ≡ Some kind
    → Stands n (node ∷ f) kind (slice_index_or (if b then n ∷ numbers_from (n + 1) f else numbers_from (n + 1) f) k d)
own_by true n zero d node f kind later h = here n node f kind h
own_by true n (suc k) d node f kind later h = further n node f kind (slice_index_or (numbers_from (n + 1) f) k d) (later k h)
own_by false n k d node f kind later h = further n node f kind (slice_index_or (numbers_from (n + 1) f) k d) (later k h)

-- the page's k-th own node
own_stands : (n k d : ℕ) (f : Forest) (kind : Kind) → slice_get (own_kinds f) k ≡ Some kind → Stands n f kind (slice_index_or (numbers_from n f) k d)
own_stands n k d [] kind e = absurd cc
own_stands n k d (node ∷ f) kind e = own_by (is_actor node.maker the_host) n k d node f kind (λ j h. own_stands (n + 1) j d f kind h) e

kind_self : (kind : Kind) → is_kind kind kind ≡ true
kind_self kind = own_eq (kind_number kind)
  where
    own_eq : (n : ℕ) → nat_eq n n ≡ true
    own_eq n = grind (arith, nat_tests)

below : (n m : ℕ) → n < m → nat_lt n m ≡ true
below n m h = grind (arith, nat_tests)

has_stood : (f : Forest) (kind : Kind) (found : ℕ) → Stands 0 f kind found → has_node f (thing_of kind found) ≡ true
has_stood f kind found s =
    let number : found ≡ s.place = omega (arith, s.same) in
    let P : ℕ → Type 0 = λ n. (nat_lt n (length f) && is_kind (kind_of_form (form_at f n)) kind) ≡ true in
    let less : nat_lt s.place (length f) ≡ true = below s.place (length f) s.there in
    subst P (sym number) (rw (less, s.kind_is) (kind_self kind))

-- a node of the page under its number among all
pub placed_thing : (f : Forest) (kind : Kind) (n : ℕ) → is_node_kind kind ≡ true → placed f (thing_of kind n) ≡ thing_of kind (slice_index_or (numbers_from 0 f) n (length f))
placed_thing f kind n e = rw e refl

-- it is there
pub placed_there : (f : Forest) (kind : Kind) (n : ℕ) → slice_get (own_kinds f) n ≡ Some kind → has_node f (thing_of kind (slice_index_or (numbers_from 0 f) n (length f))) ≡ true
placed_there f kind n e = has_stood f kind _ (own_stands 0 n (length f) f kind e)
