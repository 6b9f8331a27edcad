-- What was met goes by one name, and no other has that name.
use Rattle.std.proofs.Common.{◌≡◌, ◌∙◌, ◌+◌, ◌||◌, ap, arith, cond, not, refl, sym, true≢false, ℕ, Bool, true, false, List, [], ◌∷◌, nat_eq}
use Rattle.std.specs.List.{list_any, position_or_len}
use Rattle.std.proofs.lemmas.Bool.{and_parts, eqb-true}
use Prim.Native.Nat.{zero, suc}
use Rattle.door.specs.declared.values.Kind.{Kind}
use Rattle.door.specs.declared.values.Kind.TheVariants.{Window, Document, Element, Str as StrKind, Comment, Event}
use Rattle.door.specs.declared.values.Thing.{Thing}
use Rattle.dom_semantics.specs.Things.{is_actor, is_kind, is_thing, kind_number}
use Rattle.solo_model.specs.Naming.{Met, Object, is_object, named, object_spot}

-- what passes two tests
abbrev Both : {X : Type 0} → (X → Bool) → (X → Bool) → Type 0
Both {X} p q = (x : X) × (p x ≡ true) × (q x ≡ true)

-- the first that passes one test stands where the first stands that passes another
one_spot : {X : Type 0} (p q : X → Bool) (xs : List X) → list_any p xs ≡ true → position_or_len p xs ≡ position_or_len q xs → Both p q
one_spot p q [] any same = absurd (true≢false (sym any))
one_spot {X} p q (x ∷ xs) any same = by (p x) (q x) refl refl any same (λ known earlier. one_spot p q xs known earlier)
  where
    by : (b c : Bool) → p x ≡ b → q x ≡ c → (b || list_any p xs) ≡ true
        → cond (not b) (1 + position_or_len p xs) 0 ≡ cond (not c) (1 + position_or_len q xs) 0
        → (list_any p xs ≡ true → position_or_len p xs ≡ position_or_len q xs → Both p q) → Both p q
    by true true e f any same later = (x, e, f)
    by true false e f any same later = absurd (omega (arith, same))
    by false true e f any same later = absurd (omega (arith, same))
    by false false e f any same later =
        let earlier : position_or_len p xs ≡ position_or_len q xs = omega (arith, same) in
        later any earlier

-- ---- equal by their numbers

abbrev kind_of : ℕ → Kind
kind_of zero = Window
kind_of (suc zero) = Document
kind_of (suc (suc zero)) = Element
kind_of (suc (suc (suc zero))) = StrKind
kind_of (suc (suc (suc (suc zero)))) = Comment
kind_of (suc (suc (suc (suc (suc n))))) = Event

kind_again : (kind : Kind) → kind_of (kind_number kind) ≡ kind
kind_again Window = refl
kind_again Document = refl
kind_again Element = refl
kind_again StrKind = refl
kind_again Comment = refl
kind_again Event = refl

kind_is : (a b : Kind) → is_kind a b ≡ true → a ≡ b
kind_is a b e = sym (kind_again a) ∙ ap kind_of (eqb-true (kind_number a) (kind_number b) e) ∙ kind_again b

thing_is : (a b : Thing) → is_thing a b ≡ true → a ≡ b
thing_is a b e =
    let parts = and_parts (is_kind a.kind b.kind) (nat_eq a.number b.number) e in
    let kind : a.kind ≡ b.kind = kind_is a.kind b.kind parts.0 in
    let number : a.number ≡ b.number = eqb-true a.number b.number parts.1 in
    λ k. record { kind = kind k; number = number k }

object_is : (a b : Object) → is_object a b ≡ true → a ≡ b
object_is a b e =
    let parts = and_parts (is_actor a.owner b.owner) (nat_eq a.place b.place) e in
    let owner : a.owner.0 ≡ b.owner.0 = eqb-true a.owner.0 b.owner.0 parts.0 in
    let place : a.place ≡ b.place = eqb-true a.place b.place parts.1 in
    λ k. record { owner = record { 0 = owner k }; place = place k }

-- ---- names

pub one_thing : (met : Met) (a b : Thing) → list_any (is_thing a) met.things ≡ true → named met a ≡ named met b → a ≡ b
one_thing met a b known same =
    let it = one_spot (is_thing a) (is_thing b) met.things known (ap (λ (t : Thing). t.number) same) in
    thing_is a it.0 it.1 ∙ sym (thing_is b it.0 it.2)

pub one_object : (met : Met) (a b : Object) → list_any (is_object a) met.objects ≡ true → object_spot met a.owner a.place ≡ object_spot met b.owner b.place → a ≡ b
one_object met a b known same =
    let it = one_spot (is_object a) (is_object b) met.objects known same in
    object_is a it.0 it.1 ∙ sym (object_is b it.0 it.2)
