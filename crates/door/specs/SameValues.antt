-- Own: for the values that pass between actors, `==` tells which are the same, and a clone is the same.
use Rattle.std.specs.Bool.{Decides, beq}
use Rattle.std.specs.Prelude.{Bool, true}
use Rattle.std.specs.Cmp.{IsEquivalence, booleans_Decides}
use Rattle.std.specs.Cmp.Lexicographic.{pointwise, pointwise_decides}
use Rattle.std.specs.List.{AllZip}
use Rattle.std.specs.Str.{bytes_eq}
use Rattle.std.proofs.Common.{◌≡◌, ◌∙◌, ap, ℕ, List, rules}
use Rattle.std.proofs.lemmas.List.Elements.{same_from_all_zip}
use Rattle.std.proofs.lemmas.Slice.Eq.{bytes_eq-Decides}
use Rattle.door.specs.declared.values.Actor.{Actor}
use Rattle.door.specs.declared.values.Thing.{Thing}
use Rattle.door.specs.declared.values.Value.{Value}
use Rattle.door.specs.contracts.values.ActorPartialEq.TheImpl.{eq-value as actor_eq}
use Rattle.door.specs.contracts.values.ThingPartialEq.TheImpl.{eq-value as thing_eq}
use Rattle.door.specs.contracts.values.ValuePartialEq.TheImpl.{eq-value as value_eq}
use Rattle.door.specs.contracts.values.ValueClone.TheImpl.{by_variants as IsValueClone}

-- an equivalence under which only the same are equal decides what is the same
pub decided : {K : Type 0} (E : K → K → Bool) → IsEquivalence E → ((x y : K) → E x y ≡ true → x ≡ y) → (x y : K) → Decides (E x y) (x ≡ y)
decided E laws sound x y = (sound x y, λ same. ap (λ z. E z y) same ∙ laws.refl y)

-- equal flags are the same
pub flag_same : (x y : Bool) → beq x y ≡ true → x ≡ y
flag_same x y = (booleans_Decides x y).0

-- equal texts are the same
pub text_same : (x y : List ℕ) → bytes_eq x y ≡ true → x ≡ y
text_same x y = (bytes_eq-Decides x y).0

-- equal lists of texts are the same
pub texts_same : (xs ys : List (List ℕ)) → pointwise bytes_eq xs ys ≡ true → xs ≡ ys
texts_same xs ys = (pointwise_decides bytes_eq-Decides xs ys).0

-- `==` on actors says whether they are the same
pub actor_Decides : (x y : Actor) → Decides (actor_eq.it x y) (x ≡ y)
actor_Decides x y = search rules

-- equal actors are the same
pub actor_same : (x y : Actor) → actor_eq.it x y ≡ true → x ≡ y
actor_same x y = (actor_Decides x y).0

-- `==` on things says whether they are the same
pub thing_Decides : (x y : Thing) → Decides (thing_eq.it x y) (x ≡ y)
thing_Decides x y = search rules

-- equal things are the same
pub thing_same : (x y : Thing) → thing_eq.it x y ≡ true → x ≡ y
thing_same x y = (thing_Decides x y).0

-- `==` on values says whether they are the same
pub value_Decides : (x y : Value) → Decides (value_eq.it x y) (x ≡ y)
value_Decides x y = search rules

-- equal values are the same
pub value_same : (x y : Value) → value_eq.it x y ≡ true → x ≡ y
value_same x y = (value_Decides x y).0

-- equal lists of values are the same
pub values_same : (xs ys : List Value) → pointwise value_eq.it xs ys ≡ true → xs ≡ ys
values_same xs ys = (pointwise_decides value_Decides xs ys).0

-- a clone of a value is the same
pub value_copied : (x y : Value) → IsValueClone x y → y ≡ x
value_copied x y h = search rules

-- a clone of a list of values is the same
pub values_copied : (xs ys : List Value) → AllZip IsValueClone xs ys → ys ≡ xs
values_copied xs ys h = same_from_all_zip IsValueClone xs ys h value_copied
