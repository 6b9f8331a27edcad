-- What an actor has met: the window comes first, and what was met stays where it is.
use Rattle.std.proofs.Common.{◌≡◌, ap, refl, Bool, true, false, ◌||◌, List, [], ◌∷◌, ◌++◌, if◌then◌else◌}
use Rattle.std.specs.List.{list_any}
use Rattle.door.specs.declared.values.Actor.{Actor}
use Rattle.door.specs.declared.values.Thing.{Thing}
use Rattle.door.specs.declared.values.Value.{Value}
use Rattle.door.specs.declared.values.Value.TheVariants.{Undefined, Null, Bool as BoolValue, Number as NumberValue, Str as StrValue, Thing as ThingValue, WaivedThing, Cell}
use Rattle.door.specs.declared.requests.Answer.{Answer}
use Rattle.door.specs.declared.requests.Answer.TheVariants.{Value as ValueAnswer, List as ListAnswer, Keys, Absent, Denied, Throw as ThrowAnswer, Thrown, Stopped}
use Rattle.door.specs.declared.marks.Entry.{Entry}
use Rattle.door.specs.declared.marks.Entry.TheVariants.{Script, Listener, Timer, Serve as ServeEntry}
use Rattle.door.specs.declared.marks.Mark.{Mark}
use Rattle.door.specs.declared.marks.Mark.TheVariants.{Turn, Build, Enter, Ask, Dispatch, Back, Leave, Serve, Served}
use Rattle.solo_model.specs.Things.{the_window}
use Rattle.solo_model.specs.View.{Met, Object, at_start, is_actor, is_object, is_thing, learnt, meets, meets_all, meets_answer, meets_entry, meets_object, meets_thing, met_from, met_of, named}

-- the window is the first
abbrev First : Met → Type 0
First met = (rest : List Thing) × (met.things ≡ the_window ∷ rest)

either : (b : Bool) (m n : Met) → First m → First n → First (if b then m else n)
either true m n p q = p
either false m n p q = q

first_thing : (met : Met) (thing : Thing) → First met → First (meets_thing met thing)
first_thing met thing h = either (list_any (is_thing thing) met.things) met (record met { things = met.things ++ thing ∷ [] }) h (h.0 ++ thing ∷ [], ap (λ xs. xs ++ thing ∷ []) h.1)

first_value : (i : Actor) (met : Met) (value : Value) → First met → First (meets i met value)
first_value i met Undefined h = h
first_value i met Null h = h
first_value i met (BoolValue b) h = h
first_value i met (NumberValue n) h = h
first_value i met (StrValue text) h = h
first_value i met (ThingValue thing) h = first_thing met thing h
first_value i met (WaivedThing thing) h = first_thing met thing h
first_value i met (Cell owner place shape waived) h =
    let object : Object = record { owner = owner; place = place } in
    either (is_actor owner i) met (meets_object met object) h (either (list_any (is_object object) met.objects) met (record met { objects = met.objects ++ object ∷ [] }) h h)

first_values : (i : Actor) (met : Met) (values : List Value) → First met → First (meets_all i met values)
first_values i met [] h = h
first_values i met (value ∷ values) h = first_values i (meets i met value) values (first_value i met value h)

first_answer : (i : Actor) (met : Met) (given : Answer) → First met → First (meets_answer i met given)
first_answer i met (ValueAnswer value) h = first_value i met value h
first_answer i met (ListAnswer values) h = first_values i met values h
first_answer i met (Keys keys) h = h
first_answer i met Absent h = h
first_answer i met Denied h = h
first_answer i met (ThrowAnswer reason) h = h
first_answer i met (Thrown value) h = first_value i met value h
first_answer i met Stopped h = h

first_entry : (met : Met) (entry : Entry) → First met → First (meets_entry met entry)
first_entry met (Script text) h = h
first_entry met (Listener place event current) h = first_thing (meets_thing met event) current (first_thing met event h)
first_entry met (Timer place) h = h
first_entry met (ServeEntry value operation) h = h

first_learnt : (i : Actor) (met : Met) (mark : Mark) → First met → First (learnt i met mark)
first_learnt i met (Turn task) h = h
first_learnt i met (Build request) h = h
first_learnt i met (Enter j entry) h = either (is_actor j i) (meets_entry met entry) met (first_entry met entry h) h
first_learnt i met (Ask j request given) h = either (is_actor j i) (meets_answer i met given) met (first_answer i met given h) h
first_learnt i met (Dispatch j event target) h = h
first_learnt i met (Back j given) h = h
first_learnt i met (Leave j outcome units) h = h
first_learnt i met (Serve j owner value operation) h = h
first_learnt i met (Served j given) h = h

first_from : (i : Actor) (met : Met) (marks : List Mark) → First met → First (met_from i met marks)
unfolding met_from
first_from i met [] h = h
first_from i met (mark ∷ marks) h = first_from i (learnt i met mark) marks (first_learnt i met mark h)

named_first : (met : Met) → First met → named met the_window ≡ the_window
named_first met (rest, e) = rw e refl

-- the window goes by the same number for every actor
pub window_named : (i : Actor) (marks : List Mark) → named (met_of i marks) the_window ≡ the_window
window_named i marks = named_first (met_of i marks) (first_from i at_start marks ([], refl))

-- what was met isn't met again
pub met_again : (met : Met) (thing : Thing) → list_any (is_thing thing) met.things ≡ true → meets_thing met thing ≡ met
met_again met thing h = rw h refl

any_last : (is : Thing → Bool) (things : List Thing) (thing : Thing) → is thing ≡ true → list_any is (things ++ thing ∷ []) ≡ true
any_last is [] thing h = rw h refl
any_last is (x ∷ things) thing h = or_true (is x) (list_any is (things ++ thing ∷ [])) (any_last is things thing h)
  where
    or_true : (a b : Bool) → b ≡ true → (a || b) ≡ true
    or_true true b e = refl
    or_true false b e = e

-- what is met has been met
pub now_met : (met : Met) (thing : Thing) → is_thing thing thing ≡ true → list_any (is_thing thing) (meets_thing met thing).things ≡ true
now_met met thing self = by (list_any (is_thing thing) met.things) refl
  where
    by : (b : Bool) → list_any (is_thing thing) met.things ≡ b → list_any (is_thing thing) (meets_thing met thing).things ≡ true
    by true e = rw e e
    by false e = rw e (any_last (is_thing thing) met.things thing self)
