-- By which names an actor sees things and objects of others: the order in which it met them; this project's own.
use Rattle.std.specs.Prelude.{◌&&◌, ℕ, Bool, List, [], ◌∷◌, ◌++◌, map, nat_eq, if◌then◌else◌}
use Rattle.std.specs.List.{list_any, position_or_len}
use Rattle.door.specs.declared.values.Actor.{Actor}
use Rattle.door.specs.declared.values.Kind.TheVariants.{Event}
use Rattle.door.specs.declared.values.Thing.{Thing}
use Rattle.door.specs.declared.values.Shape.{Shape}
use Rattle.door.specs.declared.values.Value.{Value}
use Rattle.door.specs.declared.values.Value.TheVariants.{Thing as ThingValue, WaivedThing, Cell}
use Rattle.door.specs.declared.requests.Request.{Request}
use Rattle.door.specs.declared.requests.Request.TheVariants.{Native, Peek, PeekKeys, Reach}
use Rattle.door.specs.declared.requests.ReachOp.{ReachOp}
use Rattle.door.specs.declared.requests.ReachOp.TheVariants.{Waive, Unwaive, UnsafeWindow, Export, CreateIn, Clone}
use Rattle.door.specs.declared.requests.Answer.{Answer}
use Rattle.door.specs.declared.requests.Answer.TheVariants.{Value as ValueAnswer, List as ListAnswer, Thrown}
use Rattle.door.specs.declared.marks.Entry.{Entry}
use Rattle.door.specs.declared.marks.Entry.TheVariants.{Listener}
use Rattle.dom_semantics.specs.Forest.{the_host}
use Rattle.dom_semantics.specs.Things.{is_actor, is_thing, thing_of, the_window}

-- an object of an actor, by its place among the actor's own
pub record Object : Type 0 where
  pub owner : Actor
  pub place : ℕ

-- what an actor has met, in the order of meeting: things of all kinds alike, and objects of others
pub record Met : Type 0 where
  pub things : List Thing
  pub objects : List Object

-- the window is met at the start
abbrev pub met_first : Met
met_first = record { things = the_window ∷ []; objects = [] }

abbrev pub is_object : Object → Object → Bool
is_object a b = is_actor a.owner b.owner && nat_eq a.place b.place

-- ---- meeting

-- a thing is met, once
abbrev pub meets_thing : Met → Thing → Met
meets_thing met thing = if list_any (is_thing thing) met.things then met else record met { things = met.things ++ thing ∷ [] }

-- an object is met, once
abbrev pub meets_object : Met → Object → Met
meets_object met object = if list_any (is_object object) met.objects then met else record met { objects = met.objects ++ object ∷ [] }

-- an actor is shown a value; its own objects aren't met
abbrev pub meets : Actor → Met → Value → Met
meets i met (ThingValue thing) = meets_thing met thing
meets i met (WaivedThing thing) = meets_thing met thing
meets i met (Cell owner place shape waived) = if is_actor owner i then met else meets_object met (record { owner = owner; place = place })
meets i met value = met

-- the same of values in order
abbrev pub meets_all : Actor → Met → List Value → Met
meets_all i met [] = met
meets_all i met (value ∷ values) = meets_all i (meets i met value) values

-- what an answer shows
abbrev pub meets_answer : Actor → Met → Answer → Met
meets_answer i met (ValueAnswer value) = meets i met value
meets_answer i met (ListAnswer values) = meets_all i met values
meets_answer i met (Thrown value) = meets i met value
meets_answer i met answer = met

-- what an entry shows: a listener's is given the event and its current target
abbrev pub meets_entry : Met → Entry → Met
meets_entry met (Listener place event current) = meets_thing (meets_thing met event) current
meets_entry met entry = met

-- ---- names

-- the thing by its place in the order of meeting; one that isn't met has the number of those that are
abbrev pub named : Met → Thing → Thing
named met thing = thing_of thing.kind (position_or_len (is_thing thing) met.things)

-- an event by its place in the order of meeting
abbrev pub event_spot : Met → ℕ → ℕ
event_spot met event = (named met (thing_of Event event)).number

-- an object of another by its place in the order of meeting
abbrev pub object_spot : Met → Actor → ℕ → ℕ
object_spot met owner place = position_or_len (is_object (record { owner = owner; place = place })) met.objects

-- the actor's own goes by its place alone: whose it is, is no part of what is seen; the host owns no cell, so its name is free for this
abbrev pub named_cell : Actor → Met → Actor → ℕ → Shape → Bool → Value
named_cell i met owner place shape waived =
    if is_actor owner i then Cell the_host place shape waived else Cell owner (object_spot met owner place) shape waived

-- the same of a value
abbrev pub named_value : Actor → Met → Value → Value
named_value i met (ThingValue thing) = ThingValue (named met thing)
named_value i met (WaivedThing thing) = WaivedThing (named met thing)
named_value i met (Cell owner place shape waived) = named_cell i met owner place shape waived
named_value i met value = value

-- the same of a request for a way out
abbrev pub named_reach : Actor → Met → ReachOp → ReachOp
named_reach i met (Waive value) = Waive (named_value i met value)
named_reach i met (Unwaive value) = Unwaive (named_value i met value)
named_reach i met UnsafeWindow = UnsafeWindow
named_reach i met (Export callee scope options) = Export (named_value i met callee) (named_value i met scope) (named_value i met options)
named_reach i met (CreateIn scope options) = CreateIn (named_value i met scope) (named_value i met options)
named_reach i met (Clone value scope options functions reflectors) =
    Clone (named_value i met value) (named_value i met scope) (named_value i met options) functions reflectors

-- the same of a request
abbrev pub named_request : Actor → Met → Request → Request
named_request i met (Native member thing arguments) = Native member (named met thing) (map (named_value i met) arguments)
named_request i met (Peek owner place key) = Peek owner (object_spot met owner place) key
named_request i met (PeekKeys owner place) = PeekKeys owner (object_spot met owner place)
named_request i met (Reach operation) = Reach (named_reach i met operation)

-- the same of an answer
abbrev pub named_answer : Actor → Met → Answer → Answer
named_answer i met (ValueAnswer value) = ValueAnswer (named_value i met value)
named_answer i met (ListAnswer values) = ListAnswer (map (named_value i met) values)
named_answer i met (Thrown value) = Thrown (named_value i met value)
named_answer i met answer = answer

-- the same of an entry
abbrev pub named_entry : Met → Entry → Entry
named_entry met (Listener place event current) = Listener place (named met event) (named met current)
named_entry met entry = entry
