-- The values that marks carry, and when a mark may name another's object; this project's own.
use Rattle.std.specs.Prelude.{◌&&◌, ◌||◌, ℕ, Bool, false, not, List, [], ◌∷◌}
use Rattle.std.specs.List.{flat_map, list_all, list_any}
use Rattle.door.specs.declared.values.Actor.{Actor}
use Rattle.door.specs.declared.values.Value.{Value}
use Rattle.door.specs.declared.values.Value.TheVariants.{Cell}
use Rattle.door.specs.declared.members.Member.TheVariants.{NewCustomEvent}
use Rattle.door.specs.declared.requests.Request.{Request}
use Rattle.door.specs.declared.requests.Request.TheVariants.{Native, Peek, PeekKeys, Reach}
use Rattle.door.specs.declared.requests.ServeOp.{ServeOp}
use Rattle.door.specs.declared.requests.ServeOp.TheVariants as serve
use Rattle.door.specs.declared.requests.Answer.{Answer}
use Rattle.door.specs.declared.requests.Answer.TheVariants as answer
use Rattle.door.specs.declared.marks.Mark.{Mark}
use Rattle.door.specs.declared.marks.Mark.TheVariants.{Ask}
use Rattle.dom_semantics.specs.Bounds.{is_short}
use Rattle.dom_semantics.specs.Fits.{is_script, is_within_limits, way_out}
use Rattle.dom_semantics.specs.Stage.{Stage}
use Rattle.dom_semantics.specs.Things.{is_actor}
use Rattle.dom_semantics.specs.Truth.{has_value_thing}
use Rattle.solo_model.specs.Naming.{Object, is_object}
use Rattle.solo_model.specs.Openings.{Zones, has_opened}

-- ---- values

abbrev pub serve_values : ServeOp → List Value
serve_values (serve.Set key v) = v ∷ []
serve_values (serve.Define key v) = v ∷ []
serve_values (serve.Call this arguments) = this ∷ arguments
serve_values (serve.New arguments) = arguments
serve_values operation = []

-- the keys of a service
abbrev pub serve_keys : ServeOp → List (List ℕ)
serve_keys (serve.Get key) = key ∷ []
serve_keys (serve.Set key v) = key ∷ []
serve_keys (serve.Has key) = key ∷ []
serve_keys (serve.Delete key) = key ∷ []
serve_keys (serve.Define key v) = key ∷ []
serve_keys operation = []

abbrev pub answer_values : Answer → List Value
answer_values (answer.Value v) = v ∷ []
answer_values (answer.List vs) = vs
answer_values (answer.Thrown v) = v ∷ []
answer_values a = []

abbrev pub answer_keys : Answer → List (List ℕ)
answer_keys (answer.Keys keys) = keys
answer_keys a = []

-- texts and numbers are within their limits, none is a cell of the host, and the things are on the stage
abbrev pub are_there : Stage → List Value → Bool
are_there s vs = list_all is_within_limits vs && list_all (has_value_thing s) vs

abbrev pub are_short : List (List ℕ) → Bool
are_short keys = list_all is_short keys

-- ---- objects

abbrev pub objects_of : Value → List Object
objects_of (Cell owner place shape waived) = record { owner = owner; place = place } ∷ []
objects_of v = []

abbrev pub objects_in : List Value → List Object
objects_in vs = flat_map objects_of vs

-- what a request names
abbrev pub request_objects : Request → List Object
request_objects (Native member thing arguments) = objects_in arguments
request_objects (Peek owner place key) = record { owner = owner; place = place } ∷ []
request_objects (PeekKeys owner place) = record { owner = owner; place = place } ∷ []
request_objects (Reach operation) = objects_in (way_out operation).arguments

-- what an answer names; that of a member names what it holds by requests before
abbrev pub answer_objects : Request → Answer → List Object
answer_objects (Native member thing arguments) a = []
answer_objects request a = objects_in (answer_values a)

-- who holds what an answer names: of a look it is the owner of what is looked at
abbrev pub answerer : Actor → Request → Actor
answerer i (Peek owner place key) = owner
answerer i request = i

-- its owner made an event that carries the object: no closed script gives one away in another way
abbrev pub gives_away : Object → Mark → Bool
gives_away object (Ask i (Native NewCustomEvent thing arguments) a) = is_actor i object.owner && list_any (is_object object) (objects_in arguments)
gives_away object mark = false

-- an object of another userscript that is closed is named only where its owner has given it away
abbrev pub may_name : Zones → List Mark → Actor → Object → Bool
may_name zones before i object =
    is_actor i object.owner || not (is_script object.owner) || has_opened zones object.owner before || list_any (gives_away object) before

abbrev pub may_name_all : Zones → List Mark → Actor → List Object → Bool
may_name_all zones before i objects = list_all (may_name zones before i) objects
