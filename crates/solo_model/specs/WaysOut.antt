-- What a request for a way out is answered, as far as its own values decide it (MDN, cloneInto, exportFunction, createObjectIn, waivers; the
-- texts of the refusals are this project's own).
use Rattle.std.specs.Prelude.{◌≡◌, ◌⊎◌, ◌&&◌, ◌||◌, ℕ, Bool, true, false, not, List, [], ◌∷◌, ◌++◌, codes, filter, take}
use Rattle.std.specs.Fmt.{decimal}
use Rattle.std.specs.List.{flat_map}
use Rattle.std.specs.Str.{bytes_eq}
use Rattle.door.specs.declared.values.TheConstants.{PAGE}
use Rattle.door.specs.declared.values.Actor.{Actor}
use Rattle.door.specs.declared.values.Shape.{Shape}
use Rattle.door.specs.declared.values.Shape.TheVariants as shape
use Rattle.door.specs.declared.values.Value.{Value}
use Rattle.door.specs.declared.values.Value.TheVariants as value
use Rattle.door.specs.declared.requests.ErrorKind.TheVariants.{Crossing}
use Rattle.door.specs.declared.requests.ReachOp.{ReachOp}
use Rattle.door.specs.declared.requests.ReachOp.TheVariants as reach
use Rattle.door.specs.declared.requests.Answer.{Answer}
use Rattle.door.specs.declared.requests.Answer.TheVariants.{Value as ValueAnswer, Throw, Stopped}
use Rattle.dom_semantics.specs.Things.{is_actor, is_thing, the_window}
use Rattle.dom_semantics.specs.Crossings.{SCOPE_DENIED, is_in, walk_refusals}
use Rattle.dom_semantics.specs.Fits.{is_function_shape}
use Rattle.dom_semantics.specs.declared.crossings.TheConstants.{PATH_LIMIT}

-- ---- values

-- the same value, waived or not
abbrev pub waived : Bool → Value → Value
waived true (value.Thing thing) = value.WaivedThing thing
waived false (value.WaivedThing thing) = value.Thing thing
waived flag (value.Cell owner place shape old) = value.Cell owner place shape flag
waived flag v = v

-- a function as the actor sees it: its own, or one that is waived
abbrev pub is_callable : Actor → Value → Bool
is_callable i (value.Cell owner place shape waived) = is_function_shape shape && (is_actor owner i || waived)
is_callable i v = false

abbrev pub is_own : Actor → Value → Bool
is_own i (value.Cell owner place shape waived) = is_actor owner i
is_own i v = false

-- a scope is the script's window or a waived reference of the page
abbrev pub is_scope : Value → Bool
is_scope (value.Thing thing) = is_thing the_window thing
is_scope (value.WaivedThing thing) = true
is_scope (value.Cell owner place shape waived) = is_actor owner PAGE && waived
is_scope v = false

-- ---- answers

-- this refusal comes first, or else what is answered
abbrev pub Unless : Bool → List ℕ → Answer → Type 0 → Type 0
Unless true kind answer Then = answer ≡ Throw (Crossing kind)
Unless false kind answer Then = Then

-- a waived object of the page of this shape
abbrev pub IsOfPage : Shape → Answer → Type 0
IsOfPage shape answer = (place : ℕ) × (answer ≡ ValueAnswer (value.Cell PAGE place shape true))

-- ---- clones

-- the refusal of the value at a path; that of the source itself is empty
abbrev pub refused_at : List ℕ → List ℕ → Answer
refused_at fault path = Throw (Crossing (fault ++ (codes " at " ++ path)))

-- the refusals that the options leave: functions that are cloned and things that are wrapped are none (MDN, cloneInto, options)
abbrev pub is_left : (functions reflectors : Bool) → List ℕ → Bool
is_left functions reflectors fault = not ((functions && bytes_eq fault (codes "IsFunction")) || (reflectors && bytes_eq fault (codes "IsThing")))

abbrev pub faults_left : (functions reflectors : Bool) → List (List ℕ)
faults_left functions reflectors = filter (is_left functions reflectors) walk_refusals

-- a step of the path to a value inside of what is cloned: from an object by a key, or from an array by a place
pub data PathStep : Type 0 where
  ToKey : (key : List ℕ) → PathStep
  ToPlace : (place : ℕ) → PathStep

abbrev pub step_text : PathStep → List ℕ
step_text (ToKey key) = codes "." ++ key
step_text (ToPlace place) = codes "[" ++ (decimal place ++ codes "]")

-- the path of these steps, cut at its limit
abbrev pub path_of : List PathStep → List ℕ
path_of steps = take PATH_LIMIT (flat_map step_text steps)

-- a plain object is left by a key, an array by a place
abbrev pub is_step_in : Shape → PathStep → Bool
is_step_in shape.Plain (ToKey key) = true
is_step_in shape.Array (ToPlace place) = true
is_step_in shape step = false

-- the refusal of a value inside a source of this shape
pub record IsRefusedWithin (shape : Shape) (faults : List (List ℕ)) (answer : Answer) : Type 0 where
  pub fault : List ℕ
  pub first : PathStep
  pub later : List PathStep
  pub within : is_step_in shape first ≡ true
  pub known : is_in faults fault ≡ true
  pub same : answer ≡ refused_at fault (path_of (first ∷ later))

-- an own plain object or array is copied, or refused for what is inside; an own function becomes one of the page where functions are cloned
abbrev pub IsCloneOf : Shape → (functions reflectors : Bool) → Answer → Type 0
IsCloneOf shape.Plain functions reflectors answer =
    IsOfPage shape.Plain answer ⊎ IsRefusedWithin shape.Plain (faults_left functions reflectors) answer
IsCloneOf shape.Array functions reflectors answer =
    IsOfPage shape.Array answer ⊎ IsRefusedWithin shape.Array (faults_left functions reflectors) answer
IsCloneOf shape.Function true reflectors answer = IsOfPage shape.Function answer
IsCloneOf shape.Function false reflectors answer = answer ≡ refused_at (codes "IsFunction") []
IsCloneOf shape.Error functions reflectors answer = answer ≡ refused_at (codes "IsForeign") []

-- only own objects are walked
abbrev pub IsCloneIf : Bool → Shape → (functions reflectors : Bool) → Answer → Type 0
IsCloneIf true shape functions reflectors answer = IsCloneOf shape functions reflectors answer
IsCloneIf false shape functions reflectors answer = answer ≡ refused_at (codes "IsForeign") []

-- a thing becomes the page's where things are wrapped; a primitive is itself
abbrev pub IsClone : Actor → Value → (functions reflectors : Bool) → Answer → Type 0
IsClone i (value.Thing thing) functions true answer = answer ≡ ValueAnswer (value.WaivedThing thing)
IsClone i (value.Thing thing) functions false answer = answer ≡ refused_at (codes "IsThing") []
IsClone i (value.WaivedThing thing) functions reflectors answer = answer ≡ refused_at (codes "IsForeign") []
IsClone i (value.Cell owner place shape waived) functions reflectors answer =
    IsCloneIf (is_actor owner i && not waived) shape functions reflectors answer
IsClone i source functions reflectors answer = answer ≡ ValueAnswer source

-- ---- each way out

abbrev pub IsWayOut : Actor → ReachOp → Answer → Type 0
IsWayOut i (reach.Waive v) answer = answer ≡ ValueAnswer (waived true v)
IsWayOut i (reach.Unwaive v) answer = answer ≡ ValueAnswer (waived false v)
IsWayOut i reach.UnsafeWindow answer = answer ≡ ValueAnswer (value.WaivedThing the_window)
IsWayOut i (reach.Export callee scope options) answer =
    Unless (not (is_callable i callee)) (codes "NotCallable") answer (Unless (not (is_own i callee)) (codes "NotOwn") answer
    (Unless (not (is_scope scope)) SCOPE_DENIED answer (IsOfPage shape.Function answer)))
IsWayOut i (reach.CreateIn scope options) answer = Unless (not (is_scope scope)) SCOPE_DENIED answer (IsOfPage shape.Plain answer)
IsWayOut i (reach.Clone source scope options functions reflectors) answer =
    Unless (not (is_scope scope)) SCOPE_DENIED answer (IsClone i source functions reflectors answer)

-- one that is stopped says nothing of its values
abbrev pub IsWayOutOrStopped : Actor → ReachOp → Answer → Type 0
IsWayOutOrStopped i operation answer = (answer ≡ Stopped) ⊎ IsWayOut i operation answer
