-- What one actor sees of a journal: its own marks in order, by the names of `Naming`; this project's own.
use Rattle.std.specs.Prelude.{ℕ, List, [], ◌∷◌, ◌++◌, if◌then◌else◌}
use Rattle.door.specs.declared.values.Actor.{Actor}
use Rattle.door.specs.declared.values.Value.{Value}
use Rattle.door.specs.declared.values.Value.TheVariants.{Thing as ThingValue}
use Rattle.door.specs.declared.members.Member.TheVariants.{EventTargetDispatchEvent}
use Rattle.door.specs.declared.requests.Request.{Request}
use Rattle.door.specs.declared.requests.Request.TheVariants.{Native}
use Rattle.door.specs.declared.requests.Answer.{Answer}
use Rattle.door.specs.declared.marks.Entry.{Entry}
use Rattle.door.specs.declared.marks.Mark.{Mark}
use Rattle.door.specs.declared.marks.Mark.TheVariants.{Enter, Ask, Dispatch, Back, Leave}
use Rattle.dom_semantics.specs.Things.{is_actor}
use Rattle.js_semantics.specs.Solo.{Act, Dispatches, Leaves}
use Rattle.solo_model.specs.Naming.{Met, met_first, meets_answer, meets_entry, named, event_spot, named_answer, named_entry, named_request}

-- one mark as an actor sees it: its entries, its requests with their answers, what it says, what comes back
pub data Seen : Type 0 where
  Entered : Entry → Seen
  Asked : Request → Answer → Seen
  Said : Act → Seen
  Returned : Answer → Seen

-- what an actor has met after a mark
abbrev pub learnt : Actor → Met → Mark → Met
learnt i met (Enter j entry) = if is_actor j i then meets_entry met entry else met
learnt i met (Ask j request answer) = if is_actor j i then meets_answer i met answer else met
learnt i met mark = met

-- only an actor's own marks are seen
abbrev pub if_own : Actor → Actor → Seen → List Seen
if_own i j seen = if is_actor j i then seen ∷ [] else []

-- the event of a request to dispatch one
abbrev pub event_of : List Value → ℕ
event_of (ThingValue event ∷ values) = event.number
event_of values = 0

-- a refused request to dispatch is the act of dispatching, and what came back; what an answer shows is met by then
abbrev pub asked_seen : Actor → Met → Met → Request → Answer → List Seen
asked_seen i met after (Native EventTargetDispatchEvent target arguments) answer =
    Said (Dispatches (event_spot met (event_of arguments)) (named met target)) ∷ (Returned (named_answer i after answer) ∷ [])
asked_seen i met after request answer = Asked (named_request i met request) (named_answer i after answer) ∷ []

-- what an actor sees of a mark: of another's nothing, not even a look at its objects; services come into no view yet
abbrev pub seen_of : Actor → Met → Mark → List Seen
seen_of i met (Enter j entry) = if_own i j (Entered (named_entry (meets_entry met entry) entry))
seen_of i met (Ask j request answer) = if is_actor j i then asked_seen i met (meets_answer i met answer) request answer else []
seen_of i met (Dispatch j event target) = if_own i j (Said (Dispatches (event_spot met event) (named met target)))
seen_of i met (Back j answer) = if_own i j (Returned answer)
seen_of i met (Leave j outcome units) = if_own i j (Said (Leaves outcome units))
seen_of i met mark = []

-- the same of the marks in order
unfoldable pub view_from : Actor → Met → List Mark → List Seen
view_from i met [] = []
view_from i met (mark ∷ marks) = seen_of i met mark ++ view_from i (learnt i met mark) marks

-- an actor's view of a journal
abbrev pub view_of : Actor → List Mark → List Seen
view_of i marks = view_from i met_first marks

-- what an actor has met after the marks in order
unfoldable pub met_from : Actor → Met → List Mark → Met
met_from i met [] = met
met_from i met (mark ∷ marks) = met_from i (learnt i met mark) marks

-- what an actor has met in a journal
abbrev pub met_of : Actor → List Mark → Met
met_of i marks = met_from i met_first marks
