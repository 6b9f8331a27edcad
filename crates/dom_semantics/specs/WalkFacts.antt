-- The order of events, computed by the definitions alone. The expected orders are those of the DOM Standard, 2.9 and 2.10.
use Rattle.std.specs.Prelude.{◌≡◌, ℕ, Bool, true, false, List, [], ◌∷◌, ◌++◌}
use Rattle.std.specs.Prelude.{map, replicate, codes, nat_eq, option_map, option_and_then, if◌then◌else◌, Option, Some, pos}
use Rattle.door.specs.declared.values.Actor.{Actor}
use Rattle.door.specs.declared.values.Kind.TheVariants.{Element}
use Rattle.door.specs.declared.values.Shape.TheVariants.{Function}
use Rattle.door.specs.declared.values.Thing.{Thing}
use Rattle.door.specs.declared.values.Value.{Value}
use Rattle.door.specs.declared.values.Value.TheVariants as value
use Rattle.door.specs.declared.members.Member.TheVariants as m
use Rattle.door.specs.declared.requests.Answer.TheVariants as answer
use Rattle.door.specs.declared.requests.ErrorKind.TheVariants as error
use Rattle.dom_semantics.specs.Things.{thing_of, the_window, the_document}
use Rattle.dom_semantics.specs.Stage.{start}
use Rattle.dom_semantics.specs.Plays.{Deed, Asks, Sends, Passed, Called, CameBack, Answered, Do, Play, given, event_thing, played}

abbrev host : Actor
host = record { 0 = 0 }

abbrev page : Actor
page = record { 0 = 1 }

abbrev script : Actor
script = record { 0 = 2 }

abbrev element : ℕ → Thing
element n = thing_of Element n

-- ---- the document: html 1, body 2, div 3 in it, p 4 in that; span 5 with b 6 in it, outside the document

abbrev html : Thing
html = element 1

abbrev body : Thing
body = element 2

abbrev div : Thing
div = element 3

abbrev p : Thing
p = element 4

abbrev span : Thing
span = element 5

abbrev b : Thing
b = element 6

abbrev makes : List ℕ → Deed
makes tag = Asks m.DocumentCreateElement the_document (value.Str tag ∷ [])

abbrev puts : Thing → Thing → Deed
puts parent child = Asks m.NodeAppendChild parent (value.Thing child ∷ [])

abbrev document : List Deed
document =
    makes (codes "html") ∷ puts the_document html ∷ makes (codes "body") ∷ puts html body ∷ makes (codes "div") ∷ puts body div
    ∷ makes (codes "p") ∷ puts div p ∷ makes (codes "span") ∷ makes (codes "b") ∷ puts span b ∷ []

-- ---- deeds

abbrev callback : ℕ → Value
callback place = value.Cell page place Function false

abbrev number : ℕ → Value
number n = value.Number (pos n)

abbrev listens : Thing → List ℕ → ℕ → Bool → Deed
listens target kind place capture = Asks m.EventTargetAddEventListener target (value.Str kind ∷ callback place ∷ value.Bool capture ∷ [])

abbrev on : Thing → ℕ → Deed
on target place = listens target (codes "x") place false

abbrev catches : Thing → ℕ → Deed
catches target place = listens target (codes "x") place true

abbrev drops : Thing → ℕ → Deed
drops target place = Asks m.EventTargetRemoveEventListener target (value.Str (codes "x") ∷ callback place ∷ value.Bool false ∷ [])

abbrev event : List ℕ → Bool → Bool → Deed
event kind bubbles cancelable = Asks m.NewEvent the_window (value.Str kind ∷ value.Bool bubbles ∷ value.Bool cancelable ∷ value.Null ∷ [])

abbrev x : Deed
x = event (codes "x") true true

abbrev of_event : (Thing → List Value → Deed) → Deed
of_event ask = ask (event_thing 0) []

abbrev stop : Deed
stop = of_event (Asks m.EventStopPropagation)

abbrev stop_now : Deed
stop_now = of_event (Asks m.EventStopImmediatePropagation)

abbrev prevent : Deed
prevent = of_event (Asks m.EventPreventDefault)

-- ---- plays

abbrev nothing : ℕ → List Deed
nothing place = []

-- the callback at this place does this, and the others do as they did
abbrev that : ℕ → List Deed → (ℕ → List Deed) → ℕ → List Deed
that place deeds others at = if nat_eq place at then deeds else others at

abbrev begun : Play
begun = record { marks = []; stage = start given; walks = []; passed = [] }

abbrev before_anything : Play → Play
before_anything q = record q { passed = [] }

-- the document is made
abbrev scene : Option Play
scene = option_map before_anything (played 400 nothing (map (Do host) document) begun)

-- an actor does this in the document, and this comes to pass
abbrev passed_by : Actor → (ℕ → List Deed) → List Deed → Option (List Passed)
passed_by i behaviour deeds = option_map (λ (q : Play). q.passed) (option_and_then (λ q. played 400 behaviour (map (Do i) deeds) q) scene)

abbrev Passes : (ℕ → List Deed) → List Deed → List Passed → Type 0
Passes behaviour deeds passed = passed_by page behaviour deeds ≡ Some passed

-- a listener on each item of the path, to capture by 10, 20, .. and else by 11, 21, ..
abbrev everywhere : List Deed
everywhere =
    catches the_window 10 ∷ on the_window 11 ∷ catches the_document 20 ∷ on the_document 21 ∷ catches html 30 ∷ on html 31
    ∷ catches body 40 ∷ on body 41 ∷ catches div 50 ∷ on div 51 ∷ on p 61 ∷ catches p 60 ∷ x ∷ Sends 0 p ∷ []

abbrev downwards : List Passed
downwards = Called 10 the_window 1 ∷ Called 20 the_document 1 ∷ Called 30 html 1 ∷ Called 40 body 1 ∷ Called 50 div 1 ∷ []

abbrev upwards : List Passed
upwards = Called 51 div 3 ∷ Called 41 body 3 ∷ Called 31 html 3 ∷ Called 21 the_document 3 ∷ Called 11 the_window 3 ∷ []

-- the first listeners of the body are 40 and 42 to capture and 41 and 43 else
abbrev some_more : List Deed
some_more = catches body 40 ∷ catches body 42 ∷ on body 41 ∷ on body 43 ∷ catches p 60 ∷ catches p 62 ∷ on p 61 ∷ on p 63 ∷ x ∷ Sends 0 p ∷ []

pub record WalkFacts : Type 0 where
  -- capturing listeners from the window down, those of the target first where they capture, and then up again
  pub whole : Passes nothing everywhere (downwards ++ Called 60 p 2 ∷ Called 61 p 2 ∷ upwards ++ CameBack true ∷ [])
  -- an event that doesn't bubble reaches no listener above that doesn't capture
  pub unbubbling : Passes nothing (catches body 40 ∷ on body 41 ∷ on p 61 ∷ catches p 60 ∷ event (codes "x") false true ∷ Sends 0 p ∷ [])
      (Called 40 body 1 ∷ Called 60 p 2 ∷ Called 61 p 2 ∷ CameBack true ∷ [])
  -- a listener for another type isn't called
  pub other_type : Passes nothing (listens p (codes "y") 60 false ∷ on p 61 ∷ x ∷ Sends 0 p ∷ []) (Called 61 p 2 ∷ CameBack true ∷ [])
  -- all of a visit
  pub every_one : Passes nothing some_more
      (Called 40 body 1 ∷ Called 42 body 1 ∷ Called 60 p 2 ∷ Called 62 p 2 ∷ Called 61 p 2 ∷ Called 63 p 2 ∷ Called 41 body 3 ∷ Called 43 body 3
      ∷ CameBack true ∷ [])
  -- stopPropagation, stopImmediatePropagation while capturing
  pub stop_capturing : Passes (that 40 (stop ∷ []) nothing) some_more (Called 40 body 1 ∷ Called 42 body 1 ∷ CameBack true ∷ [])
  pub stop_now_capturing : Passes (that 40 (stop_now ∷ []) nothing) some_more (Called 40 body 1 ∷ CameBack true ∷ [])
  -- at the target, where the visit of the capturing listeners is one of its own
  pub stop_first_at_target : Passes (that 60 (stop ∷ []) nothing) some_more
      (Called 40 body 1 ∷ Called 42 body 1 ∷ Called 60 p 2 ∷ Called 62 p 2 ∷ CameBack true ∷ [])
  pub stop_at_target : Passes (that 61 (stop ∷ []) nothing) some_more
      (Called 40 body 1 ∷ Called 42 body 1 ∷ Called 60 p 2 ∷ Called 62 p 2 ∷ Called 61 p 2 ∷ Called 63 p 2 ∷ CameBack true ∷ [])
  pub stop_now_at_target : Passes (that 61 (stop_now ∷ []) nothing) some_more
      (Called 40 body 1 ∷ Called 42 body 1 ∷ Called 60 p 2 ∷ Called 62 p 2 ∷ Called 61 p 2 ∷ CameBack true ∷ [])
  -- while bubbling
  pub stop_bubbling : Passes (that 51 (stop ∷ []) nothing) (on div 51 ∷ on div 52 ∷ on body 41 ∷ x ∷ Sends 0 p ∷ []) (Called 51 div 3 ∷ Called 52 div 3
      ∷ CameBack true ∷ [])
  pub stop_now_bubbling : Passes (that 51 (stop_now ∷ []) nothing) (on div 51 ∷ on div 52 ∷ on body 41 ∷ x ∷ Sends 0 p ∷ []) (Called 51 div 3
      ∷ CameBack true ∷ [])
  -- preventDefault, of an event that is cancelable and of one that isn't
  pub prevented : Passes (that 61 (prevent ∷ []) nothing) (on p 61 ∷ on body 41 ∷ x ∷ Sends 0 p ∷ []) (Called 61 p 2 ∷ Called 41 body 3 ∷ CameBack false ∷ [])
  pub unpreventable : Passes (that 61 (prevent ∷ []) nothing) (on p 61 ∷ event (codes "x") true false ∷ Sends 0 p ∷ []) (Called 61 p 2 ∷ CameBack true ∷ [])
  -- a prevented event that is dispatched again stays prevented
  pub prevented_again : Passes (that 61 (prevent ∷ []) nothing) (on p 61 ∷ x ∷ Sends 0 p ∷ Sends 0 body ∷ []) (Called 61 p 2 ∷ CameBack false
      ∷ CameBack false ∷ [])
  -- a listener that was removed before its turn isn't called
  pub removed : Passes (that 61 (drops p 62 ∷ []) nothing) (on p 61 ∷ on p 62 ∷ on p 63 ∷ x ∷ Sends 0 p ∷ []) (Called 61 p 2 ∷ Called 63 p 2
      ∷ CameBack true ∷ [])
  -- nor one that was removed and added again at this visit; the next walk calls it, after the others
  pub added_again : Passes (that 61 (drops p 62 ∷ on p 62 ∷ []) nothing) (on p 61 ∷ on p 62 ∷ on p 63 ∷ x ∷ Sends 0 p ∷ [])
      (Called 61 p 2 ∷ Called 63 p 2 ∷ CameBack true ∷ [])
  -- nor one that is added at the visit where it would be due
  pub added_here : Passes (that 61 (on p 62 ∷ []) nothing) (on p 61 ∷ x ∷ Sends 0 p ∷ Sends 0 p ∷ []) (Called 61 p 2 ∷ CameBack true ∷ Called 61 p 2
      ∷ Called 62 p 2 ∷ CameBack true ∷ [])
  -- but one that is added to a later item of the path is, and one that is removed there isn't
  pub added_later : Passes (that 61 (on div 51 ∷ []) nothing) (on p 61 ∷ x ∷ Sends 0 p ∷ []) (Called 61 p 2 ∷ Called 51 div 3 ∷ CameBack true ∷ [])
  pub removed_later : Passes (that 61 (drops div 51 ∷ []) nothing) (on div 51 ∷ on p 61 ∷ x ∷ Sends 0 p ∷ []) (Called 61 p 2 ∷ CameBack true ∷ [])
  -- a listener that removes itself is called once
  pub removes_itself : Passes (that 61 (drops p 61 ∷ []) nothing) (on p 61 ∷ x ∷ Sends 0 p ∷ Sends 0 p ∷ []) (Called 61 p 2 ∷ CameBack true ∷ CameBack true
      ∷ [])
  -- a capturing listener that adds one to the target has it called
  pub added_at_target : Passes (that 40 (on p 62 ∷ []) nothing) (catches body 40 ∷ x ∷ Sends 0 p ∷ []) (Called 40 body 1 ∷ Called 62 p 2 ∷ CameBack true ∷ [])
  -- an equal listener changes nothing; the same callback to capture is another
  pub equal : Passes nothing (on p 61 ∷ on p 61 ∷ catches p 61 ∷ x ∷ Sends 0 p ∷ []) (Called 61 p 2 ∷ Called 61 p 2 ∷ CameBack true ∷ [])
  -- another event that is dispatched in a listener runs before the walk continues
  pub nested : Passes (that 61 (event (codes "y") false false ∷ Sends 1 div ∷ []) nothing) (on p 61 ∷ on p 62 ∷ listens div (codes "y") 55 false ∷ x
      ∷ Sends 0 p ∷ [])
      (Called 61 p 2 ∷ Called 55 div 2 ∷ CameBack true ∷ Called 62 p 2 ∷ CameBack true ∷ [])
  -- the same event isn't dispatched while it is in dispatch
  pub busy : Passes (that 61 (Sends 0 div ∷ []) nothing) (on p 61 ∷ on p 62 ∷ x ∷ Sends 0 p ∷ [])
      (Called 61 p 2 ∷ Answered (answer.Throw error.InvalidState) ∷ Called 62 p 2 ∷ CameBack true ∷ [])
  -- outside the document the path ends at the root
  pub outside : Passes nothing (catches the_window 10 ∷ on the_document 21 ∷ on span 71 ∷ catches span 70 ∷ on b 81 ∷ x ∷ Sends 0 b ∷ [])
      (Called 70 span 1 ∷ Called 81 b 2 ∷ Called 71 span 3 ∷ CameBack true ∷ [])
  -- at the window, and at the document
  pub at_window : Passes nothing (on the_window 11 ∷ catches the_window 10 ∷ on the_document 21 ∷ event (codes "x") false false ∷ Sends 0 the_window ∷ [])
      (Called 10 the_window 2 ∷ Called 11 the_window 2 ∷ CameBack true ∷ [])
  pub at_document : Passes nothing (catches the_window 10 ∷ on the_window 11 ∷ on the_document 21 ∷ on html 31 ∷ x ∷ Sends 0 the_document ∷ [])
      (Called 10 the_window 1 ∷ Called 21 the_document 2 ∷ Called 11 the_window 3 ∷ CameBack true ∷ [])
  -- a flag that is set before the walk lets nobody be called, and is gone after it
  pub stopped_before : Passes nothing (on p 61 ∷ x ∷ stop ∷ Sends 0 p ∷ Sends 0 p ∷ []) (CameBack true ∷ Called 61 p 2 ∷ CameBack true ∷ [])
  pub stopped_now_before : Passes nothing (on p 61 ∷ x ∷ stop_now ∷ Sends 0 p ∷ Sends 0 p ∷ []) (CameBack true ∷ Called 61 p 2 ∷ CameBack true ∷ [])
  -- a flag that was raised in a walk is gone after it
  pub raised_once : Passes (that 60 (stop ∷ drops p 63 ∷ []) nothing) (catches p 60 ∷ on p 61 ∷ x ∷ Sends 0 p ∷ stop ∷ Sends 0 p ∷ [])
      (Called 60 p 2 ∷ CameBack true ∷ CameBack true ∷ [])
  -- the path is that of the dispatch, whatever a listener does to the tree
  pub moved : Passes (that 61 (puts body p ∷ []) nothing) (on p 61 ∷ on div 51 ∷ on body 41 ∷ x ∷ Sends 0 p ∷ [])
      (Called 61 p 2 ∷ Called 51 div 3 ∷ Called 41 body 3 ∷ CameBack true ∷ [])
  -- what a listener reads of the event, and what is left of it afterwards
  pub read : Passes (that 41 (of_event (Asks m.EventEventPhase) ∷ of_event (Asks m.EventIsTrusted) ∷ []) nothing)
      (on body 41 ∷ x ∷ Sends 0 p ∷ of_event (Asks m.EventEventPhase) ∷ of_event (Asks m.EventCurrentTarget) ∷ of_event (Asks m.EventType) ∷ [])
      (Called 41 body 3 ∷ Answered (answer.Value (number 3)) ∷ Answered (answer.Value (value.Bool false)) ∷ CameBack true
      ∷ Answered (answer.Value (number 0)) ∷ Answered (answer.Value value.Null) ∷ Answered (answer.Value (value.Str (codes "x"))) ∷ [])
  -- an actor makes 64 dispatches in a turn, and the next one is refused; the host is under no limit
  pub sixty_four : passed_by page nothing (x ∷ replicate 65 (Sends 0 p)) ≡ Some (replicate 64 (CameBack true) ++ Answered (answer.Throw error.InvalidState)
      ∷ [])
  pub host_free : passed_by host nothing (x ∷ replicate 70 (Sends 0 p)) ≡ Some (replicate 70 (CameBack true))
  -- a script's dispatch of a trusted event makes it untrusted, and the host's leaves it as it is
  pub trust : passed_by host nothing (x ∷ Sends 0 p ∷ of_event (Asks m.EventIsTrusted) ∷ []) ≡ Some (CameBack true
      ∷ Answered (answer.Value (value.Bool true)) ∷ [])
