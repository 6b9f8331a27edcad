-- How many events a journal makes.
use Rattle.std.proofs.Common.{sym, subst, ◌≤◌, ◌+◌, List, [], ◌∷◌, ◌++◌, arith, length, length-append, Option, Some, None, true, false, Bool, if◌then◌else◌}
use Prim.Native.Nat.{suc}
use Rattle.door.specs.declared.values.Actor.{Actor}
use Rattle.door.specs.declared.values.Thing.{Thing}
use Rattle.door.specs.declared.values.Value.{Value}
use Rattle.door.specs.declared.values.Value.TheVariants.{Undefined, Null, Bool as BoolValue, Number as NumberValue, Str as StrValue, Thing as ThingValue, WaivedThing, Cell}
use Rattle.door.specs.declared.members.Member.{Member}
use Rattle.door.specs.declared.members.Member.TheVariants.{WindowDocument, WindowWindow, WindowSelf, WindowSetTimeout, WindowClearTimeout, EventTargetAddEventListener, EventTargetRemoveEventListener, EventTargetDispatchEvent, NodeNodeType, NodeNodeName, NodeParentNode, NodeFirstChild, NodeLastChild, NodePreviousSibling, NodeNextSibling, NodeOwnerDocument, NodeChildNodes, NodeContains, NodeTextContent, NodeSetTextContent, NodeAppendChild, NodeInsertBefore, NodeRemoveChild, NodeRemove, NodeCloneNode, ElementTagName, ElementId, ElementSetId, ElementClassName, ElementSetClassName, ElementGetAttribute, ElementHasAttribute, ElementSetAttribute, ElementRemoveAttribute, ElementChildren, ElementQuerySelector, DocumentQuerySelector, ElementQuerySelectorAll, DocumentQuerySelectorAll, ElementGetElementsByTagName, DocumentGetElementsByTagName, DocumentDocumentElement, DocumentHead, DocumentBody, DocumentTitle, DocumentSetTitle, DocumentReadyState, DocumentUrl, DocumentCreateElement, DocumentCreateTextNode, DocumentCreateComment, DocumentGetElementById, NewEvent, NewCustomEvent, EventType, EventTarget, EventCurrentTarget, EventEventPhase, EventBubbles, EventCancelable, EventDefaultPrevented, EventIsTrusted, EventDetail, EventPreventDefault, EventStopPropagation, EventStopImmediatePropagation, GmLog, GmGetValue, GmSetValue, GmDeleteValue, GmListValues, ConsoleLog}
use Rattle.door.specs.declared.requests.Request.TheVariants.{Native, Peek, PeekKeys, Reach}
use Rattle.door.specs.declared.requests.ErrorKind.{ErrorKind}
use Rattle.door.specs.declared.marks.Mark.{Mark}
use Rattle.door.specs.declared.marks.Mark.TheVariants.{Turn, Build, Enter, Ask, Dispatch, Back, Leave, Serve, Served}
use Rattle.dom_semantics.specs.Forest.{the_host}
use Rattle.solo_model.specs.Stage.{Event, Stage, after, changed, is_refusal, refusal, stage_from, stage_of, start, unless_refused}
use Rattle.small_eval.proofs.Building.{still_events}

no_more : (es : List Event) → length es ≤ length es + 1
no_more es = omega arith

one_more : (es : List Event) (e : Event) → length (es ++ e ∷ []) ≤ length es + 1
one_more es e = simp length-append (omega arith)

changed_events : (i : Actor) (s : Stage) (member : Member) (thing : Thing) (values : List Value) → length (changed i s member thing values).events ≤ length s.events + 1
changed_events i s WindowDocument thing vs = no_more s.events
changed_events i s WindowWindow thing vs = no_more s.events
changed_events i s WindowSelf thing vs = no_more s.events
changed_events i s WindowSetTimeout thing vs = no_more s.events
changed_events i s WindowClearTimeout thing vs = no_more s.events
changed_events i s EventTargetAddEventListener thing vs = no_more s.events
changed_events i s EventTargetRemoveEventListener thing vs = no_more s.events
changed_events i s EventTargetDispatchEvent thing vs = no_more s.events
changed_events i s NodeNodeType thing vs = no_more s.events
changed_events i s NodeNodeName thing vs = no_more s.events
changed_events i s NodeParentNode thing vs = no_more s.events
changed_events i s NodeFirstChild thing vs = no_more s.events
changed_events i s NodeLastChild thing vs = no_more s.events
changed_events i s NodePreviousSibling thing vs = no_more s.events
changed_events i s NodeNextSibling thing vs = no_more s.events
changed_events i s NodeOwnerDocument thing vs = no_more s.events
changed_events i s NodeChildNodes thing vs = no_more s.events
changed_events i s NodeContains thing vs = no_more s.events
changed_events i s NodeTextContent thing vs = no_more s.events
changed_events i s NodeSetTextContent thing vs = no_more s.events
changed_events i s NodeAppendChild thing [] = no_more s.events
changed_events i s NodeAppendChild thing (Undefined ∷ vs) = no_more s.events
changed_events i s NodeAppendChild thing (Null ∷ vs) = no_more s.events
changed_events i s NodeAppendChild thing ((BoolValue b0) ∷ vs) = no_more s.events
changed_events i s NodeAppendChild thing ((NumberValue n0) ∷ vs) = no_more s.events
changed_events i s NodeAppendChild thing ((StrValue t0) ∷ vs) = no_more s.events
changed_events i s NodeAppendChild thing ((ThingValue t0) ∷ []) = no_more s.events
changed_events i s NodeAppendChild thing ((ThingValue t0) ∷ (v1 ∷ vs)) = no_more s.events
changed_events i s NodeAppendChild thing ((WaivedThing t0) ∷ vs) = no_more s.events
changed_events i s NodeAppendChild thing ((Cell o0 p0 h0 w0) ∷ vs) = no_more s.events
changed_events i s NodeInsertBefore thing vs = no_more s.events
changed_events i s NodeRemoveChild thing vs = no_more s.events
changed_events i s NodeRemove thing vs = no_more s.events
changed_events i s NodeCloneNode thing vs = no_more s.events
changed_events i s ElementTagName thing vs = no_more s.events
changed_events i s ElementId thing vs = no_more s.events
changed_events i s ElementSetId thing vs = no_more s.events
changed_events i s ElementClassName thing vs = no_more s.events
changed_events i s ElementSetClassName thing vs = no_more s.events
changed_events i s ElementGetAttribute thing vs = no_more s.events
changed_events i s ElementHasAttribute thing vs = no_more s.events
changed_events i s ElementSetAttribute thing [] = no_more s.events
changed_events i s ElementSetAttribute thing (Undefined ∷ vs) = no_more s.events
changed_events i s ElementSetAttribute thing (Null ∷ vs) = no_more s.events
changed_events i s ElementSetAttribute thing ((BoolValue b0) ∷ vs) = no_more s.events
changed_events i s ElementSetAttribute thing ((NumberValue n0) ∷ vs) = no_more s.events
changed_events i s ElementSetAttribute thing ((StrValue t0) ∷ []) = no_more s.events
changed_events i s ElementSetAttribute thing ((StrValue t0) ∷ (Undefined ∷ vs)) = no_more s.events
changed_events i s ElementSetAttribute thing ((StrValue t0) ∷ (Null ∷ vs)) = no_more s.events
changed_events i s ElementSetAttribute thing ((StrValue t0) ∷ ((BoolValue b1) ∷ vs)) = no_more s.events
changed_events i s ElementSetAttribute thing ((StrValue t0) ∷ ((NumberValue n1) ∷ vs)) = no_more s.events
changed_events i s ElementSetAttribute thing ((StrValue t0) ∷ ((StrValue t1) ∷ [])) = no_more s.events
changed_events i s ElementSetAttribute thing ((StrValue t0) ∷ ((StrValue t1) ∷ (v2 ∷ vs))) = no_more s.events
changed_events i s ElementSetAttribute thing ((StrValue t0) ∷ ((ThingValue t1) ∷ vs)) = no_more s.events
changed_events i s ElementSetAttribute thing ((StrValue t0) ∷ ((WaivedThing t1) ∷ vs)) = no_more s.events
changed_events i s ElementSetAttribute thing ((StrValue t0) ∷ ((Cell o1 p1 h1 w1) ∷ vs)) = no_more s.events
changed_events i s ElementSetAttribute thing ((ThingValue t0) ∷ vs) = no_more s.events
changed_events i s ElementSetAttribute thing ((WaivedThing t0) ∷ vs) = no_more s.events
changed_events i s ElementSetAttribute thing ((Cell o0 p0 h0 w0) ∷ vs) = no_more s.events
changed_events i s ElementRemoveAttribute thing vs = no_more s.events
changed_events i s ElementChildren thing vs = no_more s.events
changed_events i s ElementQuerySelector thing vs = no_more s.events
changed_events i s DocumentQuerySelector thing vs = no_more s.events
changed_events i s ElementQuerySelectorAll thing vs = no_more s.events
changed_events i s DocumentQuerySelectorAll thing vs = no_more s.events
changed_events i s ElementGetElementsByTagName thing vs = no_more s.events
changed_events i s DocumentGetElementsByTagName thing vs = no_more s.events
changed_events i s DocumentDocumentElement thing vs = no_more s.events
changed_events i s DocumentHead thing vs = no_more s.events
changed_events i s DocumentBody thing vs = no_more s.events
changed_events i s DocumentTitle thing vs = no_more s.events
changed_events i s DocumentSetTitle thing [] = no_more s.events
changed_events i s DocumentSetTitle thing (Undefined ∷ vs) = no_more s.events
changed_events i s DocumentSetTitle thing (Null ∷ vs) = no_more s.events
changed_events i s DocumentSetTitle thing ((BoolValue b0) ∷ vs) = no_more s.events
changed_events i s DocumentSetTitle thing ((NumberValue n0) ∷ vs) = no_more s.events
changed_events i s DocumentSetTitle thing ((StrValue t0) ∷ []) = no_more s.events
changed_events i s DocumentSetTitle thing ((StrValue t0) ∷ (v1 ∷ vs)) = no_more s.events
changed_events i s DocumentSetTitle thing ((ThingValue t0) ∷ vs) = no_more s.events
changed_events i s DocumentSetTitle thing ((WaivedThing t0) ∷ vs) = no_more s.events
changed_events i s DocumentSetTitle thing ((Cell o0 p0 h0 w0) ∷ vs) = no_more s.events
changed_events i s DocumentReadyState thing vs = no_more s.events
changed_events i s DocumentUrl thing vs = no_more s.events
changed_events i s DocumentCreateElement thing [] = no_more s.events
changed_events i s DocumentCreateElement thing (Undefined ∷ vs) = no_more s.events
changed_events i s DocumentCreateElement thing (Null ∷ vs) = no_more s.events
changed_events i s DocumentCreateElement thing ((BoolValue b0) ∷ vs) = no_more s.events
changed_events i s DocumentCreateElement thing ((NumberValue n0) ∷ vs) = no_more s.events
changed_events i s DocumentCreateElement thing ((StrValue t0) ∷ []) = no_more s.events
changed_events i s DocumentCreateElement thing ((StrValue t0) ∷ (v1 ∷ vs)) = no_more s.events
changed_events i s DocumentCreateElement thing ((ThingValue t0) ∷ vs) = no_more s.events
changed_events i s DocumentCreateElement thing ((WaivedThing t0) ∷ vs) = no_more s.events
changed_events i s DocumentCreateElement thing ((Cell o0 p0 h0 w0) ∷ vs) = no_more s.events
changed_events i s DocumentCreateTextNode thing [] = no_more s.events
changed_events i s DocumentCreateTextNode thing (Undefined ∷ vs) = no_more s.events
changed_events i s DocumentCreateTextNode thing (Null ∷ vs) = no_more s.events
changed_events i s DocumentCreateTextNode thing ((BoolValue b0) ∷ vs) = no_more s.events
changed_events i s DocumentCreateTextNode thing ((NumberValue n0) ∷ vs) = no_more s.events
changed_events i s DocumentCreateTextNode thing ((StrValue t0) ∷ []) = no_more s.events
changed_events i s DocumentCreateTextNode thing ((StrValue t0) ∷ (v1 ∷ vs)) = no_more s.events
changed_events i s DocumentCreateTextNode thing ((ThingValue t0) ∷ vs) = no_more s.events
changed_events i s DocumentCreateTextNode thing ((WaivedThing t0) ∷ vs) = no_more s.events
changed_events i s DocumentCreateTextNode thing ((Cell o0 p0 h0 w0) ∷ vs) = no_more s.events
changed_events i s DocumentCreateComment thing [] = no_more s.events
changed_events i s DocumentCreateComment thing (Undefined ∷ vs) = no_more s.events
changed_events i s DocumentCreateComment thing (Null ∷ vs) = no_more s.events
changed_events i s DocumentCreateComment thing ((BoolValue b0) ∷ vs) = no_more s.events
changed_events i s DocumentCreateComment thing ((NumberValue n0) ∷ vs) = no_more s.events
changed_events i s DocumentCreateComment thing ((StrValue t0) ∷ []) = no_more s.events
changed_events i s DocumentCreateComment thing ((StrValue t0) ∷ (v1 ∷ vs)) = no_more s.events
changed_events i s DocumentCreateComment thing ((ThingValue t0) ∷ vs) = no_more s.events
changed_events i s DocumentCreateComment thing ((WaivedThing t0) ∷ vs) = no_more s.events
changed_events i s DocumentCreateComment thing ((Cell o0 p0 h0 w0) ∷ vs) = no_more s.events
changed_events i s DocumentGetElementById thing vs = no_more s.events
changed_events i s NewEvent thing [] = no_more s.events
changed_events i s NewEvent thing (Undefined ∷ vs) = no_more s.events
changed_events i s NewEvent thing (Null ∷ vs) = no_more s.events
changed_events i s NewEvent thing ((BoolValue b0) ∷ vs) = no_more s.events
changed_events i s NewEvent thing ((NumberValue n0) ∷ vs) = no_more s.events
changed_events i s NewEvent thing ((StrValue t0) ∷ []) = no_more s.events
changed_events i s NewEvent thing ((StrValue t0) ∷ (Undefined ∷ vs)) = no_more s.events
changed_events i s NewEvent thing ((StrValue t0) ∷ (Null ∷ vs)) = no_more s.events
changed_events i s NewEvent thing ((StrValue t0) ∷ ((BoolValue b1) ∷ [])) = no_more s.events
changed_events i s NewEvent thing ((StrValue t0) ∷ ((BoolValue b1) ∷ (Undefined ∷ vs))) = no_more s.events
changed_events i s NewEvent thing ((StrValue t0) ∷ ((BoolValue b1) ∷ (Null ∷ vs))) = no_more s.events
changed_events i s NewEvent thing ((StrValue t0) ∷ ((BoolValue b1) ∷ ((BoolValue b2) ∷ []))) = no_more s.events
changed_events i s NewEvent thing ((StrValue t0) ∷ ((BoolValue b1) ∷ ((BoolValue b2) ∷ (v3 ∷ [])))) = one_more s.events _
changed_events i s NewEvent thing ((StrValue t0) ∷ ((BoolValue b1) ∷ ((BoolValue b2) ∷ (v3 ∷ (v4 ∷ vs))))) = no_more s.events
changed_events i s NewEvent thing ((StrValue t0) ∷ ((BoolValue b1) ∷ ((NumberValue n2) ∷ vs))) = no_more s.events
changed_events i s NewEvent thing ((StrValue t0) ∷ ((BoolValue b1) ∷ ((StrValue t2) ∷ vs))) = no_more s.events
changed_events i s NewEvent thing ((StrValue t0) ∷ ((BoolValue b1) ∷ ((ThingValue t2) ∷ vs))) = no_more s.events
changed_events i s NewEvent thing ((StrValue t0) ∷ ((BoolValue b1) ∷ ((WaivedThing t2) ∷ vs))) = no_more s.events
changed_events i s NewEvent thing ((StrValue t0) ∷ ((BoolValue b1) ∷ ((Cell o2 p2 h2 w2) ∷ vs))) = no_more s.events
changed_events i s NewEvent thing ((StrValue t0) ∷ ((NumberValue n1) ∷ vs)) = no_more s.events
changed_events i s NewEvent thing ((StrValue t0) ∷ ((StrValue t1) ∷ vs)) = no_more s.events
changed_events i s NewEvent thing ((StrValue t0) ∷ ((ThingValue t1) ∷ vs)) = no_more s.events
changed_events i s NewEvent thing ((StrValue t0) ∷ ((WaivedThing t1) ∷ vs)) = no_more s.events
changed_events i s NewEvent thing ((StrValue t0) ∷ ((Cell o1 p1 h1 w1) ∷ vs)) = no_more s.events
changed_events i s NewEvent thing ((ThingValue t0) ∷ vs) = no_more s.events
changed_events i s NewEvent thing ((WaivedThing t0) ∷ vs) = no_more s.events
changed_events i s NewEvent thing ((Cell o0 p0 h0 w0) ∷ vs) = no_more s.events
changed_events i s NewCustomEvent thing vs = no_more s.events
changed_events i s EventType thing vs = no_more s.events
changed_events i s EventTarget thing vs = no_more s.events
changed_events i s EventCurrentTarget thing vs = no_more s.events
changed_events i s EventEventPhase thing vs = no_more s.events
changed_events i s EventBubbles thing vs = no_more s.events
changed_events i s EventCancelable thing vs = no_more s.events
changed_events i s EventDefaultPrevented thing vs = no_more s.events
changed_events i s EventIsTrusted thing vs = no_more s.events
changed_events i s EventDetail thing vs = no_more s.events
changed_events i s EventPreventDefault thing vs = no_more s.events
changed_events i s EventStopPropagation thing vs = no_more s.events
changed_events i s EventStopImmediatePropagation thing vs = no_more s.events
changed_events i s GmLog thing vs = no_more s.events
changed_events i s GmGetValue thing vs = no_more s.events
changed_events i s GmSetValue thing vs = no_more s.events
changed_events i s GmDeleteValue thing vs = no_more s.events
changed_events i s GmListValues thing vs = no_more s.events
changed_events i s ConsoleLog thing vs = no_more s.events

unless_events : (reason : Option ErrorKind) (s next : Stage) → length next.events ≤ length s.events + 1 → length (unless_refused reason s next).events ≤ length s.events + 1
unless_events None s next h = h
unless_events (Some reason) s next h = no_more s.events

asked_events : (refused : Bool) (s next : Stage) → length next.events ≤ length s.events + 1 → length (if refused then s else next).events ≤ length s.events + 1
asked_events true s next h = no_more s.events
asked_events false s next h = h

after_events : (s : Stage) (mark : Mark) → length (after s mark).events ≤ length s.events + 1
after_events s (Turn task) = subst (λ (es : List Event). length es ≤ length s.events + 1) (sym (still_events s task)) (no_more s.events)
after_events s (Build (Native member thing values)) = unless_events (refusal the_host s member thing values) s (changed the_host s member thing values) (changed_events the_host s member thing values)
after_events s (Build (Peek owner place key)) = no_more s.events
after_events s (Build (PeekKeys owner place)) = no_more s.events
after_events s (Build (Reach operation)) = no_more s.events
after_events s (Ask i (Native member thing values) given) = asked_events (is_refusal given) s (changed i s member thing values) (changed_events i s member thing values)
after_events s (Ask i (Peek owner place key) given) = no_more s.events
after_events s (Ask i (PeekKeys owner place) given) = no_more s.events
after_events s (Ask i (Reach operation) given) = no_more s.events
after_events s (Enter i entry) = no_more s.events
after_events s (Dispatch i event target) = no_more s.events
after_events s (Back i given) = no_more s.events
after_events s (Leave i outcome units) = no_more s.events
after_events s (Serve i owner value operation) = no_more s.events
after_events s (Served i given) = no_more s.events

from_events : (s : Stage) (marks : List Mark) → length (stage_from s marks).events ≤ length s.events + length marks
unfolding stage_from
from_events s [] = omega arith
from_events s (mark ∷ marks) = more (after s mark) (after_events s mark) (from_events (after s mark) marks)
  where
    more : (t : Stage) → length t.events ≤ length s.events + 1 → length (stage_from t marks).events ≤ length t.events + length marks → length (stage_from t marks).events ≤ length s.events + suc (length marks)
    more t h k = omega (arith, h, k)

-- no more events than marks
pub few_events : (marks : List Mark) → length (stage_of marks).events ≤ length marks
few_events marks = let h = from_events start marks in more h
  where
    more : length (stage_of marks).events ≤ 0 + length marks → length (stage_of marks).events ≤ length marks
    more h = omega (arith, h)
