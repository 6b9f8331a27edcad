-- What is true of hand-made journals and what isn't, computed by the definitions alone. The expected values are those of the standards, of MDN's
-- pages on Xrays and sandboxes, and of the order of marks.
use Rattle.std.specs.Prelude.{◌≡◌, ℕ, Bool, true, false, List, [], ◌∷◌, ◌++◌, codes, option_map, replicate, take, Option, Some, None, pos}
use Rattle.std.specs.List.{flat_map}
use Rattle.door.specs.declared.values.Actor.{Actor}
use Rattle.door.specs.declared.values.Kind.TheVariants.{Element}
use Rattle.door.specs.declared.values.Shape.TheVariants as shape
use Rattle.door.specs.declared.values.Value.{Value}
use Rattle.door.specs.declared.values.Value.TheVariants as value
use Rattle.door.specs.declared.members.Member.TheVariants as m
use Rattle.door.specs.declared.requests.Request.{Request}
use Rattle.door.specs.declared.requests.Request.TheVariants.{Native, Peek, PeekKeys, Reach}
use Rattle.door.specs.declared.requests.ReachOp.{ReachOp}
use Rattle.door.specs.declared.requests.ReachOp.TheVariants as reach
use Rattle.door.specs.declared.requests.ServeOp.TheVariants as serve
use Rattle.door.specs.declared.requests.Answer.{Answer}
use Rattle.door.specs.declared.requests.Answer.TheVariants as answer
use Rattle.door.specs.declared.requests.ErrorKind.{ErrorKind}
use Rattle.door.specs.declared.requests.ErrorKind.TheVariants as error
use Rattle.door.specs.declared.marks.Task.TheVariants as task
use Rattle.door.specs.declared.marks.Entry.TheVariants as entry
use Rattle.door.specs.declared.marks.Outcome.TheVariants.{Done, Stop, Syntax}
use Rattle.door.specs.declared.marks.StopKind.TheVariants.{Fuel}
use Rattle.door.specs.declared.marks.Mark.{Mark}
use Rattle.door.specs.declared.marks.Mark.TheVariants as mark
use Rattle.dom_semantics.specs.Forest.{the_host}
use Rattle.dom_semantics.specs.Grants.{no_grants}
use Rattle.dom_semantics.specs.Things.{thing_of, the_window, the_document}
use Rattle.dom_semantics.specs.Stage.{Stage, Setting}
use Rattle.dom_semantics.specs.StageOf.{stage_of}
use Rattle.dom_semantics.specs.Reply.{Reply}
use Rattle.dom_semantics.specs.TargetReplies.{dispatch_refusal}
use Rattle.dom_semantics.specs.Truth.{reply_to}
use Rattle.solo_model.specs.Given.{Given, DocumentEnd, setting_of, zone_of}
use Rattle.solo_model.specs.NextMark.{Next, Exactly, ByActor, ByReturn, Nothing, Allows, IsBy, IsReturn, MayEnd, next_of}
use Rattle.solo_model.specs.Openings.{has_opened}
use Rattle.solo_model.specs.Acts.{Setups, setups_of}
use Rattle.solo_model.specs.MarkValues.{may_name_all}
use Rattle.solo_model.specs.Genuine.{IsTrueAfter, IsTrueMark, has_xray}
use Rattle.solo_model.specs.WaysOut.{IsWayOut}
use Rattle.solo_model.specs.RunFacts.{actor, element, event, appends, back, script_at, title_page, title_journal}

-- ---- the journal of a userscript that logs the title

abbrev before : ℕ → List Mark
before n = take n title_journal

abbrev setting : Setting
setting = setting_of title_page title_journal

abbrev stage_at : ℕ → Stage
stage_at n = stage_of setting (before n)

-- what a request truly is answered after so many marks
abbrev answered : ℕ → ℕ → Request → Option Answer
answered n i request = option_map (λ (reply : Reply). reply.answer) (reply_to setting.origin (stage_at n) (actor i) request)

abbrev IsTrue : ℕ → Mark → Type 0
IsTrue n mark = IsTrueAfter (setups_of title_page) setting (before n) mark

abbrev MayCome : ℕ → Mark → Type 0
MayCome n mark = Allows title_page (before n) (next_of title_page setting (before n)) mark

-- ---- marks

abbrev tells : Value → Answer
tells v = answer.Value v

abbrev tells_text : List ℕ → Answer
tells_text text = tells (value.Str text)

abbrev title : Request
title = Native m.DocumentTitle the_document []

abbrev logs : Request
logs = Native m.GmLog the_window (value.Str (codes "x") ∷ [])

abbrev dispatches : Request
dispatches = Native m.EventTargetDispatchEvent the_window (value.Thing (event 0) ∷ [])

-- the page makes an event that is cancelable, and prevents it
abbrev makes_event : ℕ → Mark
makes_event n =
    mark.Ask (actor 1) (Native m.NewEvent the_window (value.Str (codes "x") ∷ value.Bool false ∷ value.Bool true ∷ value.Null ∷ []))
    (tells (value.Thing (event n)))

abbrev prevents : Mark
prevents = mark.Ask (actor 1) (Native m.EventPreventDefault (event 0) []) (tells value.Undefined)

abbrev starts : Mark
starts = mark.Enter (actor 1) (entry.Script (codes "page"))

abbrev sends : ℕ → Mark
sends n = mark.Dispatch (actor 1) n the_window

abbrev comes_back : Bool → Mark
comes_back flag = mark.Back (actor 1) (tells (value.Bool flag))

-- what comes after these marks, and why the page doesn't dispatch an event then
abbrev next_after : List Mark → Mark → Type 0
next_after marks due = next_of title_page (setting_of title_page marks) marks ≡ Exactly due

abbrev refused : List Mark → Actor → ℕ → Option ErrorKind
refused marks i n = dispatch_refusal (stage_of (setting_of title_page marks) marks) i n

-- the page dispatches one event so many times
abbrev many : ℕ → List Mark
many n = starts ∷ makes_event 0 ∷ flat_map (λ (marks : List Mark). marks) (replicate n (sends 0 ∷ comes_back true ∷ []))

-- and four events, each while the one before goes on
abbrev deep : List Mark
deep = starts ∷ makes_event 0 ∷ makes_event 1 ∷ makes_event 2 ∷ makes_event 3 ∷ makes_event 4 ∷ sends 0 ∷ sends 1 ∷ sends 2 ∷ sends 3 ∷ []

-- ---- scripts in company

-- the third has unsafeWindow, and the last runs among the page's own
abbrev company : Given
company = record title_page {
  scripts = script_at (codes "S") DocumentEnd
      ∷ record (script_at (codes "T") DocumentEnd) { grants = record no_grants { unsafe_window = true } }
      ∷ record (script_at (codes "U") DocumentEnd) { grants = record no_grants { no_grant = true } } ∷ [];
}

abbrev pub setups : Setups
setups = setups_of company

abbrev sees : ℕ → ℕ → Bool
sees i owner = has_xray setups (actor i) (actor owner)

-- an object of an actor
abbrev own : ℕ → Value
own i = value.Cell (actor i) 301 shape.Plain false

abbrev function_of : ℕ → Value
function_of i = value.Cell (actor i) 302 shape.Function false

abbrev list_of : ℕ → Value
list_of i = value.Cell (actor i) 303 shape.Array false

abbrev of_page : ℕ → Value
of_page place = value.Cell (actor 1) place shape.Plain true

abbrev window : Value
window = value.Thing the_window

-- an actor makes an event that carries that one's object, and a userscript one that carries its own
abbrev carries : ℕ → ℕ → Mark
carries i owner =
    mark.Ask (actor i) (Native m.NewCustomEvent the_window (value.Str (codes "d") ∷ value.Bool false ∷ value.Bool false ∷ own owner ∷ []))
    (tells (value.Thing (event 0)))

abbrev gives : ℕ → Mark
gives i = carries i i

abbrev looks : ℕ → ℕ → Answer → Mark
looks i owner a = mark.Ask (actor i) (Peek (actor owner) 301 (codes "k")) a

-- the page's timer calls Array, which makes an empty list as the page's first object; and looks at its length
abbrev pub made_list : List Mark
made_list = mark.Enter (actor 1) (entry.Timer 13) ∷ mark.Leave (actor 1) Done 0 ∷ []

abbrev looks_at_length : Answer → Mark
looks_at_length a = mark.Ask (actor 2) (Peek (actor 1) 300 (codes "length")) a

abbrev no_items : Answer
no_items = tells (value.Number (pos 0))

abbrev IsTrueIn : List Mark → Mark → Type 0
IsTrueIn marks mark = IsTrueAfter setups (setting_of company []) marks mark

-- the same, with no cell of the host
abbrev IsWhole : Mark → Type 0
IsWhole mark = IsTrueMark setups (setting_of company []) [] mark

-- the actor may name the object of that script
abbrev names : List Mark → ℕ → ℕ → Bool
names marks i owner = may_name_all (zone_of company) marks (actor i) (record { owner = actor owner; place = 301 } ∷ [])

abbrev serves : ℕ → ℕ → Value → Mark
serves i owner v = mark.Serve (actor i) (actor owner) v (serve.Get (codes "k"))

abbrev sets : ℕ → ℕ → Value → Mark
sets i owner v = mark.Serve (actor i) (actor owner) (own owner) (serve.Set (codes "k") v)

abbrev reaches : ℕ → ReachOp → Answer → Mark
reaches i operation a = mark.Ask (actor i) (Reach operation) a

-- a way out that was stopped has opened the page
abbrev opened_page : List Mark
opened_page = reaches 2 (reach.Waive window) answer.Stopped ∷ []

abbrev is_open : List Mark → ℕ → Bool
is_open marks i = has_opened (zone_of company) (actor i) marks

abbrev refuses : List ℕ → Answer
refuses text = answer.Throw (error.Crossing text)

abbrev clones : Value → Bool → Bool → ReachOp
clones source functions reflectors = reach.Clone source window value.Undefined functions reflectors

abbrev exports : Value → Value → ReachOp
exports callee scope = reach.Export callee scope value.Undefined

-- a call of a function of the page is served
abbrev called : List Mark
called =
    mark.Enter (actor 2) (entry.Script (codes "S")) ∷ mark.Serve (actor 2) (actor 1) (function_of 1) (serve.Call value.Undefined [])
    ∷ mark.Enter (actor 1) (entry.Serve (function_of 1) (serve.Call value.Undefined [])) ∷ mark.Leave (actor 1) Done 3
    ∷ mark.Served (actor 2) (tells value.Undefined) ∷ []

abbrev after_called : ℕ → Next
after_called n = next_of company (setting_of company []) (take n called)

-- the script may have the other serve
abbrev MayServe : List Mark → ℕ → ℕ → Type 0
MayServe marks i owner = IsBy company marks (actor i) (entry.Timer 300) (serves i owner (own owner))

-- which mark may come
pub record OrderFacts : Type 0 where
  -- the script that runs does what is next; neither the page nor the host, and a request brings no entry
  pub by_script : next_of title_page setting (before 17) ≡ ByActor (actor 2) (entry.Script (codes "S"))
  pub not_by_page : MayCome 17 (mark.Ask (actor 1) title (tells_text (codes "Hi"))) → ⊥
  pub not_by_host : MayCome 17 (mark.Turn task.Load) → ⊥
  pub no_entry : MayCome 18 (mark.Enter (actor 1) (entry.Timer 300)) → ⊥
  -- where nobody listens the dispatch comes back: true, and false where the event is prevented
  pub comes_back_true : next_of title_page setting (before 14) ≡ Exactly back
  pub not_false : MayCome 14 (mark.Back (actor 0) (tells (value.Bool false))) → ⊥
  pub prevented : next_after (starts ∷ makes_event 0 ∷ prevents ∷ sends 0 ∷ []) (comes_back false)
  -- nothing comes behind the end
  pub ended : next_of title_page setting title_journal ≡ Nothing
  pub nothing_more : MayCome 25 (mark.Turn task.Load) → ⊥
  -- only the text of a page's script has faults of syntax
  pub syntax : MayEnd (actor 1) (entry.Script (codes "(")) (Syntax 1 (codes "Unexpected"))
  pub no_syntax : MayEnd (actor 1) (entry.Timer 300) (Syntax 0 (codes "Unexpected")) → ⊥
  pub no_syntax_of_script : MayEnd (actor 2) (entry.Script (codes "(")) (Syntax 1 (codes "Unexpected")) → ⊥
  -- a service is an entry of the owner, and waits for what it is answered, which is stopped just where its entry was, and thrown just where it threw
  pub entry_of_owner : after_called 2 ≡ Exactly (mark.Enter (actor 1) (entry.Serve (function_of 1) (serve.Call value.Undefined [])))
  pub served_next : after_called 4 ≡ ByReturn (actor 2) Done
  pub caller_next : after_called 5 ≡ ByActor (actor 2) (entry.Script (codes "S"))
  pub told : IsReturn (actor 2) Done (mark.Served (actor 2) (tells value.Undefined))
  pub told_stopped : IsReturn (actor 2) (Stop Fuel) (mark.Served (actor 2) answer.Stopped)
  pub not_stopped : IsReturn (actor 2) Done (mark.Served (actor 2) answer.Stopped) → ⊥
  pub not_told : IsReturn (actor 2) (Stop Fuel) (mark.Served (actor 2) (tells value.Undefined)) → ⊥
  pub not_thrown : IsReturn (actor 2) Done (mark.Served (actor 2) (answer.Thrown value.Undefined)) → ⊥
  pub not_for_owner : IsReturn (actor 2) Done (mark.Served (actor 1) (tells value.Undefined)) → ⊥
  -- neither side of a service is closed, and nobody asks for one in another's name
  pub both_open : MayServe opened_page 2 1
  pub both_closed : MayServe [] 2 1 → ⊥
  pub owner_closed : MayServe opened_page 2 3 → ⊥
  pub asker_closed : MayServe opened_page 3 1 → ⊥
  pub by_another : IsBy company opened_page (actor 1) (entry.Timer 300) (serves 2 1 (of_page 5)) → ⊥
  -- 64 dispatches of an actor in a turn, and four unfinished; the host has no limit, and a turn begins anew
  pub sixty_fourth : refused (many 63) (actor 1) 0 ≡ None
  pub sixty_fifth : refused (many 64) (actor 1) 0 ≡ Some error.InvalidState
  pub of_others : refused (many 64) (actor 2) 0 ≡ None
  pub next_turn : refused (many 64 ++ mark.Turn task.Load ∷ []) (actor 1) 0 ≡ None
  pub fifth_inside : refused deep (actor 1) 4 ≡ Some error.InvalidState
  pub host_inside : refused deep the_host 4 ≡ None

-- what a mark may say
pub record GenuineFacts : Type 0 where
  -- the title as it stands then, and no other
  pub title_told : answered 18 2 title ≡ Some (tells_text (codes "Hi"))
  pub no_title_yet : answered 5 2 title ≡ Some (tells_text [])
  pub wrong_title : IsTrue 18 (mark.Ask (actor 2) title (tells_text (codes "Ho"))) → ⊥
  pub wrong_refusal : IsTrue 18 (mark.Ask (actor 2) title (answer.Throw error.NotFound)) → ⊥
  -- a function that wasn't granted, and one of userscripts asked by the page, have no true answer
  pub not_granted : answered 18 2 (Native m.GmGetValue the_window (value.Str (codes "k") ∷ [])) ≡ None
  pub not_for_page : answered 18 1 logs ≡ None
  -- a dispatch is a request where it is refused, and else a mark of its own
  pub free : answered 18 2 dispatches ≡ None
  pub busy : answered 14 2 dispatches ≡ Some (answer.Throw error.InvalidState)
  pub dispatch : IsTrue 18 (mark.Dispatch (actor 2) 0 the_window)
  pub no_such_event : IsTrue 18 (mark.Dispatch (actor 2) 7 the_window) → ⊥
  pub not_while_busy : IsTrue 14 (mark.Dispatch (actor 2) 0 the_window) → ⊥
  -- the host builds by requests that have a reply: the fourth node is a text
  pub no_build : IsTrue 8 (mark.Build (appends (element 3) (thing_of Element 4))) → ⊥
  -- a userscript looks at the page's objects with Xrays; scripts don't see each other, nor does the page see them
  pub xrays : sees 2 1 ∷ sees 2 3 ∷ sees 1 2 ∷ sees 4 1 ∷ sees 2 2 ∷ [] ≡ true ∷ false ∷ false ∷ false ∷ false ∷ []
  pub look : IsTrueIn [] (looks 2 1 answer.Absent)
  pub no_such_value : IsTrueIn [] (looks 2 1 (tells value.Null)) → ⊥
  pub not_denied : IsTrueIn [] (looks 2 1 answer.Denied) → ⊥
  -- it tells what the page has then: nothing before the page has made it, and after that the list
  pub nothing_yet : IsTrueIn [] (looks_at_length answer.Absent)
  pub not_yet : IsTrueIn [] (looks_at_length no_items) → ⊥
  pub made_by_then : IsTrueIn made_list (looks_at_length no_items)
  pub not_absent : IsTrueIn made_list (looks_at_length answer.Absent) → ⊥
  pub no_keys : IsTrueIn [] (mark.Ask (actor 2) (PeekKeys (actor 1) 300) (answer.Keys []))
  pub denied : IsTrueIn (gives 3 ∷ []) (looks 2 3 answer.Denied)
  pub not_shown : IsTrueIn (gives 3 ∷ []) (looks 2 3 answer.Absent) → ⊥
  -- a look fits the table: it tells no cell of the host, and is none at the host or at the asker itself
  pub no_cell_of_the_host : IsTrueIn [] (looks 2 1 (tells (value.Cell the_host 9 shape.Plain false))) → ⊥
  pub no_look_at_the_host : IsTrueIn [] (mark.Ask (actor 2) (PeekKeys the_host 1) answer.Denied) → ⊥
  pub no_look_at_itself : IsTrueIn [] (looks 2 2 answer.Denied) → ⊥
  -- what a look tells is held by the owner: an open page shows no object that a closed script kept, and one that was given away
  pub kept_from_page : IsTrueIn opened_page (looks 3 1 (tells (own 3))) → ⊥
  pub given_to_page : IsTrueIn (gives 3 ∷ opened_page) (looks 3 1 (tells (own 3)))
  -- no mark names a cell of the host: neither what is built nor what is served
  pub no_cell_built : IsWhole (mark.Build (Native m.WindowSetTimeout the_window (value.Cell the_host 5 shape.Function false ∷ value.Undefined ∷ []))) → ⊥
  pub no_cell_entered : IsWhole (mark.Enter (actor 2) (entry.Serve (value.Cell the_host 5 shape.Function false) (serve.New []))) → ⊥
  pub owned : IsWhole (mark.Enter (actor 2) (entry.Serve (function_of 2) (serve.New [])))
  -- an object of another closed script is named where its owner gave it away; of the page's this isn't asked
  pub not_given : names (carries 1 3 ∷ []) 2 3 ≡ false
  pub named : names [] 2 3 ∷ names (gives 3 ∷ []) 2 3 ∷ names (gives 2 ∷ []) 2 3 ∷ names [] 2 1 ∷ names [] 3 3 ∷ names opened_page 3 2 ∷ []
      ≡ false ∷ true ∷ false ∷ true ∷ true ∷ true ∷ []
  -- a service is asked of another actor, on what is that one's
  pub served : IsTrueIn [] (serves 2 1 (of_page 5))
  pub not_on_itself : IsTrueIn [] (serves 2 2 (own 2)) → ⊥
  pub not_of_it : IsTrueIn [] (serves 2 1 (own 2)) → ⊥
  pub not_named : IsTrueIn opened_page (sets 2 1 (own 3)) → ⊥
  pub named_then : IsTrueIn (gives 3 ∷ opened_page) (sets 2 1 (own 3))
  -- what is served is no refusal of a request, is there, and isn't what a closed script has kept
  pub told : IsTrueIn opened_page (mark.Served (actor 2) (tells (of_page 5)))
  pub not_absent_there : IsTrueIn opened_page (mark.Served (actor 2) answer.Absent) → ⊥
  pub not_there : IsTrueIn opened_page (mark.Served (actor 2) (tells (value.Thing (element 9)))) → ⊥
  pub not_told : IsTrueIn opened_page (mark.Served (actor 2) (tells (own 3))) → ⊥
  -- what is exported may be defined on the window, and nothing else is asked of the page's window without its waiver
  pub defined : IsTrueIn [] (mark.Serve (actor 2) (actor 1) window (serve.Define (codes "ask") (of_page 400)))
  pub not_on_window : IsTrueIn [] (serves 2 1 window) → ⊥

-- how ways out are answered, and what they open
pub record WaysOutFacts : Type 0 where
  -- unsafeWindow is the waived window, where it was granted, and only with Xrays
  pub unsafe_window : IsTrueIn [] (reaches 3 reach.UnsafeWindow (tells (value.WaivedThing the_window)))
  pub not_granted : IsTrueIn [] (reaches 2 reach.UnsafeWindow (tells (value.WaivedThing the_window))) → ⊥
  pub not_waived : IsTrueIn [] (reaches 3 reach.UnsafeWindow (tells window)) → ⊥
  pub not_for_page : IsTrueIn [] (reaches 1 (reach.Waive window) (tells (value.WaivedThing the_window))) → ⊥
  pub not_of_own : IsTrueIn [] (reaches 2 (reach.Waive (own 2)) (tells (own 2))) → ⊥
  pub xray_again : IsWayOut (actor 2) (reach.Unwaive (value.WaivedThing the_window)) (tells window)
  -- exportFunction: no function, one of the page, no scope, and a new function of the page
  pub not_callable_first : IsWayOut (actor 2) (exports value.Null window) (refuses (codes "NotCallable"))
  pub not_callable : IsWayOut (actor 2) (exports (own 2) value.Null) (refuses (codes "NotCallable"))
  pub not_own : IsWayOut (actor 2) (exports (value.Cell (actor 1) 9 shape.Function true) value.Null) (refuses (codes "NotOwn"))
  pub no_scope : IsWayOut (actor 2) (exports (function_of 2) value.Null) (refuses (codes "ScopeDenied"))
  pub exported : IsWayOut (actor 2) (exports (function_of 2) (of_page 5)) (tells (value.Cell (actor 1) 400 shape.Function true))
  pub exported_to_thing : IsWayOut (actor 2) (exports (function_of 2) (value.WaivedThing the_document)) (tells (value.Cell (actor 1) 400 shape.Function true))
  pub kept_in : IsWayOut (actor 2) (exports (function_of 2) window) (tells (function_of 2)) → ⊥
  -- createObjectIn
  pub created : IsWayOut (actor 2) (reach.CreateIn window value.Undefined) (tells (of_page 400))
  -- cloneInto by its source: a primitive; a function; a thing; what isn't its own; an object, copied or refused for what is inside
  pub primitive : IsWayOut (actor 2) (clones (value.Number (pos 5)) false false) (tells (value.Number (pos 5)))
  pub function : IsWayOut (actor 2) (clones (function_of 2) false false) (refuses (codes "IsFunction at "))
  pub function_cloned : IsWayOut (actor 2) (clones (function_of 2) true false) (tells (value.Cell (actor 1) 400 shape.Function true))
  pub function_refused : IsWayOut (actor 2) (clones (function_of 2) false false) (tells (value.Cell (actor 1) 400 shape.Function true)) → ⊥
  pub thing : IsWayOut (actor 2) (clones window false false) (refuses (codes "IsThing at "))
  pub thing_wrapped : IsWayOut (actor 2) (clones window false true) (tells (value.WaivedThing the_window))
  pub waived_thing : IsWayOut (actor 2) (clones (value.WaivedThing the_window) true true) (refuses (codes "IsForeign at "))
  pub own_error : IsWayOut (actor 2) (clones (value.Cell (actor 2) 304 shape.Error false) true true) (refuses (codes "IsForeign at "))
  pub foreign : IsWayOut (actor 2) (clones (of_page 5) true true) (refuses (codes "IsForeign at "))
  pub copied : IsWayOut (actor 2) (clones (own 2) false false) (tells (of_page 400))
  pub inside : IsWayOut (actor 2) (clones (own 2) false false) (refuses (codes "IsFunction at .a[1]"))
  -- an array is left by a place and an object by a key; what the options allow isn't refused, and no other text is a refusal; a path is cut
  pub in_array : IsWayOut (actor 2) (clones (list_of 2) false false) (refuses (codes "IsThing at [12].w"))
  pub no_key_in_array : IsWayOut (actor 2) (clones (list_of 2) false false) (refuses (codes "IsThing at .w")) → ⊥
  pub no_place_in_plain : IsWayOut (actor 2) (clones (own 2) false false) (refuses (codes "IsThing at [1]")) → ⊥
  pub functions_allowed : IsWayOut (actor 2) (clones (own 2) true false) (refuses (codes "IsFunction at .f")) → ⊥
  pub no_such_fault : IsWayOut (actor 2) (clones (own 2) false false) (refuses (codes "NotCallable at .f")) → ⊥
  pub no_path : IsWayOut (actor 2) (clones (own 2) false false) (refuses (codes "IsThing")) → ⊥
  pub cut_path : IsWayOut (actor 2) (clones (own 2) false false) (refuses (codes "IsThing at ." ++ replicate 199 97))
  pub things_allowed : IsWayOut (actor 2) (clones (own 2) false true) (refuses (codes "IsThing at .w")) → ⊥
  -- a scope comes first, and one that isn't denied is no reason
  pub scope_first : IsWayOut (actor 2) (reach.Clone (function_of 2) value.Null value.Undefined false false) (refuses (codes "ScopeDenied"))
  pub scope_given : IsWayOut (actor 2) (clones (own 2) false false) (refuses (codes "ScopeDenied")) → ⊥
  pub not_created : IsWayOut (actor 2) (reach.CreateIn value.Null value.Undefined) (refuses (codes "ScopeDenied"))
  -- an object of the page is waived, and the waiver of a primitive or an own object is itself; stopped ones tell nothing
  pub waives_cell : IsTrueIn [] (reaches 2 (reach.Waive (value.Cell (actor 1) 5 shape.Plain false)) (tells (of_page 5)))
  pub not_twice : IsTrueIn [] (reaches 2 (reach.Waive (of_page 5)) (tells (of_page 5))) → ⊥
  pub own_again : IsWayOut (actor 2) (reach.Unwaive (own 2)) (tells (own 2))
  pub text_again : IsWayOut (actor 2) (reach.Unwaive (value.Str (codes "t"))) (tells (value.Str (codes "t")))
  pub stopped : IsTrueIn [] (reaches 2 (clones (own 2) false false) answer.Stopped)
  pub not_plain : IsWayOut (actor 2) (clones (own 2) false false) (tells (own 2)) → ⊥
  -- a way out opens the page and its script, and so does the entry of a script that runs among the page's own
  pub opened : is_open (reaches 2 (reach.Waive window) answer.Stopped ∷ []) 1 ∷ is_open (reaches 2 (reach.Waive window) answer.Stopped ∷ []) 2
      ∷ is_open (reaches 2 (reach.Waive window) answer.Stopped ∷ []) 3 ∷ [] ≡ true ∷ true ∷ false ∷ []
  pub by_page : is_open (reaches 1 (reach.Waive window) answer.Stopped ∷ []) 1 ≡ false
  pub where_refused : is_open (reaches 2 (clones (own 2) false false) (refuses (codes "ScopeDenied")) ∷ []) 1 ≡ true
  pub entered : is_open (mark.Enter (actor 4) (entry.Timer 300) ∷ []) 1 ∷ is_open (mark.Enter (actor 4) (entry.Timer 300) ∷ []) 4
      ∷ is_open (mark.Enter (actor 3) (entry.Timer 300) ∷ []) 1 ∷ [] ≡ true ∷ true ∷ false ∷ []
