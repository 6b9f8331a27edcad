-- The turns of a small run, one by one.
use Rattle.std.proofs.Common.{◌≡◌, ◌∙◌, ap, sym, refl, subst, ℕ, ◌+◌, ◌<◌, Bool, true, false, List, [], ◌∷◌, ◌++◌, append_assoc, append-nil, arith, codes, length, length-append, map, nat_eq, slice_get, Option, Some, None}
use Rattle.std.proofs.lemmas.Bool.Decides.{nat_tests}
use Rattle.std.proofs.lemmas.List.{length-map}
use Rattle.std.specs.Prelude.{option_and_then}
use Rattle.door.specs.declared.limits.TheConstants.{NODE_LIMIT}
use Rattle.door.specs.declared.values.Kind.{Kind}
use Rattle.door.specs.declared.values.Thing.{Thing}
use Rattle.door.specs.declared.values.TheConstants.{PAGE}
use Rattle.door.specs.declared.requests.Request.{Request}
use Rattle.door.specs.declared.marks.Task.{Task}
use Rattle.door.specs.declared.marks.Task.TheVariants.{Start, Piece as PieceTask, Ready, Load}
use Rattle.door.specs.declared.marks.Entry.TheVariants.{Script}
use Rattle.door.specs.declared.marks.Mark.{Mark}
use Rattle.door.specs.declared.marks.Mark.TheVariants.{Turn}
use Rattle.dom_semantics.specs.Forest.{the_host}
use Rattle.dom_semantics.specs.StageOf.{Course, stage_of}
use Rattle.dom_semantics.specs.Things.{is_actor, the_document, the_window}
use Rattle.solo_model.specs.Given.{DocumentEnd, Given, origin_of}
use Rattle.solo_model.specs.Lawful.{AreBuilds, Input, IsEntry, IsPieceTurn, IsScripted, Piece, event_marks, host_event}
use Rattle.solo_model.specs.Tasks.{TASK_LIMIT, first_tasks}
use Rattle.solo_model.specs.Things.{the_page, userscript}
use Rattle.solo_model.specs.Truth.{IsGenuineAfter}
use Rattle.solo_model.specs.Turns.{Builds, Enters, Sends, Step, event_steps, piece_steps, script_steps, start_steps, starter_at, steps_of}
use Rattle.small_runs.proofs.Building.{Written, got_behind, got_past, write_steps, writes_more}
use Rattle.small_runs.proofs.Courses.{course-more}
use Rattle.small_runs.proofs.Entering.{AllFit, entry_fits, entry_more, fit_split, genuine_split, sound_entry}
use Rattle.small_runs.proofs.Events.{document_target, event_request, window_target}
use Rattle.small_runs.proofs.Going.{Between, InTurn, setting, turn_begins, turn_over}
use Rattle.small_runs.proofs.Same.{Begins}
use Rattle.small_runs.proofs.Sending.{IsEvent, event_turn, sound_sent, three_more}
use Rattle.small_runs.proofs.Sound.{IsSmallTask, Sound, sound_turn}
use Rattle.small_runs.proofs.Writes.{AreWrites, Write, kinds_after_all, request_of, short_of}
use Rattle.small_runs.specs.SmallGiven.{piece_given}

-- so many turns are made, all that was said is true, and the page's own nodes are of these kinds
pub record Stopped (given : Given) (kinds : List Kind) (marks : List Mark) (n : ℕ) : Type 0 where
  pub sound : Sound given kinds marks
  pub between : Between given marks n

-- what is given is what was said before, and there are few tasks
pub record Of (given : Given) (input : Input) : Type 0 where
  pub pieces : given.pieces ≡ map piece_given input.pieces
  pub starts : (m : ℕ) (text : List ℕ) → slice_get input.starts m ≡ Some text → starter_at given m ≡ Some (record { text = text; moment = DocumentEnd })
  pub lines : given.lines ≡ []
  pub few : length (first_tasks given) < TASK_LIMIT

pub got_map : {A B : Type 0} (f : A → B) (xs : List A) (k : ℕ) (x : A) → slice_get xs k ≡ Some x → slice_get (map f xs) k ≡ Some (f x)
got_map f [] k x e = absurd cc
got_map f (y ∷ xs) Prim.Native.Nat.zero x e = ap (λ o. option_and_then (λ z. Some (f z)) o) e
got_map f (y ∷ xs) (Prim.Native.Nat.suc k) x e = got_map f xs k x e

-- a turn begins
pub begun : (given : Given) (input : Input) (kinds : List Kind) (marks : List Mark) (n : ℕ) (task : Task) → Of given input → Stopped given kinds marks n
    → slice_get (first_tasks given) n ≡ Some task → IsSmallTask task → Rattle.small_runs.proofs.Courses.IsNoLine (Turn task)
    → Written given marks n task kinds (marks ++ Turn task ∷ []) 0
begun given input kinds marks n task of s got small no_line =
    record { sound = sound_turn given kinds marks task small s.sound; turn = turn_begins given marks n task s.between got of.few no_line }

stopped_at : (given : Given) (kinds : List Kind) (marks turn : List Mark) (n : ℕ) (task : Task) → Stopped given kinds ((marks ++ Turn task ∷ []) ++ turn) (n + 1)
    → Stopped given kinds (marks ++ Turn task ∷ turn) (n + 1)
stopped_at given kinds marks turn n task s = let P : List Mark → Type 0 = λ ms. Stopped given kinds ms (n + 1) in subst P (append_assoc marks (Turn task ∷ []) turn) s

-- ---- pieces

pub steps_long : (ws : List Write) → length (write_steps ws) ≡ length ws
steps_long ws = length-map (map request_of ws) (λ request. Rattle.solo_model.specs.Turns.Places request) ∙ length-map ws request_of

abbrev Scripts : Given → List Mark → Task → Option (List ℕ) → List Write → Type 0
Scripts given before task script ws = steps_of given (stage_of (setting given) before) task ≡ write_steps ws ++ script_steps script

-- the script of a piece runs, if it has one
scripted : (given : Given) (before : List Mark) (n : ℕ) (task : Task) (kinds : List Kind) (ws : List Write) (script : Option (List ℕ)) (marks : List Mark) (entry : List Mark)
    → Written given before n task kinds marks (0 + length ws) → Scripts given before task script ws → IsScripted script entry → AllFit given entry → IsGenuineAfter marks entry
    → Stopped given kinds (marks ++ entry) (n + 1)
scripted given before n task kinds ws None marks entry w steps is fits said =
    let P : List Mark → Type 0 = λ ms. Stopped given kinds ms (n + 1) in
    let at : length (write_steps ws ++ []) ≡ 0 + length ws = length-append (write_steps ws) [] ∙ omega (arith, steps_long ws) in
    let over : slice_get (steps_of given (stage_of (setting given) before) task) (0 + length ws) ≡ None =
    ap (λ ss. slice_get ss (0 + length ws)) steps ∙ ap (slice_get (write_steps ws ++ [])) (sym at) ∙ got_past (write_steps ws ++ []) in
    subst P (sym (ap (λ ms. marks ++ ms) is ∙ append-nil marks)) (record { sound = w.sound; between = turn_over given before n task marks (0 + length ws) w.turn over })
scripted given before n task kinds ws (Some text) marks entry w steps is fits said =
    let all : List Step = write_steps ws ++ Enters PAGE (Script text) ∷ [] in
    let here : length (write_steps ws) ≡ 0 + length ws = omega (arith, steps_long ws) in
    let at : length all ≡ (0 + length ws) + 1 = length-append (write_steps ws) (Enters PAGE (Script text) ∷ []) ∙ omega (arith, steps_long ws) in
    let got : slice_get (steps_of given (stage_of (setting given) before) task) (0 + length ws) ≡ Some (Enters PAGE (Script text)) =
    ap (λ ss. slice_get ss (0 + length ws)) steps ∙ ap (slice_get all) (sym here) ∙ got_behind (write_steps ws) (Enters PAGE (Script text)) [] in
    let over : slice_get (steps_of given (stage_of (setting given) before) task) ((0 + length ws) + 1) ≡ None =
    ap (λ ss. slice_get ss ((0 + length ws) + 1)) steps ∙ ap (slice_get all) (sym at) ∙ got_past all in
    let parts = entry_fits given the_page text entry is fits in
    let turn : InTurn given before n task (marks ++ entry) ((0 + length ws) + 1) [] = entry_more given before n task marks (0 + length ws) the_page text entry is parts.1 w.turn got in
    record {
      sound = sound_entry given kinds marks the_page text entry is refl fits said w.sound;
      between = turn_over given before n task (marks ++ entry) ((0 + length ws) + 1) turn over;
    }

pub piece_turn : (given : Given) (input : Input) (kinds : List Kind) (marks : List Mark) (n m : ℕ) (piece : Piece) (ws : List Write) (turn : List Mark) → Of given input
    → Stopped given kinds marks n → slice_get (first_tasks given) n ≡ Some (PieceTask m) → slice_get input.pieces m ≡ Some piece → piece.writes ≡ map request_of ws
    → AreWrites kinds ws → Begins kinds → length kinds + length ws < NODE_LIMIT → IsPieceTurn (marks ++ Turn (PieceTask m) ∷ []) piece turn → AllFit given turn
    → IsGenuineAfter (marks ++ Turn (PieceTask m) ∷ []) turn
    → Stopped given (kinds_after_all kinds ws) (marks ++ Turn (PieceTask m) ∷ turn) (n + 1)
piece_turn given input kinds marks n m piece ws turn of s got known writes are begins few is fits said =
    let task : Task = PieceTask m in
    let after : List Mark = marks ++ Turn task ∷ [] in
    let w : Written given marks n task kinds after 0 = begun given input kinds marks n task of s got tt tt in
    let found : slice_get given.pieces m ≡ Some (piece_given piece) = ap (λ ps. slice_get ps m) of.pieces ∙ got_map piece_given input.pieces m piece known in
    let steps : steps_of given (stage_of (setting given) marks) task ≡ write_steps ws ++ script_steps piece.script =
    ap piece_steps found ∙ ap (λ rs. map (λ request. Rattle.solo_model.specs.Turns.Places request) rs ++ script_steps piece.script) writes in
    let P : List Request → Type 0 = λ rs. AreBuilds after rs is.builds in
    let built : Written given marks n task (kinds_after_all kinds ws) (after ++ is.builds) (0 + length ws) =
    writes_more given marks n task kinds [] (script_steps piece.script) ws after 0 is.builds w steps refl are begins few (subst P writes is.built) in
    let fit = fit_split given is.builds is.entry (subst (AllFit given) is.whole fits) in
    let Q : List Mark → Type 0 = λ ms. IsGenuineAfter after ms in
    let true_parts = genuine_split after is.builds is.entry (subst Q is.whole said) in
    let done : Stopped given (kinds_after_all kinds ws) ((after ++ is.builds) ++ is.entry) (n + 1) =
    scripted given marks n task (kinds_after_all kinds ws) ws piece.script (after ++ is.builds) is.entry built steps is.scripted fit.1 true_parts.1 in
    let R : List Mark → Type 0 = λ ms. Stopped given (kinds_after_all kinds ws) ms (n + 1) in
    stopped_at given (kinds_after_all kinds ws) marks turn n task (subst R (append_assoc after is.builds is.entry ∙ ap (λ ms. after ++ ms) (sym is.whole)) done)

-- ---- starts

pub no_host : (m : ℕ) → is_actor (userscript m) the_host ≡ false
no_host m = differs m
  where
    differs : (k : ℕ) → nat_eq (k + 2) 0 ≡ false
    differs k = grind (arith, nat_tests)

pub start_turn : (given : Given) (input : Input) (kinds : List Kind) (marks : List Mark) (n m : ℕ) (text : List ℕ) (turn : List Mark) → Of given input
    → Stopped given kinds marks n → slice_get (first_tasks given) n ≡ Some (Start m) → slice_get input.starts m ≡ Some text → IsEntry (userscript m) text turn
    → AllFit given turn → IsGenuineAfter (marks ++ Turn (Start m) ∷ []) turn
    → Stopped given kinds (marks ++ Turn (Start m) ∷ turn) (n + 1)
start_turn given input kinds marks n m text turn of s got known is fits said =
    let task : Task = Start m in
    let after : List Mark = marks ++ Turn task ∷ [] in
    let w : Written given marks n task kinds after 0 = begun given input kinds marks n task of s got tt tt in
    let steps : steps_of given (stage_of (setting given) marks) task ≡ Enters (userscript m) (Script text) ∷ [] = ap (start_steps m) (of.starts m text known) in
    let parts = entry_fits given (userscript m) text turn is fits in
    let played : InTurn given marks n task (after ++ turn) 1 [] =
    entry_more given marks n task after 0 (userscript m) text turn is parts.1 w.turn (ap (λ ss. slice_get ss 0) steps) in
    stopped_at given kinds marks turn n task (record {
      sound = sound_entry given kinds after (userscript m) text turn is (no_host m) fits said w.sound;
      between = turn_over given marks n task (after ++ turn) 1 played (ap (λ ss. slice_get ss 1) steps);
    })

-- ---- events

three_marks : (marks : List Mark) (kind : List ℕ) (bubbles : Bool) (number : ℕ) (target : Thing) → three_more marks kind bubbles number target ≡ marks ++ event_marks number kind bubbles target
three_marks marks kind bubbles number target = append_assoc (marks ++ _ ∷ []) (_ ∷ []) (_ ∷ []) ∙ append_assoc marks (_ ∷ []) (_ ∷ (_ ∷ []))

event_played : (given : Given) (input : Input) (kinds : List Kind) (marks : List Mark) (n : ℕ) (task : Task) (kind : List ℕ) (bubbles : Bool) (target : Thing) (turn : List Mark)
    → IsEvent kind target → Written given marks n task kinds (marks ++ Turn task ∷ []) 0
    → steps_of given (stage_of (setting given) marks) task ≡ Builds (event_request kind bubbles) ∷ (Sends (length (stage_of (setting given) (marks ++ Turn task ∷ [])).events) target ∷ [])
    → turn ≡ host_event (marks ++ Turn task ∷ []) kind bubbles target
    → Stopped given kinds (marks ++ Turn task ∷ turn) (n + 1)
event_played given input kinds marks n task kind bubbles target turn is w steps whole =
    let after : List Mark = marks ++ Turn task ∷ [] in
    let number : ℕ = length (stage_of (setting given) after).events in
    let same : turn ≡ event_marks number kind bubbles target = whole ∙ ap (λ k. event_marks k kind bubbles target) (sym w.sound.same.events) in
    let P : List Mark → Type 0 = λ ms. Stopped given kinds ms (n + 1) in
    stopped_at given kinds marks turn n task
    (subst P (three_marks after kind bubbles number target ∙ ap (λ ms. after ++ ms) (sym same)) (record {
      sound = sound_sent given kinds after kind bubbles target w.sound is;
      between = event_turn given marks n task kinds after kind bubbles target w.turn w.sound is steps;
    }))

ready_event : IsEvent (codes "DOMContentLoaded") the_document
ready_event = record { short = short_of (codes "DOMContentLoaded") (omega arith); sendable = document_target }

load_event : IsEvent (codes "load") the_window
load_event = record { short = short_of (codes "load") (omega arith); sendable = window_target }

events_kept : (given : Given) (marks : List Mark) (kind : List ℕ) (bubbles : Bool) (target : Thing) (task : Task)
    → length (stage_of (setting given) (marks ++ Turn task ∷ [])).events ≡ length (stage_of (setting given) marks).events
    → event_steps (stage_of (setting given) marks) kind bubbles false target
    ≡ Builds (event_request kind bubbles) ∷ (Sends (length (stage_of (setting given) (marks ++ Turn task ∷ [])).events) target ∷ [])
events_kept given marks kind bubbles target task e = ap (λ k. Builds (event_request kind bubbles) ∷ (Sends k target ∷ [])) (sym e)

pub ready_turn : (given : Given) (input : Input) (kinds : List Kind) (marks : List Mark) (n : ℕ) (turn : List Mark) → Of given input → Stopped given kinds marks n
    → slice_get (first_tasks given) n ≡ Some Ready → turn ≡ host_event (marks ++ Turn Ready ∷ []) (codes "DOMContentLoaded") true the_document
    → Stopped given kinds (marks ++ Turn Ready ∷ turn) (n + 1)
ready_turn given input kinds marks n turn of s got whole =
    let kept = ap (λ (c : Course). length c.stage.events) (course-more (origin_of given) marks (Turn Ready)) in
    event_played given input kinds marks n Ready (codes "DOMContentLoaded") true the_document turn ready_event (begun given input kinds marks n Ready of s got tt tt)
    (events_kept given marks (codes "DOMContentLoaded") true the_document Ready kept) whole

pub load_turn : (given : Given) (input : Input) (kinds : List Kind) (marks : List Mark) (n : ℕ) (turn : List Mark) → Of given input → Stopped given kinds marks n
    → slice_get (first_tasks given) n ≡ Some Load → turn ≡ host_event (marks ++ Turn Load ∷ []) (codes "load") false the_window
    → Stopped given kinds (marks ++ Turn Load ∷ turn) (n + 1)
load_turn given input kinds marks n turn of s got whole =
    let kept = ap (λ (c : Course). length c.stage.events) (course-more (origin_of given) marks (Turn Load)) in
    event_played given input kinds marks n Load (codes "load") false the_window turn load_event (begun given input kinds marks n Load of s got tt tt)
    (events_kept given marks (codes "load") false the_window Load kept) whole
