-- A small run's journal stays true, and its stage the same by both definitions, mark by mark.
use Rattle.std.proofs.Common.{◌≡◌, ◌∙◌, ap, sym, refl, subst, ℕ, true, false, List, [], ◌∷◌, ◌++◌, map, Some, None}
use Rattle.door.specs.declared.values.Actor.{Actor}
use Rattle.door.specs.declared.values.Kind.{Kind}
use Rattle.door.specs.declared.values.Kind.TheVariants.{Document}
use Rattle.door.specs.declared.values.Thing.{Thing}
use Rattle.door.specs.declared.values.Value.{Value}
use Rattle.door.specs.declared.values.Value.TheVariants.{Str}
use Rattle.door.specs.declared.members.Member.{Member}
use Rattle.door.specs.declared.members.Member.TheVariants.{WindowDocument, DocumentTitle, DocumentSetTitle, GmLog, ConsoleLog}
use Rattle.door.specs.declared.requests.Answer.{Answer}
use Rattle.door.specs.declared.requests.Request.TheVariants.{Native}
use Rattle.door.specs.declared.marks.Task.{Task}
use Rattle.door.specs.declared.marks.Task.TheVariants.{Line, Start, Piece as PieceTask, Ready, Load, Timer}
use Rattle.door.specs.declared.marks.Entry.TheVariants.{Script}
use Rattle.door.specs.declared.marks.Outcome.{Outcome}
use Rattle.door.specs.declared.marks.Mark.{Mark}
use Rattle.door.specs.declared.marks.Mark.TheVariants.{Turn, Build, Enter, Ask, Leave}
use Rattle.dom_semantics.specs.Changes.{create_refusal}
use Rattle.dom_semantics.specs.Forest.{Forest, the_host}
use Rattle.dom_semantics.specs.HostCells.{mark_has_owners}
use Rattle.dom_semantics.specs.Stage.{Origin, Stage, has_node}
use Rattle.dom_semantics.specs.StageOf.{Course, after, asked, built, course_of, first_step, stage_of}
use Rattle.dom_semantics.specs.Things.{is_actor}
use Rattle.dom_semantics.specs.Truth.{IsTrueBuild, reply_of}
use Rattle.solo_model.specs.Acts.{setups_of}
use Rattle.solo_model.specs.Genuine.{AreTrueMarks, IsTrueMark}
use Rattle.solo_model.specs.Given.{Given, origin_of}
use Rattle.solo_model.specs.Stage as old
use Rattle.solo_model.specs.Truth.{answer_of}
use Rattle.solo_model.proofs.Growing.{genuine-more}
use Rattle.solo_model.proofs.Journals.{stage-more}
use Rattle.small_runs.proofs.Asks.{Answers, FitsAsk, ask_answered, ask_before, nodes_asked}
use Rattle.small_runs.proofs.Courses.{AreNoLines, IsNoLine, course-more, no_lines-append, quiet}
use Rattle.small_runs.proofs.Going.{setting}
use Rattle.small_runs.proofs.Made.{own-grown}
use Rattle.small_runs.proofs.Same.{Begins, Same, nodes_after, placed_write, root_there, rooted-grown, same_written, write_makes}
use Rattle.small_runs.proofs.Writes.{IsWrite, Write, kinds_after, request_of, true_build}

-- all that the marks say is true, and the stage is the same; the page's own nodes are of these kinds
pub record Sound (given : Given) (kinds : List Kind) (marks : List Mark) : Type 0 where
  pub same : Same kinds (old.stage_of marks) (course_of (setting given) marks)
  pub genuine : AreTrueMarks (setups_of given) (setting given) [] marks
  pub no_lines : AreNoLines marks

pub sound_first : (given : Given) → Sound given (Document ∷ []) []
unfolding AreTrueMarks Rattle.dom_semantics.specs.StageOf.course_from old.stage_from
sound_first given = record {
  same = record { nodes = refl; events = refl; silent = refl; waiting = refl; walks = refl; rooted = ([], refl); own = refl };
  genuine = tt;
  no_lines = tt;
}

-- a mark more
sound-more : (given : Given) (kinds next : List Kind) (marks : List Mark) (mark : Mark) → Sound given kinds marks → IsNoLine mark
    → IsTrueMark (setups_of given) (setting given) marks mark
    → Same next (old.after (old.stage_of marks) mark) (after (setting given) (course_of (setting given) marks).stage (course_of (setting given) marks).walks mark)
    → Sound given next (marks ++ mark ∷ [])
sound-more given kinds next marks mark s no_line is same =
    let P : old.Stage → Type 0 = λ t. Same next t (course_of (setting given) (marks ++ mark ∷ [])) in
    let Q : Course → Type 0 = λ c. Same next (old.after (old.stage_of marks) mark) c in
    record {
      same = subst P (sym (stage-more marks mark)) (subst Q (sym (course-more (origin_of given) marks mark)) same);
      genuine = genuine-more (setups_of given) (setting given) [] marks mark s.genuine is;
      no_lines = no_lines-append marks (mark ∷ []) s.no_lines (no_line, tt);
    }

-- ---- turns and entries

same_turn : (kinds : List Kind) (origin : Origin) (s : old.Stage) (c : Course) (task : Task) → IsNoLine (Turn task) → Same kinds s c
    → ((i : Actor) (n : ℕ) → task ≡ Timer i n → ⊥) → Same kinds (old.after s (Turn task)) (after (quiet origin) c.stage c.walks (Turn task))
same_turn kinds origin s c (Line k) h same no_timer = absurd h
same_turn kinds origin s c (Start n) h same no_timer = record { nodes = same.nodes; events = same.events; silent = same.silent; waiting = same.waiting; walks = same.walks; rooted = same.rooted; own = same.own }
same_turn kinds origin s c (PieceTask n) h same no_timer = record { nodes = same.nodes; events = same.events; silent = same.silent; waiting = same.waiting; walks = same.walks; rooted = same.rooted; own = same.own }
same_turn kinds origin s c Ready h same no_timer = record { nodes = same.nodes; events = same.events; silent = same.silent; waiting = same.waiting; walks = same.walks; rooted = same.rooted; own = same.own }
same_turn kinds origin s c Load h same no_timer = record { nodes = same.nodes; events = same.events; silent = same.silent; waiting = same.waiting; walks = same.walks; rooted = same.rooted; own = same.own }
same_turn kinds origin s c (Timer i n) h same no_timer = absurd (no_timer i n refl)

-- the turns of a run without scenario and timers
abbrev pub IsSmallTask : Task → Type 0
IsSmallTask (Line k) = ⊥
IsSmallTask (Timer i n) = ⊥
IsSmallTask task = Unit {0}

no_line : (task : Task) → IsSmallTask task → IsNoLine (Turn task)
no_line (Line k) h = absurd h
no_line (Timer i n) h = absurd h
no_line (Start n) h = tt
no_line (PieceTask n) h = tt
no_line Ready h = tt
no_line Load h = tt

no_timer : (task : Task) → IsSmallTask task → (i : Actor) (n : ℕ) → task ≡ Timer i n → ⊥
no_timer task h i n e = subst IsSmallTask e h

pub sound_turn : (given : Given) (kinds : List Kind) (marks : List Mark) (task : Task) → IsSmallTask task → Sound given kinds marks → Sound given kinds (marks ++ Turn task ∷ [])
sound_turn given kinds marks task small s =
    sound-more given kinds kinds marks (Turn task) s (no_line task small) (tt, refl)
    (same_turn kinds (origin_of given) (old.stage_of marks) (course_of (setting given) marks) task (no_line task small) s.same (no_timer task small))

pub sound_enter : (given : Given) (kinds : List Kind) (marks : List Mark) (i : Actor) (text : List ℕ) → Sound given kinds marks → Sound given kinds (marks ++ Enter i (Script text) ∷ [])
sound_enter given kinds marks i text s = sound-more given kinds kinds marks (Enter i (Script text)) s tt (tt, refl) s.same

pub sound_leave : (given : Given) (kinds : List Kind) (marks : List Mark) (i : Actor) (outcome : Outcome) (units : ℕ) → Sound given kinds marks → Sound given kinds (marks ++ Leave i outcome units ∷ [])
sound_leave given kinds marks i outcome units s = sound-more given kinds kinds marks (Leave i outcome units) s tt (tt, refl) s.same

-- ---- what is written

write_owners : (f : Forest) (w : Write) → mark_has_owners (Build (placed_write f w)) ≡ true
write_owners f (Rattle.small_runs.proofs.Writes.Creates tag) = refl
write_owners f (Rattle.small_runs.proofs.Writes.Texts text) = refl
write_owners f (Rattle.small_runs.proofs.Writes.Identifies n id) = refl
write_owners f (Rattle.small_runs.proofs.Writes.Appends kind n child m) = refl

pub sound_write : (given : Given) (kinds : List Kind) (marks : List Mark) (w : Write) → Sound given kinds marks → Begins kinds
    → create_refusal (stage_of (setting given) marks).nodes the_host ≡ None → IsWrite kinds w
    → Sound given (kinds_after kinds w) (marks ++ Build (placed_write (stage_of (setting given) marks).nodes w) ∷ [])
sound_write given kinds marks w s begins free is =
    let stage : Stage = stage_of (setting given) marks in
    let build : IsTrueBuild (origin_of given) stage (placed_write stage.nodes w) =
    true_build (origin_of given) stage (placed_write stage.nodes w) (nodes_after stage.nodes w) (write_makes kinds (origin_of given) stage w s.same.own begins free is) in
    sound-more given kinds (kinds_after kinds w) marks (Build (placed_write stage.nodes w)) s tt (build, write_owners stage.nodes w)
    (same_written kinds (origin_of given) (old.stage_of marks) (course_of (setting given) marks) w s.same begins free is)

-- ---- what is asked

-- an answer of small scripts carries no cell
abbrev IsCellless : Answer → Type 0
IsCellless answer = Rattle.dom_semantics.specs.HostCells.answer_has_owners answer ≡ true

ask_owners : (origin : Origin) (i : Actor) (member : Member) (thing : Thing) (arguments : List Value) (answer : Answer) → FitsAsk origin i member arguments → IsCellless answer
    → mark_has_owners (Ask i (Native member thing arguments) answer) ≡ true
ask_owners origin i WindowDocument thing [] answer fits h = h
ask_owners origin i DocumentTitle thing [] answer fits h = h
ask_owners origin i DocumentSetTitle thing (Str text ∷ []) answer fits h = h
ask_owners origin i GmLog thing (Str text ∷ []) answer fits h = h
ask_owners origin i ConsoleLog thing (Str text ∷ []) answer fits h = h
ask_owners origin i member thing arguments answer fits h = absurd fits

ask_true : (given : Given) (marks : List Mark) (i : Actor) (member : Member) (thing : Thing) (arguments : List Value) (answer : Answer) → FitsAsk (origin_of given) i member arguments
    → Rattle.dom_semantics.specs.Reply.IsAnswered (reply_of (origin_of given) (stage_of (setting given) marks) i member thing arguments) answer → IsCellless answer
    → IsTrueMark (setups_of given) (setting given) marks (Ask i (Native member thing arguments) answer)
ask_true given marks i member thing arguments answer fits answered none =
    (record { possible = answered; answered = tt; names = names member arguments fits; tells = refl }, ask_owners (origin_of given) i member thing arguments answer fits none)
  where
    names : (m : Member) (vs : List Value) → FitsAsk (origin_of given) i m vs
        → Rattle.solo_model.specs.MarkValues.may_name_all (Rattle.solo_model.specs.Acts.zones_of (setups_of given)) marks i (Rattle.solo_model.specs.MarkValues.objects_in vs) ≡ true
    names WindowDocument [] h = refl
    names DocumentTitle [] h = refl
    names DocumentSetTitle (Str text ∷ []) h = refl
    names GmLog (Str text ∷ []) h = refl
    names ConsoleLog (Str text ∷ []) h = refl
    names m vs h = absurd h

pub sound_ask : (given : Given) (kinds : List Kind) (marks : List Mark) (i : Actor) (member : Member) (thing : Thing) (arguments : List Value) (answer : Answer) → Sound given kinds marks
    → is_actor i the_host ≡ false → FitsAsk (origin_of given) i member arguments → answer_of (old.stage_of marks) i member thing arguments ≡ Some answer → IsCellless answer
    → Sound given kinds (marks ++ Ask i (Native member thing arguments) answer ∷ [])
sound_ask given kinds marks i member thing arguments answer s other fits e none =
    let c : Course = course_of (setting given) marks in
    let f : Forest = c.stage.nodes in
    let g : Forest = nodes_asked f i member arguments in
    let before : old.Stage = old.stage_of marks in
    let told : Answers c.stage (reply_of (origin_of given) c.stage i member thing arguments) answer g i =
    ask_answered (origin_of given) c.stage before i member thing arguments answer s.same.nodes (root_there f s.same.rooted) fits e in
    let P : Stage → Type 0 = λ t. Same kinds (old.asked i before (Native member thing arguments) answer) (record { stage = t; walks = c.walks }) in
    let Q : old.Stage → Type 0 = λ t. Same kinds t (record { stage = Rattle.dom_semantics.specs.Stage.with_nodes c.stage g; walks = c.walks }) in
    sound-more given kinds kinds marks (Ask i (Native member thing arguments) answer) s tt (ask_true given marks i member thing arguments answer fits told.answered none)
    (subst P (sym told.next) (subst Q (sym (ask_before (origin_of given) before i member thing arguments answer fits e)) (record {
      nodes = ap (λ h. nodes_asked h i member arguments) s.same.nodes;
      events = s.same.events;
      silent = s.same.silent;
      waiting = s.same.waiting;
      walks = s.same.walks;
      rooted = rooted-grown f g (map (λ kind. (i, kind)) told.grows.0) told.grows.1 s.same.rooted;
      own = own-grown i f g other told.grows ∙ s.same.own;
    })))
