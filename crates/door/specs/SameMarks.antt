-- Own: for the marks of a run, `==` tells which are the same, and a clone is the same.
use Rattle.std.specs.Bool.{Decides}
use Rattle.std.specs.Prelude.{true}
use Rattle.std.proofs.Common.{◌≡◌, sym, true≢false, rules}
use Rattle.door.specs.SameValues.{decided}
use Rattle.door.specs.SameRequests.{same_parts, copied_parts, request_same, serve_same, answer_same, request_copied, serve_copied, answer_copied}
use Rattle.door.specs.declared.marks.Task.{Task}
use Rattle.door.specs.declared.marks.Entry.{Entry}
use Rattle.door.specs.declared.marks.Entry.TheVariants.{Script, Listener, Timer, Serve as ServeEntry}
use Rattle.door.specs.declared.marks.Outcome.{Outcome}
use Rattle.door.specs.declared.marks.Mark.{Mark}
use Rattle.door.specs.declared.marks.Mark.TheVariants.{Turn, Build, Enter, Ask, Dispatch, Back, Leave, Serve, Served}
use Rattle.door.specs.contracts.marks.TaskPartialEq.TheImpl.{eq-value as task_eq}
use Rattle.door.specs.contracts.marks.EntryPartialEq.TheImpl.{eq-value as entry_eq}
use Rattle.door.specs.contracts.marks.EntryEq.TheImpl.Laws.{laws-law as entry_law}
use Rattle.door.specs.contracts.marks.EntryClone.TheImpl.{by_variants as IsEntryClone}
use Rattle.door.specs.contracts.marks.OutcomePartialEq.TheImpl.{eq-value as outcome_eq}
use Rattle.door.specs.contracts.marks.OutcomeClone.TheImpl.{by_variants as IsOutcomeClone}
use Rattle.door.specs.contracts.marks.MarkPartialEq.TheImpl.{eq-value as mark_eq}
use Rattle.door.specs.contracts.marks.MarkEq.TheImpl.Laws.{laws-law as mark_law}
use Rattle.door.specs.contracts.marks.MarkClone.TheImpl.{by_variants as IsMarkClone}

-- `==` on tasks says whether they are the same
pub task_Decides : (x y : Task) → Decides (task_eq.it x y) (x ≡ y)
task_Decides x y = search rules

-- equal tasks are the same
pub task_same : (x y : Task) → task_eq.it x y ≡ true → x ≡ y
task_same x y = (task_Decides x y).0

-- equal entries are the same
pub entry_same : (x y : Entry) → entry_eq.it x y ≡ true → x ≡ y
entry_same (Script s) (Script t) h = search same_parts
entry_same (Listener p t u) (Listener q v w) h = search same_parts
entry_same (Timer p) (Timer q) h = search same_parts
entry_same (ServeEntry a o) (ServeEntry b p) h = search (same_parts, serve_same)
entry_same x y h = absurd (true≢false (sym h))

-- `==` on entries says whether they are the same
pub entry_Decides : (x y : Entry) → Decides (entry_eq.it x y) (x ≡ y)
entry_Decides = decided entry_eq.it entry_law entry_same

-- `==` on outcomes says whether they are the same
pub outcome_Decides : (x y : Outcome) → Decides (outcome_eq.it x y) (x ≡ y)
outcome_Decides x y = search rules

-- equal outcomes are the same
pub outcome_same : (x y : Outcome) → outcome_eq.it x y ≡ true → x ≡ y
outcome_same x y = (outcome_Decides x y).0

-- equal marks are the same
pub mark_same : (x y : Mark) → mark_eq.it x y ≡ true → x ≡ y
mark_same (Turn a) (Turn b) h = search (same_parts, task_same)
mark_same (Build r) (Build s) h = search (same_parts, request_same)
mark_same (Enter i a) (Enter j b) h = search (same_parts, entry_same)
mark_same (Ask i r a) (Ask j s b) h = search (same_parts, request_same, answer_same)
mark_same (Dispatch i n t) (Dispatch j m u) h = search same_parts
mark_same (Back i a) (Back j b) h = search (same_parts, answer_same)
mark_same (Leave i o n) (Leave j p m) h = search (same_parts, outcome_same)
mark_same (Serve i j a o) (Serve k l b p) h = search (same_parts, serve_same)
mark_same (Served i a) (Served j b) h = search (same_parts, answer_same)
mark_same x y h = absurd (true≢false (sym h))

-- `==` on marks says whether they are the same
pub mark_Decides : (x y : Mark) → Decides (mark_eq.it x y) (x ≡ y)
mark_Decides = decided mark_eq.it mark_law mark_same

-- a clone of an entry is the same
pub entry_copied : (x y : Entry) → IsEntryClone x y → y ≡ x
entry_copied (Script s) (Script t) h = search copied_parts
entry_copied (Listener p t u) (Listener q v w) h = search copied_parts
entry_copied (Timer p) (Timer q) h = search copied_parts
entry_copied (ServeEntry a o) (ServeEntry b p) h = search (copied_parts, serve_copied)
entry_copied x y h = absurd h

-- a clone of an outcome is the same
pub outcome_copied : (x y : Outcome) → IsOutcomeClone x y → y ≡ x
outcome_copied x y h = search rules

-- a clone of a mark is the same
pub mark_copied : (x y : Mark) → IsMarkClone x y → y ≡ x
mark_copied (Turn a) (Turn b) h = search copied_parts
mark_copied (Build r) (Build s) h = search (copied_parts, request_copied)
mark_copied (Enter i a) (Enter j b) h = search (copied_parts, entry_copied)
mark_copied (Ask i r a) (Ask j s b) h = search (copied_parts, request_copied, answer_copied)
mark_copied (Dispatch i n t) (Dispatch j m u) h = search copied_parts
mark_copied (Back i a) (Back j b) h = search (copied_parts, answer_copied)
mark_copied (Leave i o n) (Leave j p m) h = search (copied_parts, outcome_copied)
mark_copied (Serve i j a o) (Serve k l b p) h = search (copied_parts, serve_copied)
mark_copied (Served i a) (Served j b) h = search (copied_parts, answer_copied)
mark_copied x y h = absurd h
