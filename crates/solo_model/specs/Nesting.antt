-- What is unfinished in a journal, and where its turns stand; this project's own.
use Rattle.std.specs.Prelude.{◌+◌, ℕ, List, [], ◌∷◌, drop, Option, Some, None}
use Prim.Native.Nat.{suc}
use Rattle.door.specs.declared.values.Actor.{Actor}
use Rattle.door.specs.declared.values.Value.{Value}
use Rattle.door.specs.declared.requests.ServeOp.{ServeOp}
use Rattle.door.specs.declared.marks.Task.{Task}
use Rattle.door.specs.declared.marks.Task.TheVariants.{Line}
use Rattle.door.specs.declared.marks.Entry.{Entry}
use Rattle.door.specs.declared.marks.Outcome.{Outcome}
use Rattle.door.specs.declared.marks.Mark.{Mark}
use Rattle.door.specs.declared.marks.Mark.TheVariants.{Turn, Enter, Dispatch, Back, Leave, Serve, Served}

-- an entry that runs; a dispatch whose walk goes on; a service whose owner isn't entered yet, and one whose owner has left
pub data Unfinished : Type 0 where
  Running : Actor → Entry → Unfinished
  Walking : Actor → (event : ℕ) → Unfinished
  Calling : Actor → (owner : Actor) → Value → ServeOp → Unfinished
  Returning : Actor → Outcome → Unfinished

-- an entry ends: where it was a service, that one's caller is next
abbrev pub left_by : Outcome → List Unfinished → List Unfinished
left_by outcome (Calling i owner value operation ∷ outer) = Returning i outcome ∷ outer
left_by outcome outer = outer

-- what is unfinished after a mark, the innermost first
abbrev pub nested : List Unfinished → Mark → List Unfinished
nested unfinished (Enter i entry) = Running i entry ∷ unfinished
nested unfinished (Leave i outcome units) = left_by outcome (drop 1 unfinished)
nested unfinished (Dispatch i event target) = Walking i event ∷ unfinished
nested unfinished (Back i answer) = drop 1 unfinished
nested unfinished (Serve i owner value operation) = Calling i owner value operation ∷ unfinished
nested unfinished (Served i answer) = drop 1 unfinished
nested unfinished mark = unfinished

-- what is unfinished; how many turns were made; the last one, how many marks stood before it, and how many of the host's own it has so far;
-- the last line that had its turn, 0 for none
pub record Progress : Type 0 where
  pub unfinished : List Unfinished
  pub turns : ℕ
  pub task : Option Task
  pub before : ℕ
  pub made : ℕ
  pub line : ℕ

abbrev pub at_first : Progress
at_first = record { unfinished = []; turns = 0; task = None; before = 0; made = 0; line = 0 }

-- the line of a task, or the one before
abbrev pub line_of : ℕ → Task → ℕ
line_of line (Line k) = k
line_of line task = line

-- a mark of the host's own is one that stands in nothing else
abbrev pub one_if_outer : List Unfinished → ℕ
one_if_outer [] = 1
one_if_outer unfinished = 0

-- a mark more, whose place in the journal is this
abbrev pub advanced : ℕ → Progress → Mark → Progress
advanced at p (Turn task) =
    record { unfinished = p.unfinished; turns = p.turns + 1; task = Some task; before = at; made = 0; line = line_of p.line task }
advanced at p mark = record p { unfinished = nested p.unfinished mark; made = p.made + one_if_outer p.unfinished }

unfoldable pub progress_from : ℕ → Progress → List Mark → Progress
progress_from at p [] = p
progress_from at p (mark ∷ marks) = progress_from (suc at) (advanced at p mark) marks

abbrev pub progress_of : List Mark → Progress
progress_of marks = progress_from 0 at_first marks
