-- The state that the machine of one actor has reached after a journal.
use Rattle.std.specs.Prelude.{List}
use Rattle.door.specs.declared.values.Actor.{Actor}
use Rattle.door.specs.declared.marks.Mark.{Mark}
use Rattle.js_semantics.specs.Intrinsics.{Setup}
use Rattle.js_semantics.specs.Solo.{Program, State, Runs}
use Rattle.solo_model.specs.View.{view_of}
use Rattle.solo_model.specs.Reaches.{Reaches}
use Rattle.small_meaning.specs.Rows.{Bare, beginning, enters}

-- after the marks of a journal the machine of an actor, which began at its beginning, is in this state
pub record HasReachedState (setup : Setup) (i : Actor) (marks : List Mark) (at : State Bare) : Type 0 where
  pub reaches : Reaches (enters setup) (beginning) (view_of i marks) at

-- .. where it runs, with this left to do
abbrev pub HasReached : Setup → Actor → List Mark → Program Bare → Type 0
HasReached setup i marks tree = HasReachedState setup i marks (Runs tree)

-- .. where it waits, and nothing is unfinished
abbrev pub IsWaiting : Setup → Actor → List Mark → Type 0
IsWaiting setup i marks = HasReachedState setup i marks (beginning)
