-- What a script does next, as an interaction tree; this project's own.
use Rattle.std.specs.Prelude.{ℕ}
use Rattle.door.specs.declared.values.Thing.{Thing}
use Rattle.door.specs.declared.values.Value.{Value}
use Rattle.door.specs.declared.requests.Request.{Request}
use Rattle.door.specs.declared.requests.Answer.{Answer}
use Rattle.door.specs.declared.requests.ServeOp.{ServeOp}
use Rattle.door.specs.declared.marks.Entry.{Entry}
use Rattle.door.specs.declared.marks.Outcome.{Outcome}

-- what an actor does beside its requests: it dispatches an event, has another actor do something with that one's object, or leaves an
-- entry with an outcome and the units used
pub data Act : Type 0 where
  Dispatches : (event : ℕ) (target : Thing) → Act
  Serves : Value → ServeOp → Act
  Leaves : Outcome → (units : ℕ) → Act

-- What a script does next, where M is what its machine holds, as an interaction tree: a request, and what follows each answer; an output,
-- after which it waits, with this number of levels left, for input; or it is stuck, on an input of the wrong type.
pub data Program (M : Type 0) : Type 0 where
  Asks : Request → (Answer → Program M) → Program M
  Emits : Act → (levels : ℕ) → M → (M → Answer → Program M) → Program M
  Stuck : Program M

-- the state of a machine: it runs, with this left to do, or it waits for input
pub data State (M : Type 0) : Type 0 where
  Runs : Program M → State M
  Awaits : (levels : ℕ) → M → (M → Answer → Program M) → State M

-- how an entry goes on with a machine that waits with so many levels left, and then waits as before
abbrev pub Entering : Type 0 → Type 1
Entering M = Entry → (levels : ℕ) → M → (M → Answer → Program M) → Program M → Type 0
