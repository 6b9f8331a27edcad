-- After this journal every actor's machine is waiting for an event.
use Rattle.std.specs.Prelude.{◌≢◌, List}
use Rattle.door.specs.declared.values.Actor.{Actor}
use Rattle.door.specs.declared.marks.Mark.{Mark}
use Rattle.dom_semantics.specs.Forest.{the_host}
use Rattle.solo_model.specs.Closed.{Setups}
use Rattle.small_meaning.specs.Reached.{IsWaiting}

-- every actor but the host waits, and nothing of it is unfinished
abbrev pub AreIdle : Setups → List Mark → Type 0
AreIdle setups marks = (i : Actor) → i ≢ the_host → IsWaiting (setups i) i marks
