-- What holds of a world: it is what its journal makes.
use Rattle.std.specs.Prelude.{◌≡◌, ◌≤◌, ◌+◌, ℕ, List, length}
use Rattle.door.specs.declared.values.Actor.{Actor}
use Rattle.door.specs.declared.marks.Mark.{Mark}
use Rattle.solo_model.specs.Stage.{after, stage_of}
use Rattle.solo_model.specs.Truth.{IsGenuine, IsTrueAfter}
use Rattle.solo_model.specs.Lawful.{AreAsksOf, own_nodes}
use Rattle.small_eval.specs.declared.world.World.{World}
use Rattle.small_eval.specs.Continuations.{Adds}
use Rattle.small_eval.specs.Heads.{IsHeaded}

-- every answer of its journal is true, and its document is that of the journal's stage
pub record IsSound (world : World) : Type 0 where
  pub genuine : IsGenuine world.journal.marks
  pub nodes : world.tree ≡ (stage_of world.journal.marks).nodes
  pub own : world.own.items ≡ own_nodes world.tree
  pub events : world.events ≡ length (stage_of world.journal.marks).events
  pub few : length world.tree ≤ length world.journal.marks + 1

-- the same as soon as this mark is added
pub record IsReady (world : World) (mark : Mark) : Type 0 where
  pub genuine : IsGenuine world.journal.marks
  pub truth : IsTrueAfter world.journal.marks mark
  pub nodes : world.tree ≡ (after (stage_of world.journal.marks) mark).nodes
  pub own : world.own.items ≡ own_nodes world.tree
  pub events : world.events ≡ length (after (stage_of world.journal.marks) mark).events
  pub few : length world.tree ≤ length world.journal.marks + 2

-- only an actor's requests were added, each for a unit of fuel, and the title element stands where it did
pub record PreservesRest (i : Actor) (old new : World) (fuel left : ℕ) : Type 0 where
  pub sound : IsSound new
  pub asks : (added : List Mark) × Adds old.journal new.journal added × AreAsksOf i added
  pub spent : length new.journal.marks + left ≤ length old.journal.marks + fuel
  pub headed : IsHeaded old.tree → IsHeaded new.tree
  pub own : new.own ≡ old.own
