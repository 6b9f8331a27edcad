-- What is said of the journal of a run; this project's own.
use Rattle.std.specs.Prelude.{◌≤◌, List}
use Rattle.door.specs.declared.values.Actor.{Actor}
use Rattle.door.specs.declared.marks.Mark.{Mark}
use Rattle.solo_model.specs.Acts.{ActsAreSolo, ActsAreSoloSoFar, setups_of}
use Rattle.solo_model.specs.Genuine.{IsGenuine}
use Rattle.solo_model.specs.Given.{Given, IsGiven, setting_of}
use Rattle.solo_model.specs.NextMark.{IsLawful, IsLawfulSoFar}

-- What was given is in order, the journal is lawful, all that it says is true, and each actor but the host does what its own machine does while
-- it is closed.
pub record IsRight (given : Given) (marks : List Mark) : Type 0 where
  pub in_order : IsGiven given
  pub lawful : IsLawful given marks
  pub genuine : IsGenuine (setups_of given) (setting_of given marks) marks
  pub acts : (i : Actor) → 1 ≤ i.0 → ActsAreSolo (setups_of given) i marks

-- the same of a run that was cut off
pub record IsRightSoFar (given : Given) (marks : List Mark) : Type 0 where
  pub in_order : IsGiven given
  pub lawful : IsLawfulSoFar given marks
  pub genuine : IsGenuine (setups_of given) (setting_of given marks) marks
  pub acts : (i : Actor) → 1 ≤ i.0 → ActsAreSoloSoFar (setups_of given) i marks
