-- A walk as it is kept (this project's own in form).
use Rattle.std.specs.Prelude.{Bool, true, false}
use Rattle.dom_semantics.specs.Walks.{Walk}

-- what is left of it, and whether it has ended
pub record Progress : Type 0 where
  pub left : Walk
  pub ended : Bool

-- a walk that hasn't ended
abbrev pub going : Walk → Progress
going walk = record { left = walk; ended = false }

-- the same walk, which has ended
abbrev pub at_end : Progress → Progress
at_end p = record p { ended = true }
