-- Which calls of an object in memory fail: this project's own words.
use Rattle.std.specs.Prelude.{ℕ, List, Contains}
use Rattle.outside.specs.Causes.{risen}

-- how many calls an object has had, and the numbers of those that fail, counted from 1
pub record Plan : Type 0 where
  pub made : ℕ
  pub failing : List ℕ

-- the plan when one more call was made
abbrev pub after_call : Plan → Plan
after_call plan = record plan { made = risen plan.made }

-- the next call is one of those that fail
abbrev pub FailsNext : Plan → Type 0
FailsNext plan = Contains plan.failing (risen plan.made)
