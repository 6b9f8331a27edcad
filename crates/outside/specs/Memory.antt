-- What contracts see of the objects in memory: this project's own words.
use Rattle.std.specs.Prelude.{ℕ, List, Option}
use Rattle.outside.specs.Calls.{Plan}
use Rattle.outside.specs.Contents.{Files}

-- the bytes that a sink took, and how many it takes in one write at most
pub record Gathered : Type 0 where
  pub written : List ℕ
  pub step : ℕ

-- a folder some of whose calls fail
pub record FailingFolder : Type 0 where
  pub files : Files
  pub plan : Plan
  pub faults : ℕ

-- a keeper some of whose calls fail
pub record FailingKeeper : Type 0 where
  pub kept : Option (List ℕ)
  pub plan : Plan
  pub load_faults : ℕ
  pub save_faults : ℕ

-- a sink some of whose calls fail
pub record FailingSink : Type 0 where
  pub sink : Gathered
  pub plan : Plan
  pub faults : ℕ
