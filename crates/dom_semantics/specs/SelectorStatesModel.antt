-- A reading of selectors for computed facts, on which no claim rests: how far a selector is read.
use Rattle.std.specs.Prelude.{ℕ, List, Option}
use Rattle.dom_semantics.specs.declared.selectors.Compound.{Compound}
use Rattle.dom_semantics.specs.declared.selectors.Part.{Part}
use Rattle.dom_semantics.specs.declared.selectors.TagTest.{TagTest}
use Rattle.dom_semantics.specs.SelectorSortsModel.{Sort}

pub record Span : Type 0 where
  pub from : ℕ
  pub to : ℕ

pub data State : Type 0 where
  Before : State
  Gap : State
  Begun : Sort → State
  Name : Sort → ℕ → State
  Whole : State
  Opened : State
  Attribute : ℕ → State
  Equals : Span → State
  Quoted : Span → ℕ → ℕ → State
  Bare : Span → ℕ → State
  Closing : Span → Span → State

-- what is read so far
pub record Built : Type 0 where
  pub chains : List (List Compound)
  pub chain : List Compound
  pub tag : Option TagTest
  pub parts : List Part
