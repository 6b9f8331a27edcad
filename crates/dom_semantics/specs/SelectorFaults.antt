-- Why a text is no selector: the first place at which that is sure (this project's own).
use Rattle.std.specs.Prelude.{◌<◌, ◌≤◌, ◌+◌, ℕ, List, ◌++◌, length, take}
use Rattle.dom_semantics.specs.declared.selectors.Compound.{Compound}
use Rattle.dom_semantics.specs.SelectorNames.{Scalars}
use Rattle.dom_semantics.specs.SelectorGrammar.{IsSelector}

-- some selector begins with these scalars
abbrev pub IsFront : Scalars → Type 0
IsFront front = (more : Scalars) × (chains : List (List Compound)) × IsSelector chains (front ++ more)

-- The text is no selector. Some selector begins with what stands before the place, and none with that and the scalar there, or the
-- place is the text's end.
pub record IsFault (text : Scalars) (at : ℕ) : Type 0 where
  pub refused : (chains : List (List Compound)) → IsSelector chains text → ⊥
  pub within : at ≤ length text
  pub before : IsFront (take at text)
  pub here : at < length text → IsFront (take (at + 1) text) → ⊥
