-- What private clauses say of lines that are borrowed. No claim rests on it: `read_block` is said by `Lines` and `Block`.
use Rattle.std.specs.Prelude.{◌≡◌, ◌⊎◌, ◌<◌, ℕ, List, [], ◌∷◌, ◌++◌, length, map}
use Rattle.std.specs.List.{AllWithin, HoldsAt}
use Rattle.std.specs.Borrow.{Bor}
use Rattle.metadata_block.specs.Lines.{GivesPair, IsSkipped}
use Rattle.metadata_block.specs.declared.lines.Pair.{Pair}

-- the texts of the lines
abbrev pub texts : List (Bor (List ℕ)) → List (List ℕ)
texts lines = map (λ line. line.now) lines

-- P holds at this place first
abbrev pub HoldsFirst : (List ℕ → Type 0) → List (Bor (List ℕ)) → ℕ → Type 0
HoldsFirst P lines i = (i < length lines) × AllWithin (λ line. P line.now → ⊥) lines 0 i × HoldsAt (λ line. P line.now) lines i

-- the pairs with that of the line, if it has one
abbrev pub Pushes : ℕ → List ℕ → List Pair → List Pair → Type 0
Pushes number line old new = (IsSkipped line × (new ≡ old)) ⊎ ((p : Pair) × GivesPair number line p × (new ≡ old ++ p ∷ []))
