-- A text as it is stripped and collapsed, scalar by scalar (Infra, strip and collapse ASCII whitespace).
use Rattle.std.specs.Prelude.{◌≡◌, ◌&&◌, ℕ, Bool, true, List, [], ◌∷◌, ◌++◌, if◌then◌else◌}
use Rattle.dom_semantics.specs.CollapseModel.{collapsed_from}
use Rattle.dom_semantics.specs.Whitespace.{is_white_space}

-- a scalar of a word, after a space where one stands between two words
abbrev pub spaced : Bool → ℕ → List ℕ
spaced between c = if between then 32 ∷ (c ∷ []) else c ∷ []

-- what is kept of a scalar, where a word stands before, and white space between
abbrev pub kept : Bool → Bool → ℕ → List ℕ
kept begun gap c = if is_white_space c then [] else spaced (begun && gap) c

-- a word stands before the next scalar
abbrev pub begun_by : Bool → ℕ → Bool
begun_by begun c = if is_white_space c then begun else true

-- what is kept of these scalars, one after another, and the words as they stand then
abbrev pub Reads : Bool → Bool → List ℕ → Bool → Bool → List ℕ → Type 0
Reads begun gap text began gapped done = (rest : List ℕ) → collapsed_from begun gap (text ++ rest) ≡ done ++ collapsed_from began gapped rest
