-- Model of the code: a text stripped and collapsed scalar by scalar. No claim rests on it; proofs use it to follow a loop.
use Rattle.std.specs.Prelude.{◌&&◌, ℕ, Bool, true, false, List, [], ◌∷◌, if◌then◌else◌}
use Rattle.dom_semantics.specs.Whitespace.{is_white_space}

-- what is kept of the text, where a word was read before or not, and white space was read after it or not
abbrev pub collapsed_from : Bool → Bool → List ℕ → List ℕ
collapsed_from begun gap [] = []
collapsed_from begun gap (c ∷ cs) =
    if is_white_space c then collapsed_from begun true cs
    else (if begun && gap then 32 ∷ (c ∷ collapsed_from true false cs) else c ∷ collapsed_from true false cs)
