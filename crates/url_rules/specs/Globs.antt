-- Globs (Greasemonkey manual, Include and exclude rules): `*` stands for any characters, none too, and every other character for itself.
use Rattle.std.specs.Prelude.{◌≡◌, ◌≢◌, ◌⊎◌, ℕ, List, [], ◌∷◌, ◌++◌}

-- the pattern fits the whole text
abbrev pub GlobFits : List ℕ → List ℕ → Type 0
GlobFits [] text = text ≡ []
GlobFits (c ∷ pattern) text =
    ((c ≡ 42) × (front : List ℕ) × (back : List ℕ) × (text ≡ front ++ back) × GlobFits pattern back)
    ⊎ ((c ≢ 42) × (rest : List ℕ) × (text ≡ c ∷ rest) × GlobFits pattern rest)
