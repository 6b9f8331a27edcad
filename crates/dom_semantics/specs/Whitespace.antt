-- ASCII white space and the words between it (Infra, 4.7 Strings: ASCII whitespace, strip and collapse ASCII whitespace).
use Rattle.std.specs.Prelude.{ℕ, Bool, true, false, ◌||◌, ◌==◌, List, [], ◌∷◌}
use Rattle.std.specs.List.{filter, join_with_byte, slice_split}

-- tab, line feed, form feed, carriage return and space
abbrev pub is_white_space : ℕ → Bool
is_white_space c = (c == 9) || ((c == 10) || ((c == 12) || ((c == 13) || (c == 32))))

abbrev pub is_not_empty : List ℕ → Bool
is_not_empty [] = false
is_not_empty (c ∷ cs) = true

-- the words of a text: what stands between white space and isn't empty
abbrev pub words_of : List ℕ → List (List ℕ)
words_of text = filter is_not_empty (slice_split is_white_space text)

-- a text stripped and collapsed: its words with one U+0020 SPACE between
abbrev pub collapsed : List ℕ → List ℕ
collapsed text = join_with_byte 32 (words_of text)
