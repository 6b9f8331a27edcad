-- Model of the code, on which no claim rests: a text between white space, word by word.
use Rattle.std.specs.Prelude.{ℕ, cond, List, [], ◌∷◌}
use Rattle.dom_semantics.specs.Whitespace.{is_white_space}

-- what follows the first part, from the white space on
unfoldable pub after_word : List ℕ → List ℕ
after_word [] = []
after_word (c ∷ cs) = cond (is_white_space c) (c ∷ cs) (after_word cs)
