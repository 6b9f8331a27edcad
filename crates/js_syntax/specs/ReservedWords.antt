-- The reserved words, in one table that lexer, parser and grammar ask (ECMAScript, 12.7.2 Keywords and Reserved Words).
-- This project's own: `let` and `yield` are reserved everywhere.
use Rattle.std.specs.Prelude.{◌==◌, ℕ, Bool, not, List, [], ◌∷◌, codes, encode_utf8_all, if◌then◌else◌}
use Rattle.std.specs.Str.{bytes_eq}
use Rattle.js_syntax.specs.TokenScalars.{Scalars}
use Rattle.js_syntax.specs.SymbolNumbers.{number}
use Rattle.js_syntax.specs.declared.symbol.Symbol.{Symbol}
use Rattle.js_syntax.specs.declared.symbol.Symbol.TheVariants as s

-- each word and its symbol; `Reserved` where this language has no use for the word yet
abbrev pub reserved_words : List (List ℕ × Symbol)
reserved_words =
    (codes "break", s.Break) ∷ (codes "case", s.Reserved) ∷ (codes "catch", s.Catch) ∷ (codes "class", s.Reserved) ∷
    (codes "const", s.Reserved) ∷ (codes "continue", s.Continue) ∷ (codes "debugger", s.Reserved) ∷ (codes "default", s.Reserved) ∷
    (codes "delete", s.Delete) ∷ (codes "do", s.Reserved) ∷ (codes "else", s.Else) ∷ (codes "enum", s.Reserved) ∷
    (codes "export", s.Reserved) ∷ (codes "extends", s.Reserved) ∷ (codes "false", s.False) ∷ (codes "finally", s.Finally) ∷
    (codes "for", s.For) ∷ (codes "function", s.Function) ∷ (codes "if", s.If) ∷ (codes "import", s.Reserved) ∷
    (codes "in", s.In) ∷ (codes "instanceof", s.InstanceOf) ∷ (codes "let", s.Reserved) ∷ (codes "new", s.New) ∷
    (codes "null", s.Null) ∷ (codes "return", s.Return) ∷ (codes "super", s.Reserved) ∷ (codes "switch", s.Reserved) ∷
    (codes "this", s.This) ∷ (codes "throw", s.Throw) ∷ (codes "true", s.True) ∷ (codes "try", s.Try) ∷
    (codes "typeof", s.TypeOf) ∷ (codes "var", s.Var) ∷ (codes "void", s.Reserved) ∷ (codes "while", s.While) ∷
    (codes "with", s.Reserved) ∷ (codes "yield", s.Reserved) ∷ []

abbrev pub symbol_in : List (List ℕ × Symbol) → List ℕ → Symbol
symbol_in [] word = s.Other
symbol_in (row ∷ rows) word = if bytes_eq word row.0 then row.1 else symbol_in rows word

-- the symbol of a reserved word by its bytes, `Other` of any other text
unfoldable pub word_of : List ℕ → Symbol
word_of word = symbol_in reserved_words word

abbrev pub is_reserved_word : List ℕ → Bool
is_reserved_word word = not (number (word_of word) == number s.Other)

-- the same of a text by its scalars
abbrev pub is_reserved : Scalars → Bool
is_reserved word = is_reserved_word (encode_utf8_all word)

-- the symbols of the table
abbrev pub reserved_symbols : List Symbol
reserved_symbols =
    s.Reserved ∷ s.Break ∷ s.Catch ∷ s.Continue ∷ s.Delete ∷ s.Else ∷ s.False ∷ s.Finally ∷ s.For ∷ s.Function ∷ s.If ∷ s.In ∷
    s.InstanceOf ∷ s.New ∷ s.Null ∷ s.Return ∷ s.This ∷ s.Throw ∷ s.True ∷ s.Try ∷ s.TypeOf ∷ s.Var ∷ s.While ∷ []
