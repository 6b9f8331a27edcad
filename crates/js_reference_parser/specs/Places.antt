-- Where tokens stand.
use Rattle.std.specs.Prelude.{ℕ, [], ◌∷◌}
use Rattle.js_syntax.specs.Symbols.{Tokens}

-- the place of the first token
abbrev pub place : Tokens → ℕ
place [] = 0
place (t ∷ ts) = t.from
