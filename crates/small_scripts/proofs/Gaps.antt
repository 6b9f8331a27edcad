-- The gaps of a small form.
use Rattle.std.proofs.Common.{true, false, [], ◌∷◌, ◌++◌, refl}
use Rattle.js_syntax.specs.Symbols.{Tokens}
use Rattle.js_syntax.specs.TokenScalars.{Scalars, AreAll, is_in_line}
use Rattle.js_syntax.specs.TokenSpelling.{space, line_end, line_comment}
use Rattle.small_scripts.proofs.Front.{Has, past_gap}

pub past_space : (Q : Tokens → Type 0) (rest : Scalars) → Has Q rest → Has Q (32 ∷ rest)
past_space Q rest h = past_gap Q (32 ∷ []) rest false (space 32 rest refl) h

pub past_line_feed : (Q : Tokens → Type 0) (rest : Scalars) → Has Q rest → Has Q (10 ∷ rest)
past_line_feed Q rest h = past_gap Q (10 ∷ []) rest true (line_end 10 rest refl) h

-- a comment and its line feed
pub past_comment : (Q : Tokens → Type 0) (inside rest : Scalars) → AreAll is_in_line inside → Has Q rest → Has Q (47 ∷ (47 ∷ (inside ++ 10 ∷ rest)))
past_comment Q inside rest all h = past_gap Q (47 ∷ (47 ∷ inside)) (10 ∷ rest) false (line_comment inside (10 ∷ rest) all refl) (past_line_feed Q rest h)
