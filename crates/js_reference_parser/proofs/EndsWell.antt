-- The last of the tokens of a text is an End token.
use Rattle.std.proofs.Common.{ℕ, Bool, List, [], ◌∷◌, refl}
use Rattle.js_syntax.specs.declared.token.Token.{Token}
use Rattle.js_syntax.specs.Scripts.{EndsWell}
use Rattle.js_syntax.specs.TokenScalars.{Scalars}
use Rattle.js_syntax.specs.Tokens.{AreTokensFrom, token_at, end, gap, word}

-- a token before others that end well
onto : (t : Token) (ts : List Token) → EndsWell ts → EndsWell (t ∷ ts)
onto t [] w = absurd w
onto t (u ∷ ts) w = w

pub ends_well_from : (at : ℕ) (line : Bool) (text : Scalars) (ts : List Token) → AreTokensFrom at line text ts → EndsWell ts
ends_well_from at line text ts (end a l) = refl
ends_well_from at line text ts (gap a l breaks g rest all h more) = ends_well_from _ _ rest all more
ends_well_from at line text ts (word a l kind value w rest all h more) = onto (token_at a l kind value w) all (ends_well_from _ _ rest all more)
