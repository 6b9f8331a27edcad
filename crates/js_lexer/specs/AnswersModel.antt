-- What a function of the lexer answers of the model of it, where memory doesn't run out: no claim rests on it.
use Rattle.std.specs.Prelude.{◌≡◌, ◌++◌, ℕ, List, Result, Ok, Err, encode_utf8_all}
use Rattle.base_text.specs.declared.memory.OrMemory.{OrMemory}
use Rattle.base_text.specs.declared.memory.OrMemory.TheVariants as memory
use Rattle.js_syntax.specs.declared.token.Token.{Token}
use Rattle.js_syntax.specs.declared.token_fault.LexFault.{LexFault}
use Rattle.js_syntax.specs.declared.token_fault.LexKind.{LexKind}
use Rattle.js_syntax.specs.TokenScalars.{Scalars}
use Rattle.js_lexer.specs.declared.token_at_front.FrontFault.{FrontFault}
use Rattle.js_lexer.specs.declared.token_at_front.Front.{Front}
use Rattle.js_lexer.specs.declared.token_at_front.Front.TheVariants as front
use Rattle.js_lexer.specs.StringLiteralsModel.{Decoded}
use Rattle.js_lexer.specs.TokenAtFrontModel.{AtFront, gap_of, token_of, fault_of, Read}

-- a value as bytes, and what is left
abbrev pub IsDecoded : Decoded → List ℕ → Scalars → Type 0
IsDecoded d value left = (encode_utf8_all d.0 ≡ value) × (d.1 ≡ left)

-- what stands at the front of a text
abbrev pub Shows : AtFront → Result Front (OrMemory FrontFault) → Type 0
Shows p (Ok (front.Gap breaks rest)) = p ≡ gap_of breaks rest.now
Shows p (Ok (front.Token kind text rest)) = p ≡ token_of kind text rest.now
Shows p (Err (memory.Fault f)) = p ≡ fault_of f.on f.kind
Shows p (Err memory.NoMemory) = Unit {0}

-- the tokens of a whole text
abbrev pub Tells : Read → Result (List Token) (OrMemory LexFault) → Type 0
Tells r (Ok tokens) = r ≡ Ok tokens
Tells r (Err (memory.Fault f)) = r ≡ Err (f.at, f.kind)
Tells r (Err memory.NoMemory) = Unit {0}

-- tokens before what is read of the rest
abbrev pub onto : List Token → Read → Read
onto before (Ok after) = Ok (before ++ after)
onto before (Err e) = Err e
