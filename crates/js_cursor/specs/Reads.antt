-- What a function that reads ensures: what reading gives, unless memory ran out. The tokens that it leaves are those from the fault on.
use Rattle.std.specs.Prelude.{◌≡◌, ◌<◌, ℕ, Bool, true, false, not, [], ◌∷◌, Option, Some, None, Result, Ok, Err}
use denote.Bor.{Bor}
use Rattle.js_syntax.specs.declared.token.Token.{Token}
use Rattle.js_syntax.specs.declared.symbol.Symbol.{Symbol}
use Rattle.js_syntax.specs.Symbols.{Tokens, next, sees, symbol_of}
use Rattle.js_combinators.specs.Readers.{Outcome}
use Rattle.js_syntax.specs.declared.parse_fault.ParseKind.TheVariants.{TooDeep}
use Rattle.js_combinators.proofs.Loops.{denies}
use Rattle.js_reference_parser.specs.ExpressionsModel.{denied}
use Rattle.js_cursor.specs.declared.cursor.Failed.{Failed}
use Rattle.js_cursor.specs.declared.cursor.Failed.TheVariants.{NoMemory, Fault}

abbrev pub symbol_at : Tokens → Option Symbol
symbol_at [] = None
symbol_at (t ∷ ts) = Some (symbol_of t)

abbrev pub on_line : Token → Bool
on_line t = not t.line_before

abbrev pub Reads : {A : Type 0} → Outcome A → Result A Failed → Tokens → Type 0
Reads read (Ok a) left = read ≡ Ok (a, left)
Reads read (Err NoMemory) left = Unit {0}
Reads read (Err (Fault kind)) left = read ≡ Err (kind, left)

-- the next token is taken, if there is one
abbrev pub Skips : Tokens → Option (Bor Token) → Tokens → Type 0
Skips old (Some t) new = old ≡ t.now ∷ new
Skips old None new = (old ≡ []) × (new ≡ [])

-- a token is taken where it is such, and else nothing
abbrev pub Takes : (Token → Bool) → Tokens → Option (Bor Token) → Tokens → Type 0
Takes q old (Some t) new = (old ≡ t.now ∷ new) × (q t.now ≡ true)
Takes q old None new = (sees q (next old) ≡ false) × (new ≡ old)

-- no element's place stands next where no level is left for it
abbrev pub Undenied : ℕ → Tokens → Result (Unit {0}) Failed → Type 0
Undenied left ts (Ok u) = sees (denies (denied left)) (next ts) ≡ false
Undenied left ts (Err NoMemory) = ⊥
Undenied left ts (Err (Fault kind)) = (kind ≡ TooDeep) × (sees (denies (denied left)) (next ts) ≡ true)

-- a token that begins a form with a part one level deeper is taken, unless no level is left
abbrev pub Begins : ℕ → (Token → Bool) → Tokens → Result (Option (Bor Token)) Failed → Tokens → Type 0
Begins left q old (Ok (Some t)) new = (0 < left) × ((old ≡ t.now ∷ new) × (q t.now ≡ true))
Begins left q old (Ok None) new = (sees q (next old) ≡ false) × (new ≡ old)
Begins left q old (Err NoMemory) new = ⊥
Begins left q old (Err (Fault kind)) new = (left ≡ 0) × ((kind ≡ TooDeep) × ((sees q (next old) ≡ true) × (new ≡ old)))
