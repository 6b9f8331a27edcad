-- What the end of a script answers: whatever was read before, or the tokens from the fault on.
use Rattle.std.specs.Prelude.{◌≡◌, List, Result, Ok, Err}
use denote.Bor.{Bor}
use Rattle.js_syntax.specs.declared.parse_fault.ParseKind.TheVariants.{Unexpected}
use Rattle.js_syntax.specs.declared.tree.Stmt.{Stmt}
use Rattle.js_syntax.specs.Symbols.{Tokens}
use Rattle.js_reference_parser.specs.StatementsModel.{finish}

abbrev pub Finishes : Tokens → Result (Unit {0}) (Bor Tokens) → Type 0
Finishes ts (Ok u) = (all : List Stmt) → finish all ts ≡ Ok (record { body = all })
Finishes ts (Err rest) = (all : List Stmt) → finish all ts ≡ Err (Unexpected, rest.now)
