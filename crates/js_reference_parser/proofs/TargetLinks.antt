-- One turn of the suffixes of the operand of a `++` or `--`, by what its next token is.
use Rattle.std.proofs.Common.{◌≡◌, ℕ, suc, ◌+◌, ◌-◌, ◌<◌, true, false, ◌∷◌, Err, ◌∙◌, arith}
use Rattle.js_syntax.specs.declared.token.Token.{Token}
use Rattle.js_syntax.specs.declared.parse_fault.ParseKind.TheVariants.{TooDeep}
use Rattle.js_syntax.specs.declared.tree.Expr.{Expr}
use Rattle.js_syntax.specs.Symbols.{Tokens, next, sees, among}
use Rattle.js_syntax.specs.Words.{suffixes}
use Rattle.js_combinators.specs.Readers.{Reader, and_then, ◌>>=◌, on}
use Rattle.js_combinators.proofs.Loops.{denies, deny_passes}
use Rattle.js_combinators.proofs.Spells.{on_passes}
use Rattle.js_reference_parser.specs.ExpressionsModel.{Inside, denied, suffix, accept, target_chain}
use Rattle.js_reference_parser.proofs.Links as links

-- behind one more of so many suffixes
abbrev pub turn : ℕ → ℕ → Inside → Expr → Reader Expr
turn n left i a = on (among suffixes) (λ t. suffix left i a t >>= target_chain (suc n) left i) (accept a)

pub taken : (n left : ℕ) (i : Inside) (a : Expr) (old new : Tokens) (t : Token) → sees (denies (denied left)) (next old) ≡ false → old ≡ t ∷ new → among suffixes t ≡ true → target_chain (suc (suc n)) left i a old ≡ and_then (suffix left i a t new) (target_chain (suc n) left i)
unfolding target_chain
taken n left i a old new t free e h = deny_passes (denied left) (turn n left i a) old free ∙ links.on_taken (among suffixes) (λ t. suffix left i a t >>= target_chain (suc n) left i) (accept a) old new t e h

pub ends : (n left : ℕ) (i : Inside) (a : Expr) (old : Tokens) → sees (denies (denied left)) (next old) ≡ false → sees (among suffixes) (next old) ≡ false → target_chain (suc (suc n)) left i a old ≡ accept a old
unfolding target_chain
ends n left i a old free h = deny_passes (denied left) (turn n left i a) old free ∙ on_passes (among suffixes) (λ t. suffix left i a t >>= target_chain (suc n) left i) (accept a) old h

pub refused : (n left : ℕ) (i : Inside) (a : Expr) (old : Tokens) → sees (denies (denied left)) (next old) ≡ true → target_chain (suc (suc n)) left i a old ≡ Err (TooDeep, old)
unfolding target_chain
refused n left i a old h = links.denied (denied left) (turn n left i a) old h

-- what one turn of the loop leaves
pub here : (at : ℕ) → at < 63 → 64 - at ≡ suc (suc (62 - at))
here at below = omega arith

pub after : (at : ℕ) → at < 63 → 64 - (at + 1) ≡ suc (62 - at)
after at below = omega arith
