-- What a chain answers where an element's place stands next and no level is left for it.
use Rattle.std.proofs.Common.{ℕ, suc, Bool, Err, sym, ap, ◌∙◌}
use Rattle.js_syntax.specs.declared.token.Token.{Token}
use Rattle.js_syntax.specs.Symbols.{Tokens}
use Rattle.js_combinators.specs.Readers.{Reader, chain}
use Rattle.js_reference_parser.specs.ExpressionsModel.{denied as none_left}
use Rattle.js_reference_parser.proofs.Links.{link_denied}
use Rattle.js_cursor.specs.declared.cursor.Failed.{Failed}
use Rattle.js_cursor.specs.declared.cursor.Failed.TheVariants.{NoMemory, Fault}
use Rattle.js_cursor.specs.Reads.{Reads, Undenied}

pub reads_denied : {A : Type 0} (left n : ℕ) (q : Token → Bool) (step : A → Token → Reader A) (a : A) (ts : Tokens) (x : Failed) → Undenied left ts (Err x) → Reads (chain (suc n) (none_left left) q step a ts) (Err x) ts
reads_denied left n q step a ts NoMemory h = tt
reads_denied left n q step a ts (Fault kind) h = link_denied n (none_left left) q step a ts h.1 ∙ ap (λ k. Err (k, ts)) (sym h.0)
