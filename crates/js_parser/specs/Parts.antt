-- What begins a part one level deeper.
use Rattle.std.specs.Prelude.{Bool}
use Rattle.js_syntax.specs.declared.token.Token.{Token}
use Rattle.js_syntax.specs.declared.symbol.Symbol.TheVariants as s
use Rattle.js_syntax.specs.Symbols.{is, among}
use Rattle.js_parser.specs.declared.level.Part.{Part}
use Rattle.js_parser.specs.declared.level.Part.TheVariants as part
use Rattle.js_parser.specs.declared.level.Form.{Form}
use Rattle.js_parser.specs.declared.level.Form.TheVariants as form
use Rattle.js_reference_parser.specs.ExpressionsModel.{expr_firsts, base_firsts}
use Rattle.js_reference_parser.specs.StatementsModel.{begins_stmt}

-- what begins a part of an expression
abbrev pub begins_part : Part → Token → Bool
begins_part (part.Whole in_allowed) = among expr_firsts
begins_part part.Operand = among expr_firsts
begins_part part.Target = among base_firsts
begins_part part.Callee = among base_firsts
begins_part part.NewTarget = among base_firsts

-- what begins a statement of a kind
abbrev pub begins_form : Form → Bool → Bool → Token → Bool
begins_form form.Any f l = begins_stmt f l
begins_form form.Block f l = is s.OpenBrace
