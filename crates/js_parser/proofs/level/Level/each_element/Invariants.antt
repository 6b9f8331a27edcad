use Rattle.std.proofs.Common.{◌≡◌, ◌-◌}
use Rattle.std.proofs.Common.{true}
use Rattle.js_syntax.specs.declared.symbol.Symbol.TheVariants as s
use Rattle.js_syntax.specs.Symbols.{is}
use Rattle.js_combinators.specs.Readers.{rounds}
use Rattle.js_reference_parser.specs.ExpressionsModel.{each, entry, one_more}
use Rattle.js_reference_parser.specs.StatementsModel.{within}
use Rattle.js_parser.proofs.level.Level.each_element.Given as goal

abbrev pub invariant-loop-turn : goal.invariant-loop-turn
invariant-loop-turn g l = rounds (l._turn-end - l._turn) (is s.CloseBracket) (one_more (entry s.CloseBracket ((within 64 l.self.left).expr true))) l.found l.tokens ≡ each (is s.CloseBracket) (entry s.CloseBracket ((within 64 l.self.left).expr true)) l.fn.tokens
