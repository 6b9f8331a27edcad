use Rattle.std.proofs.Common.{◌≡◌, ◌-◌}
use Rattle.js_syntax.specs.declared.symbol.Symbol.TheVariants as s
use Rattle.js_syntax.specs.Symbols.{is}
use Rattle.js_combinators.specs.Readers.{rounds}
use Rattle.js_reference_parser.specs.ExpressionsModel.{each, entry, one_more}
use Rattle.js_reference_parser.specs.StatementsModel.{within}
use Rattle.js_parser.proofs.level.Level.each_member.Given as goal

abbrev pub invariant-loop-turn : goal.invariant-loop-turn
invariant-loop-turn g l = rounds (l._turn-end - l._turn) (is s.CloseBrace) (one_more (entry s.CloseBrace (within 64 l.self.left).member)) l.found l.tokens ≡ each (is s.CloseBrace) (entry s.CloseBrace (within 64 l.self.left).member) l.fn.tokens
