use Rattle.std.proofs.Common.{◌≡◌, ◌-◌}
use Rattle.std.proofs.Common.{true}
use Rattle.js_combinators.specs.Readers.{rounds, repeat}
use Rattle.js_reference_parser.specs.ExpressionsModel.{not_comma, next_item}
use Rattle.js_reference_parser.specs.StatementsModel.{within}
use Rattle.js_parser.proofs.level.Level.more_exprs.Given as goal

abbrev pub invariant-loop-turn : goal.invariant-loop-turn
invariant-loop-turn g l = rounds (l._turn-end - l._turn) not_comma (next_item ((within 64 l.self.left).expr true)) l.found l.tokens ≡ repeat not_comma (next_item ((within 64 l.self.left).expr true)) l.fn.found l.fn.tokens
