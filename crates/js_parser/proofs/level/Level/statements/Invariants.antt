use Rattle.std.proofs.Common.{◌≡◌, ◌-◌}
use Rattle.js_syntax.specs.Words.{closes_body}
use Rattle.js_combinators.specs.Readers.{rounds}
use Rattle.js_reference_parser.specs.ExpressionsModel.{each, one_more}
use Rattle.js_reference_parser.specs.StatementsModel.{within}
use Rattle.js_parser.proofs.level.Level.statements.Given as goal

abbrev pub invariant-loop-turn : goal.invariant-loop-turn
invariant-loop-turn g l = rounds (l._turn-end - l._turn) closes_body (one_more ((within 64 l.self.left).stmt l.in_function l.in_loop)) l.found l.tokens ≡ each closes_body ((within 64 l.self.left).stmt l.in_function l.in_loop) l.fn.tokens
