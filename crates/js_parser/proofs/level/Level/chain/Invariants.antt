use Rattle.std.proofs.Common.{◌≡◌, ◌-◌}
use Rattle.js_syntax.specs.Symbols.{among}
use Rattle.js_combinators.specs.Readers.{chain}
use Rattle.js_cursor.specs.Sets.{symbols_of}
use Rattle.js_reference_parser.specs.ExpressionsModel.{denied, suffix}
use Rattle.js_reference_parser.specs.StatementsModel.{within}
use Rattle.js_parser.proofs.level.Level.chain.Given as goal

abbrev pub invariant-loop-link : goal.invariant-loop-link
invariant-loop-link g l = chain (64 - l._link) (denied l.self.left) (among (symbols_of l.of)) (suffix l.self.left (within 64 l.self.left)) l.found l.tokens ≡ chain 64 (denied l.self.left) (among (symbols_of l.of)) (suffix l.self.left (within 64 l.self.left)) l.fn.found l.fn.tokens
