use Rattle.std.proofs.Common.{◌≡◌, ◌-◌, ◌+◌, ◌*◌, None}
use Rattle.js_syntax.specs.Symbols.{among}
use Rattle.js_syntax.specs.Words.{operators}
use Rattle.js_combinators.specs.Readers.{chain}
use Rattle.js_reference_parser.specs.ExpressionsModel.{operand_of, binary}
use Rattle.js_reference_parser.specs.StatementsModel.{within}
use Rattle.js_parser.proofs.level.Level.+binary.Given as goal

abbrev pub decreases-binary : goal.decreases-binary
decreases-binary g l = 2 * l.levels

abbrev pub decreases-operations : goal.decreases-operations
decreases-operations g l = 2 * l.level + 1

abbrev pub invariant-operations-loop-link : goal.invariant-operations-loop-link
invariant-operations-loop-link g l = chain (64 - l._link) None (among (operators l.in_allowed l.level)) (operand_of (binary 64 l.self.left (within 64 l.self.left) l.in_allowed l.level)) l.found l.tokens ≡ chain 64 None (among (operators l.in_allowed l.level)) (operand_of (binary 64 l.self.left (within 64 l.self.left) l.in_allowed l.level)) l.fn.found l.fn.tokens
