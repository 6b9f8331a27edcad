use Rattle.std.proofs.Common.{◌≡◌, ◌-◌}
use Rattle.js_reference_parser.specs.ExpressionsModel.{target_chain}
use Rattle.js_reference_parser.specs.StatementsModel.{within}
use Rattle.js_parser.proofs.level.Level.target_suffixes.Given as goal

abbrev pub invariant-loop-link : goal.invariant-loop-link
invariant-loop-link g l = target_chain (64 - l._link) l.self.left (within 64 l.self.left) l.found l.tokens ≡ target_chain 64 l.self.left (within 64 l.self.left) l.fn.found l.fn.tokens
