use Rattle.std.proofs.Common.{◌≡◌, ◌-◌}
use Rattle.js_combinators.specs.Readers.{rounds, repeat}
use Rattle.js_reference_parser.specs.ExpressionsModel.{not_comma, next_name}
use Rattle.js_cursor.proofs.names.more_names.Given as goal

abbrev pub invariant-loop-turn : goal.invariant-loop-turn
invariant-loop-turn l = rounds (l._turn-end - l._turn) not_comma next_name l.found l.tokens ≡ repeat not_comma next_name l.fn.found l.fn.tokens
