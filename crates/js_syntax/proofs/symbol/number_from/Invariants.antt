use Rattle.std.proofs.Common.{◌≡◌, ◌≤◌, length}
use Rattle.js_syntax.specs.Symbols.{number_from}
use Rattle.js_syntax.specs.TokenSpelling.{widest}
use Rattle.js_syntax.proofs.symbol.number_from.Given as goal

abbrev pub invariant-loop-digits : goal.invariant-loop-digits
invariant-loop-digits l = record {
  within : l.value ≤ widest;
  same : number_from l.value l.digits ≡ number_from 0 l.fn.digits;
}

abbrev pub decreases-loop-digits : goal.decreases-loop-digits
decreases-loop-digits l = length l.digits
