use Rattle.js_parser.proofs.parts.+parts.Given as goal

abbrev pub decreases-expr : goal.decreases-expr
decreases-expr l = l.levels

abbrev pub decreases-member : goal.decreases-member
decreases-member l = l.levels

abbrev pub decreases-stmt : goal.decreases-stmt
decreases-stmt l = l.levels
