use Rattle.js_parser_tests.proofs.print.+print.Given as goal

abbrev pub decreases-bracketed : goal.decreases-bracketed
decreases-bracketed l = l.left

abbrev pub decreases-operand : goal.decreases-operand
decreases-operand l = l.left

abbrev pub decreases-base : goal.decreases-base
decreases-base l = l.left

abbrev pub decreases-infix : goal.decreases-infix
decreases-infix l = l.left

abbrev pub decreases-prefix : goal.decreases-prefix
decreases-prefix l = l.left

abbrev pub decreases-exprs : goal.decreases-exprs
decreases-exprs l = l.left

abbrev pub decreases-property : goal.decreases-property
decreases-property l = l.left

abbrev pub decreases-properties : goal.decreases-properties
decreases-properties l = l.left

abbrev pub decreases-lambda : goal.decreases-lambda
decreases-lambda l = l.left

abbrev pub decreases-function : goal.decreases-function
decreases-function l = l.left

abbrev pub decreases-operation : goal.decreases-operation
decreases-operation l = l.left

abbrev pub decreases-arguments : goal.decreases-arguments
decreases-arguments l = l.left

abbrev pub decreases-expr : goal.decreases-expr
decreases-expr l = l.left

abbrev pub decreases-declarations : goal.decreases-declarations
decreases-declarations l = l.left

abbrev pub decreases-start : goal.decreases-start
decreases-start l = l.left

abbrev pub decreases-target : goal.decreases-target
decreases-target l = l.left

abbrev pub decreases-optional : goal.decreases-optional
decreases-optional l = l.left

abbrev pub decreases-ended : goal.decreases-ended
decreases-ended l = l.left

abbrev pub decreases-prefix_plain : goal.decreases-prefix_plain
decreases-prefix_plain l = l.left

abbrev pub decreases-headed : goal.decreases-headed
decreases-headed l = l.left

abbrev pub decreases-block_statement : goal.decreases-block_statement
decreases-block_statement l = l.left

abbrev pub decreases-if_statement : goal.decreases-if_statement
decreases-if_statement l = l.left

abbrev pub decreases-catch : goal.decreases-catch
decreases-catch l = l.left

abbrev pub decreases-nested : goal.decreases-nested
decreases-nested l = l.left

abbrev pub decreases-try_statement : goal.decreases-try_statement
decreases-try_statement l = l.left

abbrev pub decreases-stmt : goal.decreases-stmt
decreases-stmt l = l.left
