use Rattle.std.proofs.lemmas.Result.{on_ok_weaker}
use Rattle.js_code.proofs.Walks.{added, functions-more, functions-none, kept, names-more, names-none}
use Rattle.js_code.proofs.declared.+walk.Goals as goal

pub within-returns-then-levels-eq0-clause-names : goal.within-returns-then-levels-eq0-clause-names
within-returns-then-levels-eq0-clause-names t c = kept c.args.found.now.names _ (names-none c.args.levels c.args.statement.now c.if-levels-eq0.true)

pub within-returns-then-levels-eq0-clause-functions : goal.within-returns-then-levels-eq0-clause-functions
within-returns-then-levels-eq0-clause-functions t c = kept c.args.found.now.functions _ (functions-none c.args.levels c.args.statement.now c.if-levels-eq0.true)

pub within-returns-clause-names : goal.within-returns-clause-names
within-returns-clause-names t c =
    let more = names-more c.args.levels c.args.statement.now c.if-levels-eq0.false in
    on_ok_weaker c.below.result (added c.args.found.now.names c.own.new.found.names c.below.new.found.names _ _ _ more c.in_ok-own.ensures.names) c.below.ensures.names

pub within-returns-clause-functions : goal.within-returns-clause-functions
within-returns-clause-functions t c =
    let more = functions-more c.args.levels c.args.statement.now c.if-levels-eq0.false in
    on_ok_weaker c.below.result (added c.args.found.now.functions c.own.new.found.functions c.below.new.found.functions _ _ _ more c.in_ok-own.ensures.functions) c.below.ensures.functions
