use Rattle.std.proofs.Common.{◌∙◌, ap, ◌++◌}
use Rattle.js_syntax.specs.declared.limits.TheConstants.{LEVEL_LIMIT}
use Rattle.std.specs.List.{flat_map}
use Rattle.js_code.specs.Walks.{functions_within, names_within}
use Rattle.js_code.proofs.Walks.{functions-body, names-body}
use Rattle.js_code.proofs.declared.declared_in.Goals as goal

pub returns-clause-names : goal.returns-clause-names
returns-clause-names c =
    c.in_ok-each.ensures.names ∙ (ap (λ r. r ++ flat_map (names_within LEVEL_LIMIT) c.args.body.now) c.new.ensures ∙ names-body c.args.body.now)

pub returns-clause-functions : goal.returns-clause-functions
returns-clause-functions c =
    c.in_ok-each.ensures.functions ∙ (ap (λ r. r ++ flat_map (functions_within LEVEL_LIMIT) c.args.body.now) c.new-2.ensures ∙ functions-body c.args.body.now)
