use Rattle.std.proofs.Common.{◌∙◌, ◌∷◌, [], ◌++◌, ap}
use Rattle.js_code.proofs.Walks.{names_of-more}
use Rattle.js_code.proofs.declared.named.Goals as goal

pub loop-declaration-preserved : goal.loop-declaration-preserved
loop-declaration-preserved c =
    names_of-more c.args.names.now c.loop-declaration.names c.push.new.self c.args.declarations.now c.loop-declaration.declaration-index c.declaration-item.result c.loop-declaration-test.true c.declaration-item.is c.loop-declaration.invariant
    (c.in_ok-push.ensures.ok ∙ ap (λ n. c.loop-declaration.names ++ n ∷ []) c.in_ok-share.ensures)
