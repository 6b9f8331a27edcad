use Rattle.outside.proofs.Names.{CanJoin-found}
use Rattle.outside.proofs.quiet.can_join.Goals as goal

pub returns-then-name-le-NAME_LIMIT : goal.returns-then-name-le-NAME_LIMIT
returns-then-name-le-NAME_LIMIT c =
    CanJoin-found c.args.files.now c.args.name.now c.file_named.result c.is_none.result c.file_named.ensures c.is_none.ensures c.if-name-le-NAME_LIMIT.true
