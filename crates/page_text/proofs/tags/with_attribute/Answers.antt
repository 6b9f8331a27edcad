use Rattle.page_text.proofs.Names.{named_more}
use Rattle.page_text.proofs.tags.with_attribute.Goals as goal

pub returns-clause-named : goal.returns-clause-named
returns-clause-named c =
    let a = c.args.attribute in
    let key = rw c.in_ok-share.ensures at c.in_ok-insert.ensures.updates.0 in
    rw c.in_ok-push.ensures.items (named_more c.args.found.now.items a c.args.names.now c.insert.new.self c.requires key)
