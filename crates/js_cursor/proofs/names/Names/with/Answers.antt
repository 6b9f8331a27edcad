use Rattle.js_cursor.proofs.Known.{known_more}
use Rattle.js_cursor.proofs.names.Names.with.Goals as goal

pub invariant_of-result : goal.invariant_of-result
invariant_of-result c =
    let key = rw c.in_ok-share.ensures at c.in_ok-insert.ensures.updates.0 in
    rw (c.in_ok-push.ensures.ok, c.in_ok-share-2.ensures) (known_more c.self.inside.found c.args.name.now c.self.inside.set c.insert.new.self c.self.invariant key)
