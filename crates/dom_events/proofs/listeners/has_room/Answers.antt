use Rattle.std.proofs.Common.{◌≡◌, ap, arith}
use Rattle.std.specs.Prelude.{nat_lt}
use Rattle.std.proofs.lemmas.List.{at_drop_all}
use Rattle.dom_semantics.specs.Listeners.{LISTENER_LIMIT, listeners_of}
use Rattle.dom_events.proofs.listeners.has_room.Goals as goal

pub returns : goal.returns
unfolding LISTENER_LIMIT
returns c =
    let none = at_drop_all (λ xs. listeners_of xs c.args.owner) c.args.registered.now c.loop-a.a-index c.loop-a-test.false in
    let counted = c.loop-a.invariant.0 in
    let total : c.loop-a.count ≡ listeners_of c.args.registered.now c.args.owner = omega arith in
    ap (λ n. nat_lt n LISTENER_LIMIT) total
