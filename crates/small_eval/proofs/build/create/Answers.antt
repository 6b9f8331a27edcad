use Rattle.std.proofs.Common.{ap, refl, ◌∙◌, ◌∷◌, [], ◌++◌, arith}
use Rattle.dom_tree.specs.Forms.{form_of}
use Rattle.small_eval.proofs.Building.{host_may, ready_created}
use Rattle.small_eval.proofs.build.create.Goals as goal

pub make-requires-clause-may : goal.make-requires-clause-may
make-requires-clause-may c = host_may c.args.world.now 1 1 c.requires.room (omega arith)

pub note-requires-clause-ready : goal.note-requires-clause-ready
note-requires-clause-ready c =
    ready_created c.args.world.now _ c.args.request (form_of c.args.form) c.requires.room.sound c.requires.row c.requires.makes (host_may c.args.world.now 1 1 c.requires.room (omega arith)) refl refl c.in_ok-make.ensures.tree
    (c.in_ok-push.ensures.items ∙ ap (λ n. c.args.world.now.own.items ++ n ∷ []) c.count-number.ensures.exact)
