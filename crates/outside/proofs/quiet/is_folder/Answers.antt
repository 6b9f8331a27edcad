use Rattle.std.proofs.Common.{sym, ◌∙◌, arith}
use Rattle.std.proofs.lemmas.Bool.{false≢true}
use Rattle.outside.proofs.Names.{CanJoin-before, IsFolder-more}
use Rattle.outside.proofs.quiet.is_folder.Goals as goal

pub returns-then-not-can_join : goal.returns-then-not-can_join
returns-then-not-can_join c =
    let can = rw c.as_str.ensures.value at c.can_join.ensures.1 in
    (λ e. absurd (false≢true e), λ whole. sym c.if-not-can_join.true ∙ can (CanJoin-before c.args.files.now c.loop-place.place c.index-files-place.result (omega arith) whole))

pub loop-place-preserved : goal.loop-place-preserved
loop-place-preserved c =
    let joins = rw c.as_str.ensures.value at (c.can_join.ensures.0 c.if-not-can_join.false) in
    IsFolder-more c.args.files.now c.loop-place.place c.index-files-place.result (omega arith) c.loop-place.invariant joins
