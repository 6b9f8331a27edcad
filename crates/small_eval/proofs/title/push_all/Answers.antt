use Rattle.std.proofs.Common.{◌≡◌, ◌∙◌, map-id, sym, ◌++◌}
use Rattle.std.proofs.lemmas.Iterator.{YieldsList-from_chars}
use Rattle.std.proofs.lemmas.Iterator.Consumers.{YieldsList-end}
use Rattle.small_eval.specs.Words.{kept}
use Rattle.small_eval.proofs.Collapses.{bytes_more, reads_more}
use Rattle.small_eval.proofs.title.push_all.Goals as goal

pub loop-c-preserved : goal.loop-c-preserved
loop-c-preserved c =
    let before = c.loop-c.invariant in (
      before.0 ++ kept c.loop-c.words.begun c.loop-c.words.gap c.in-Some.c,
      bytes_more _ _ _ before.0 _ before.1 c.in_ok-push.ensures.text,
      rw (c.in_ok-push.ensures.begun, c.in_ok-push.ensures.gap) (reads_more _ _ _ _ c.loop-c.yielded before.0 c.in-Some.c before.2),
    )

pub returns : goal.returns
returns c =
    let end = YieldsList-end (YieldsList-from_chars c.as_str.result.now c.as_str.utf8 cc) c.loop-c.yielded _ c.loop-c.yielded_by _ _ c.in-None.is c.next.ensures.steps in
    let whole : c.loop-c.yielded ≡ c.args.text.now = sym (map-id c.loop-c.yielded) ∙ end.0 ∙ c.as_str.ensures.scalars in
    (c.loop-c.invariant.0, c.loop-c.invariant.1, rw (sym whole) c.loop-c.invariant.2)
