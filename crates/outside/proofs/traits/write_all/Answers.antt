use Rattle.std.proofs.Common.{◌∙◌, arith, length-drop}
use Rattle.std.proofs.lemmas.List.{take_rest}
use Rattle.outside.proofs.Appended.{Appends-more}
use Rattle.outside.proofs.traits.write_all.Goals as goal

pub loop-at-preserved : goal.loop-at-preserved
loop-at-preserved g c =
    let piece = rw (take_rest c.args.bytes.now c.loop-at.at) at c.in_ok-at.ensures.bytes in
    let fits = rw (take_rest c.args.bytes.now c.loop-at.at) at c.in_ok-at.ensures.at_most in
    record {
      within = omega (arith, simp length-drop at fits);
      bytes = Appends-more _ _ _ c.args.bytes.now c.loop-at.at c.in_ok-at.field-0 c.loop-at.invariant.bytes piece;
      steady = c.in_ok-at.ensures.cause.steady ∙ c.loop-at.invariant.steady;
    }
