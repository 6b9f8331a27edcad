use Rattle.std.proofs.Common.{arith, sym, ◌∙◌, subst, take, ◌≡◌, List, ℕ}
use Rattle.std.proofs.lemmas.Str.{IsCharBoundary-before_ascii}
use Rattle.metadata_block.specs.BlanksModel.{drop_blanks}
use Rattle.metadata_block.proofs.Trims.{blank_ascii, drop_step, drop_stop, drop_none, front}
use Rattle.metadata_block.proofs.blanks.drop_blanks.Goals as goal
use Rattle.metadata_block.proofs.blanks.drop_blanks.Goals.{then-loop-n-test+else-is_blank, else-loop-n-test}

pub loop-n-preserved : goal.loop-n-preserved
loop-n-preserved c =
    let blank = sym c.is_blank.ensures ∙ c.if-is_blank.true in
    let s = c.as_bytes-bytes.result.now in
    record {
      boundary = IsCharBoundary-before_ascii s _ (omega arith) (blank_ascii _ blank);
      within = omega arith;
      same = c.loop-n.invariant.same ∙ drop_step s c.loop-n.n c.loop-n-test.true c.loop-n.invariant.within blank;
    }

pub returns : goal.returns
returns c =
    let b = c.as_bytes-bytes.result.now in
    let cut : take c.loop-n.n b ≡ drop_blanks b =
    elim c.loop-n-test.branch [
      | then-loop-n-test+else-is_blank w ↦ sym (c.loop-n.invariant.same ∙ drop_stop b c.loop-n.n w.loop-n-test.true c.loop-n.invariant.within (sym w.is_blank.ensures ∙ w.if-is_blank.false))
      | else-loop-n-test w ↦ sym (c.loop-n.invariant.same ∙ drop_none b c.loop-n.n w.loop-n-test.false)
    ] in
    c.range.ensures.value ∙ front c.args.s.now c.loop-n.n ∙ subst (λ (t : List ℕ). take c.loop-n.n t ≡ drop_blanks t) c.as_bytes-bytes.ensures.value cut
