use Rattle.std.proofs.Common.{ap, length, ◌∙◌, ◌+◌, ◌-◌, take, drop, refl}
use Rattle.metadata_block.specs.LinesModel.{texts}
use Rattle.metadata_block.proofs.Pairs.{no_start, no_end, whole_block, whole_rest}
use Rattle.metadata_block.proofs.lines.read_pairs.Goals as goal

pub returns-in_default-clause-err : goal.returns-in_default-clause-err
returns-in_default-clause-err c = no_start c.as_slice-all.result.now c.args.s.now (ap texts c.as_slice-all.ensures.value ∙ c.in_ok-lines.ensures.exact) c.in_default.ensures

pub returns-in_default-first_end-clause-err : goal.returns-in_default-first_end-clause-err
returns-in_default-first_end-clause-err c =
    no_end c.as_slice-all.result.now _ c.args.s.now c.in-Some.start (ap texts c.as_slice-all.ensures.value ∙ c.in_ok-lines.ensures.exact) c.in-Some.ensures (whole_rest c.as_slice-all.result.now (c.in-Some.start + 1)) c.in_default-first_end.ensures

pub returns-clause-ok : goal.returns-clause-ok
returns-clause-ok c =
    let all = c.as_slice-all.result.now in
    let start = c.in-Some.start in
    let after = take (length all - (start + 1)) (drop (start + 1) all) in
    let inside = take c.in-Some-first_end.end after in (
      start + 2,
      texts inside,
      whole_block all after inside c.args.s.now start c.in-Some-first_end.end (start + 2) (ap texts c.as_slice-all.ensures.value ∙ c.in_ok-lines.ensures.exact) c.in-Some.ensures (whole_rest all (start + 1)) c.in-Some-first_end.ensures refl refl,
      c.in_ok-pairs_of.ensures,
    )
