use Rattle.std.proofs.Common.{arith, sym, ◌∙◌, ◌≡◌, ◌⊎◌, inl, inr}
use Rattle.metadata_block.specs.declared.block.MetaFault.{MetaFault}
use Rattle.metadata_block.specs.declared.block.MetaFault.TheVariants.{NoMemory}
use Rattle.metadata_block.specs.Block.{Fails, KeepsCount}
use Rattle.metadata_block.proofs.Alike.{takes_alike}
use Rattle.metadata_block.proofs.Counts.{kept_since}
use Rattle.metadata_block.proofs.Taking.{carried, take_more, fail_more, fail_here, take_end}
use Rattle.metadata_block.proofs.block.take_pairs.Goals as goal

pub returns-in_err-take_pair-clause-err : goal.returns-in_err-take_pair-clause-err
returns-in_err-take_pair-clause-err g c =
    let i = c.loop-pair.pair-index in
    let before = g.P.Patterns.refusals c.args.patterns.now in
    let after = g.P.Patterns.refusals c.take_pair.new.patterns in
    let f = c.in_err-take_pair.field-0.0 in
    let whole : (f ≡ NoMemory) ⊎ Fails before after c.args.pairs.now c.args.meta.now f = elim c.in_err-take_pair.ensures.err [
      | inl e ↦ inl e
      | inr h ↦ inr (c.loop-pair.invariant.bad after f (fail_here c.args.pairs.now i c.pair-item.result before (g.P.Patterns.refusals c.loop-pair.patterns) after c.loop-pair.meta f c.loop-pair-test.true c.pair-item.is c.loop-pair.invariant.same h))
    ] in
    carried c.from_residual.result f (λ (x : MetaFault). (x ≡ NoMemory) ⊎ Fails before after c.args.pairs.now c.args.meta.now x) c.from_residual.ensures.1 whole

pub returns-in_err-take_pair-clause-count : goal.returns-in_err-take_pair-clause-count
returns-in_err-take_pair-clause-count g c = omega (arith, c.loop-pair.invariant.same, c.take_pair.ensures.count)

pub returns-in_err-take_pair-clause-kept : goal.returns-in_err-take_pair-clause-kept
returns-in_err-take_pair-clause-kept g c =
    let before = g.P.Patterns.refusals c.args.patterns.now in
    let after = g.P.Patterns.refusals c.take_pair.new.patterns in
    let f = c.in_err-take_pair.field-0.0 in
    carried c.from_residual.result f (KeepsCount before after) c.from_residual.ensures.1 (kept_since before (g.P.Patterns.refusals c.loop-pair.patterns) after f c.loop-pair.invariant.same c.in_err-take_pair.ensures.kept)

pub loop-pair-preserved : goal.loop-pair-preserved
loop-pair-preserved g c =
    let i = c.loop-pair.pair-index in
    record {
      on = λ n h. c.loop-pair.invariant.on n (take_more c.args.pairs.now i c.pair-item.result c.loop-pair.meta c.take_pair.new.meta n c.loop-pair-test.true c.pair-item.is c.in_ok-take_pair.ensures.ok h);
      bad = λ after f h. c.loop-pair.invariant.bad after f (fail_more c.args.pairs.now i c.pair-item.result (g.P.Patterns.refusals c.args.patterns.now) after c.loop-pair.meta c.take_pair.new.meta f c.loop-pair-test.true c.pair-item.is c.in_ok-take_pair.ensures.ok h);
      same = c.loop-pair.invariant.same ∙ sym c.in_ok-take_pair.ensures.same;
      alike = takes_alike c.loop-pair.meta c.take_pair.new.meta c.pair-item.result c.in_ok-take_pair.ensures.ok c.loop-pair.invariant.alike;
    }

pub returns-clause-ok : goal.returns-clause-ok
returns-clause-ok g c = c.loop-pair.invariant.on c.loop-pair.meta (take_end c.args.pairs.now c.loop-pair.pair-index c.loop-pair.meta (omega arith))
