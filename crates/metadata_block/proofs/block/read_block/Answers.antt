use Rattle.std.proofs.Common.{◌≡◌, ◌⊎◌, List, sym, subst, encode_utf8_all}
use Rattle.std.specs.List.{All}
use Rattle.metadata_block.specs.declared.lines.Pair.{Pair}
use Rattle.metadata_block.specs.declared.meta.Meta.{Meta}
use Rattle.metadata_block.specs.declared.block.MetaFault.TheVariants.{NoMemory}
use Rattle.metadata_block.specs.Lines.{IsShort}
use Rattle.metadata_block.specs.Block.{Fails, FailsBlock, KeepsCount, nothing}
use Rattle.metadata_block.specs.BlockModel.{AreAlike}
use Rattle.metadata_block.proofs.Taking.{carried, pairs_short, bad_line}
use Rattle.metadata_block.proofs.block.read_block.Goals as goal

pub take_pairs-requires : goal.take_pairs-requires
take_pairs-requires g c =
    let reads = c.in-Ok.ensures.ok in
    record {
      values = subst (All (λ (p : Pair). IsShort (encode_utf8_all p.value))) (sym c.as_slice.ensures.value) (pairs_short reads.0 reads.1 c.in-Ok.pairs.items reads.3);
      alike = subst (λ (m : Meta). AreAlike m.grants) (sym c.in_ok-meta.ensures) tt;
    }

pub returns-in_err-take_pairs-clause-err : goal.returns-in_err-take_pairs-clause-err
returns-in_err-take_pairs-clause-err g c =
    let before = g.P.Patterns.refusals c.args.patterns.now in
    let after = g.P.Patterns.refusals c.take_pairs.new.patterns in
    let f = c.in_err-take_pairs.field-0.0 in
    let fails : (f ≡ NoMemory) ⊎ Fails before after c.in-Ok.pairs.items nothing f =
    subst (λ (m : Meta). (f ≡ NoMemory) ⊎ Fails before after c.in-Ok.pairs.items m f) c.in_ok-meta.ensures
    (subst (λ (ps : List Pair). (f ≡ NoMemory) ⊎ Fails before after ps c.in_ok-meta.meta f) c.as_slice.ensures.value c.in_err-take_pairs.ensures.err) in
    carried c.from_residual-in_err-take_pairs.result f (FailsBlock before after c.args.s.now) c.from_residual-in_err-take_pairs.ensures.1 (bad_line before after c.args.s.now c.in-Ok.pairs.items f c.in-Ok.ensures.ok fails)

pub returns-in_err-take_pairs-clause-kept : goal.returns-in_err-take_pairs-clause-kept
returns-in_err-take_pairs-clause-kept g c =
    carried c.from_residual-in_err-take_pairs.result c.in_err-take_pairs.field-0.0 (KeepsCount (g.P.Patterns.refusals c.args.patterns.now) (g.P.Patterns.refusals c.take_pairs.new.patterns)) c.from_residual-in_err-take_pairs.ensures.1 c.in_err-take_pairs.ensures.kept
