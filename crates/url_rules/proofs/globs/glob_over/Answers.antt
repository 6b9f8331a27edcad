use Rattle.std.proofs.Common.{arith, ap, ◌∙◌, length, drop, ℕ, ◌≡◌}
use Rattle.std.proofs.lemmas.List.{length-set}
use Rattle.url_rules.specs.GlobModel.{fits_glob}
use Rattle.url_rules.proofs.GlobTests.{glob_decides}
use Rattle.url_rules.proofs.GlobRows.{star_step, char_step, end_row}
use Rattle.url_rules.proofs.globs.glob_over.Goals as goal

pub loop-left-init : goal.loop-left-init
loop-left-init c = record {
  within = omega arith;
  len = length-set c.args.row.now (length c.args.text.now) _ ∙ c.requires.len;
  row = end_row c.args.pattern.now c.args.text.now c.args.row.now c.requires.len c.requires.none;
}

pub loop-left-preserved-then-pattern-left-eq42 : goal.loop-left-preserved-then-pattern-left-eq42
loop-left-preserved-then-pattern-left-eq42 c = record {
  within = omega arith;
  len = c.star_row.ensures.len ∙ c.loop-left.invariant.len;
  row = star_step c.args.pattern.now c.args.text.now c.loop-left.row c.star_row.new.row c.loop-left.left c.loop-left-test.true c.loop-left.invariant.within c.if-pattern-left-eq42.true c.loop-left.invariant.len c.loop-left.invariant.row c.star_row.ensures.flags;
}

pub loop-left-preserved : goal.loop-left-preserved
loop-left-preserved c = record {
  within = omega arith;
  len = c.char_row.ensures.len ∙ c.loop-left.invariant.len;
  row = char_step c.args.pattern.now c.args.text.now c.loop-left.row c.char_row.new.row c.loop-left.left c.loop-left-test.true c.loop-left.invariant.within c.if-pattern-left-eq42.false c.loop-left.invariant.row c.char_row.ensures.flags c.char_row.ensures.last;
}

pub returns : goal.returns
returns c =
    let none : c.loop-left.left ≡ 0 = omega arith in
    glob_decides c.args.pattern.now c.args.text.now _ (c.loop-left.invariant.row 0 (omega arith) ∙ ap (λ (n : ℕ). fits_glob (drop n c.args.pattern.now) c.args.text.now) none)
