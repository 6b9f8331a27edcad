use Rattle.std.proofs.Common.{ap, sym, ◌∙◌, subst, List, ℕ, ◌≡◌, ◌++◌}
use Rattle.metadata_block.specs.BlanksModel.{drop_blanks, skip_blanks, until_blank}
use Rattle.metadata_block.specs.Lines.{IsPair}
use Rattle.metadata_block.proofs.Forms.{pair_of, of_pair, until_some, empty_list, some_list}
use Rattle.metadata_block.proofs.lines.read_pair.Goals as goal

pub returns-in_default-after_at : goal.returns-in_default-after_at
returns-in_default-after_at c = λ key value p.
    let o = of_pair c.args.line.now key value c.in-Some.rest.now c.in-Some.ensures p in
    c.in_default-after_at.ensures (key ++ o.0) (c.skip_blanks.ensures ∙ o.1)

pub returns-then-is_empty : goal.returns-then-is_empty
returns-then-is_empty c = λ key value p.
    let o = of_pair c.args.line.now key value c.in-Some.rest.now c.in-Some.ensures p in
    let whole : c.in-Some-after_at.after.now ≡ key ++ o.0 = cc (c.in-Some-after_at.ensures, c.skip_blanks.ensures, o.1) in
    until_some key o.0 p.some p.solid (ap until_blank (sym whole) ∙ sym c.split_blank.ensures.key ∙ empty_list _ _ c.is_empty.ensures c.if-is_empty.true)

pub returns : goal.returns
returns c =
    let after = c.in-Some-after_at.after.now in
    let value = c.drop_blanks.ensures ∙ ap drop_blanks (c.skip_blanks-2.ensures ∙ ap skip_blanks c.split_blank.ensures.rest) in
    let some = some_list _ _ c.is_empty.ensures c.if-is_empty.false in
    let pair = pair_of c.args.line.now c.in-Some.rest.now after c.in-Some.ensures (sym c.skip_blanks.ensures ∙ c.in-Some-after_at.ensures) (λ e. some (c.split_blank.ensures.key ∙ e)) in
    subst (λ (k : List ℕ). IsPair c.args.line.now k c.drop_blanks.result.now) (sym c.split_blank.ensures.key) (subst (λ (v : List ℕ). IsPair c.args.line.now (until_blank after) v) (sym value) pair)
