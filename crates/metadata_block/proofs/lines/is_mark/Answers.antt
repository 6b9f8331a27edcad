use Rattle.std.proofs.Common.{ap, sym, ◌∙◌}
use Rattle.std.proofs.lemmas.Slice.Eq.{bytes_eq-Decides}
use Rattle.metadata_block.specs.BlanksModel.{drop_blanks}
use Rattle.metadata_block.proofs.Forms.{is_read, not_read}
use Rattle.metadata_block.proofs.lines.is_mark.Goals as goal

pub returns-in-Some : goal.returns-in-Some
returns-in-Some c =
    let trimmed = c.drop_blanks.ensures ∙ ap drop_blanks c.skip_blanks.ensures in
    let after = c.skip_blanks-in-Some.ensures in
    let test = bytes_eq-Decides c.skip_blanks-in-Some.result.now c.args.word.now in
    is_read c.args.line.now c.in-Some.rest.now c.args.word.now c.eq.result c.requires.some c.requires.front c.requires.end (sym trimmed ∙ c.in-Some.ensures)
    (λ t. sym after ∙ test.0 (sym c.eq.ensures ∙ t), λ e. c.eq.ensures ∙ test.1 (after ∙ e))

pub returns-in-None : goal.returns-in-None
returns-in-None c =
    let trimmed = c.drop_blanks.ensures ∙ ap drop_blanks c.skip_blanks.ensures in
    not_read c.args.line.now c.args.word.now c.requires.some c.requires.front c.requires.end (λ rest e. c.in-None.ensures rest (trimmed ∙ e))
