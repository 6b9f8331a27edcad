use Rattle.std.proofs.Common.{sym, ◌∙◌}
use Rattle.page_text.proofs.Scanning.{opens_length}
use Rattle.page_text.proofs.scan.ends_with.Goals as goal

pub split_at-requires : goal.split_at-requires
split_at-requires c = opens_length c.args.name.now c.args.text.now (sym c.opens.ensures ∙ c.if-not-opens.false)
