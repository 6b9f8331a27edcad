use Rattle.std.proofs.Common.{sym, ◌∙◌}
use Rattle.page_text.proofs.Reading.{boundary_one, eaten}
use Rattle.page_text.proofs.tags.eat.Goals as goal

pub split_at-requires : goal.split_at-requires
split_at-requires c = boundary_one c.args.byte c.args.text.now c.utf8.text c.requires (sym (rw c.as_bytes.ensures.value at c.sees.ensures) ∙ c.if-sees.true)

pub returns-then-sees : goal.returns-then-sees
returns-then-sees c = eaten c.args.byte c.args.text.now c.split_at.result.1 c.utf8.text c.requires (sym (rw c.as_bytes.ensures.value at c.sees.ensures) ∙ c.if-sees.true) c.split_at.ensures.back
