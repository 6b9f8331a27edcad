use Rattle.std.proofs.Common.{◌-◌}
use Rattle.std.proofs.lemmas.Iterator.{YieldsList-from_chars, YieldsList-from_take, text_from_collect}
use Rattle.std.proofs.lemmas.Iterator.Adapters.{YieldsList-from_skip}
use Rattle.base_text.proofs.text.scalars_between.Goals as goal

pub returns : goal.returns
returns c =
    text_from_collect _ c.collect.ensures.ran
    (YieldsList-from_take (c.args.to - c.args.from) (YieldsList-from_skip c.args.from (YieldsList-from_chars c.args.s.now c.utf8.s (cc)) (cc)) (cc))
