use Rattle.small_forms.specs.declared.bytes.Class.TheVariants.{AlphanumericOrBlank}
use Rattle.small_forms.proofs.AsciiTexts.{inside_ascii}
use Rattle.small_forms.proofs.PartFronts.{no_part}
use Rattle.small_forms.proofs.sums.part_in.Goals as goal

pub returns-in_default-quoted_at_front-clause-none : goal.returns-in_default-quoted_at_front-clause-none
returns-in_default-quoted_at_front-clause-none c part rest is ends h =
    no_part c.args.bytes.now part rest c.in_default.ensures.none c.in_default-number_at_front.ensures.none c.in_default-quoted_at_front.ensures.none is ends h

pub source_of-requires-clause-ascii : goal.source_of-requires-clause-ascii
source_of-requires-clause-ascii c = inside_ascii AlphanumericOrBlank c.in-Some-quoted_at_front.inside.now c.in-Some-quoted_at_front.ensures.some.1
