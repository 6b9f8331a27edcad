use Rattle.std.proofs.Common.{◌++◌, codes}
use Rattle.small_forms.specs.Scripts.{sum_text}
use Rattle.small_forms.proofs.LineFronts.{no_log_line}
use Rattle.small_forms.proofs.lines.line_in.Goals as goal

pub returns-in_default-after-clause-none : goal.returns-in_default-after-clause-none
returns-in_default-after-clause-none c line rest is h =
    no_log_line c.args.logger.now c.args.bytes.now c.in_default.ensures.none (λ sum left so e. c.in_default-after.ensures.none (codes "(" ++ (sum_text sum ++ (codes ");" ++ left))) e) line rest is h
