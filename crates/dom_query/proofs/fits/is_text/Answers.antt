use Rattle.std.proofs.Common.{ap, ◌∙◌}
use Rattle.std.specs.Str.{bytes_eq}
use Rattle.dom_query.proofs.Letters.{same_text}
use Rattle.dom_query.proofs.fits.is_text.Goals as goal

pub returns : goal.returns
returns c = c.eq.ensures ∙ (ap (λ x. bytes_eq x c.args.s.now) c.as_str.ensures.bytes ∙ same_text c.args.text.now c.args.s.now c.utf8.s)
