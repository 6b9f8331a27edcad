use Rattle.std.proofs.Common.{◌∙◌}
use Rattle.dom_query.proofs.SingleTests.{has_class-some, has_class-none}
use Rattle.dom_query.proofs.fits.has_class.Goals as goal

pub returns-in-Some : goal.returns-in-Some
returns-in-Some c =
    has_class-some c.has_word.result c.args.name.now c.in-Some.value.now c.as_bytes.result.now c.as_bytes-in-Some.result.now c.args.attributes.now
    (c.as_bytes.ensures.value ∙ c.as_str.ensures.bytes) (c.as_bytes-in-Some.ensures.value ∙ c.as_str-in-Some.ensures.bytes) c.has_word.ensures c.in-Some.ensures

pub returns-in-None : goal.returns-in-None
returns-in-None c = has_class-none c.args.name.now c.args.attributes.now c.in-None.ensures
