use Rattle.small_eval.proofs.Forests.{tag_told}
use Rattle.small_eval.proofs.title.is_title.Goals as goal

pub returns-in-Some-Element : goal.returns-in-Some-Element
returns-in-Some-Element c = tag_told c.eq.result c.as_str.result.now c.in-Some-Element.tag c.in-Some-Element.field-0.now _ c.eq.ensures c.as_str.ensures.bytes c.in-Some-Element.field-0-is c.in-Some-Element.ensures.form
