use Rattle.std.proofs.Common.{◌∙◌, ◌++◌, ap, sym}
use Rattle.std.specs.Prelude.{codes, encode_utf8_all}
use Rattle.std.specs.List.{flat_map}
use Rattle.page_text.specs.Printed.{value_scalar}
use Rattle.page_text.proofs.Encoded.{attribute_encoded, five}
use Rattle.page_text.proofs.printing.push_attribute.Goals as goal

pub returns : goal.returns
returns c =
    let shown = encode_utf8_all (flat_map value_scalar c.args.value.now) in
    five c.push-4.result c.args.out.now.items c.push.new.out.items c.push-2.new.out.items c.push-3.new.out.items c.push_value.new.out.items c.push-4.new.out.items (codes " ") c.as_bytes.result.now (codes "=\"") shown (codes "\"") _
    c.in_ok-push.ensures c.in_ok-push-2.ensures c.in_ok-push-3.ensures c.in_ok-push_value.ensures c.push-4.ensures
    (ap (λ x. codes " " ++ (x ++ (codes "=\"" ++ (shown ++ codes "\"")))) (c.as_bytes.ensures.value ∙ c.as_str.ensures.bytes) ∙ sym (attribute_encoded c.args.name.now c.args.value.now))
