use Rattle.std.proofs.Common.{◌∙◌, ◌++◌, ap, sym}
use Rattle.std.specs.Prelude.{codes, encode_utf8_all}
use Rattle.std.specs.List.{flat_map}
use Rattle.dom_semantics.specs.Forest.{attributes_of}
use Rattle.page_text.specs.Printed.{shown_attribute}
use Rattle.page_text.proofs.Encoded.{four, start_tag_encoded}
use Rattle.page_text.proofs.printing.push_start_tag.Goals as goal

pub returns : goal.returns
returns c =
    let attributes = attributes_of c.args.tree.now c.args.node in
    let shown = encode_utf8_all (flat_map shown_attribute attributes) in
    four c.push-3.result c.args.out.now.items c.push.new.out.items c.push-2.new.out.items c.push_attributes.new.out.items c.push-3.new.out.items (codes "<") c.as_bytes.result.now shown (codes ">") _
    c.in_ok-push.ensures c.in_ok-push-2.ensures c.in_ok-push_attributes.ensures c.push-3.ensures
    (ap (λ x. codes "<" ++ (x ++ (shown ++ codes ">"))) (c.as_bytes.ensures.value ∙ c.as_str.ensures.bytes) ∙ sym (start_tag_encoded c.args.tag.now attributes))
