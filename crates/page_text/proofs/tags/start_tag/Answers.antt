use Rattle.std.proofs.Common.{[], Ok, Err, subst, drop}
use Rattle.page_text.specs.Bytes.{lowered}
use Rattle.page_text.specs.Outcomes.{Answers, checked}
use Rattle.page_text.specs.TagsModel.{Attributes, found_of, StartTag, long, read, name_of, after_name, tag_of}
use Rattle.page_text.proofs.Reading.{handed_on, passed_on}
use Rattle.page_text.proofs.tags.start_tag.Goals as goal

pub returns-in-Err-clause-value : goal.returns-in-Err-clause-value
returns-in-Err-clause-value c =
    let text = c.args.text.now in
    handed_on (λ t. tag_of t) (StartTag text) (checked (lowered (name_of (drop 1 text))) (drop 1 text)) c.in-Err.failed (rw (c.scan.ensures.front, c.requires) at c.in-Err.ensures) (λ x e. long x e)

pub returns-in-Err-attributes-clause-value : goal.returns-in-Err-attributes-clause-value
returns-in-Err-attributes-clause-value c =
    let text = c.args.text.now in
    let named = rw (c.scan.ensures.front, c.requires) at c.in-Ok.ensures in
    passed_on (λ t. tag_of t) (StartTag text) found_of (Attributes text [] (after_name (drop 1 text))) c.in-Err-attributes.failed (subst (λ r. Answers found_of (Attributes text [] r) (Err c.in-Err-attributes.failed)) (rw c.requires at c.scan.ensures.back) c.in-Err-attributes.ensures.value) (λ x h. read c.in-Ok.name (Err x) named h)

pub returns-in-Ok-attributes-clause-value : goal.returns-in-Ok-attributes-clause-value
returns-in-Ok-attributes-clause-value c =
    let named = rw (c.scan.ensures.front, c.requires) at c.in-Ok.ensures in
    read c.in-Ok.name (Ok (c.in-Ok-attributes.attributes.items, c.in-Ok-attributes.rest.now)) named (rw (c.scan.ensures.back, c.requires) at c.in-Ok-attributes.ensures.value)
