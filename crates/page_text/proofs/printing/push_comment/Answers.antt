use Rattle.std.proofs.Common.{◌∙◌, ◌++◌, ap, sym}
use Rattle.std.specs.Prelude.{codes}
use Rattle.page_text.proofs.Encoded.{three, comment_encoded}
use Rattle.page_text.proofs.printing.push_comment.Goals as goal

pub returns : goal.returns
returns c =
    three c.push-3.result c.args.out.now.items c.push.new.out.items c.push-2.new.out.items c.push-3.new.out.items (codes "<!--") c.as_bytes.result.now (codes "-->") _ c.in_ok-push.ensures c.in_ok-push-2.ensures c.push-3.ensures
    (ap (λ x. codes "<!--" ++ (x ++ codes "-->")) (c.as_bytes.ensures.value ∙ c.as_str.ensures.bytes) ∙ sym (comment_encoded c.args.text.now))
