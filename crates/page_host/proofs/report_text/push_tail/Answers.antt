use Rattle.std.proofs.Common.{◌∙◌, ap, ◌++◌}
use Rattle.page_host.proofs.Adding.{five_pieces}
use Rattle.page_host.proofs.report_text.push_tail.Goals as goal

pub returns : goal.returns
returns c =
    let digits = c.as_bytes.ensures.value ∙ (c.as_str.ensures.value ∙ c.in_ok-to_string.ensures.ok) in
    five_pieces c.args.out.now.items _ c.args.document.now _ _ _ _ _ _ _ _ c.in_ok-push.ensures c.in_ok-push-2.ensures c.in_ok-push-3.ensures (c.in_ok-push-4.ensures ∙ ap (λ xs. c.push-3.new.out.items ++ xs) digits) c.in_ok-push-5.ensures
