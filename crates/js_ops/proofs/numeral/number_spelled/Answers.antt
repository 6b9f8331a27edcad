use Rattle.std.proofs.Common.{◌≡◌, ◌∙◌, map-id, sym}
use Rattle.std.proofs.lemmas.Iterator.{YieldsList-from_chars}
use Rattle.std.proofs.lemmas.Iterator.Consumers.{YieldsList-end}
use Rattle.js_ops.proofs.Spelling.{unread, whole_read}
use Rattle.js_ops.proofs.numeral.number_spelled.Goals as goal

pub returns-in-Digits : goal.returns-in-Digits
returns-in-Digits c =
    let end = YieldsList-end (YieldsList-from_chars c.as_str.result.now c.as_str.utf8 cc) c.loop-c.yielded _ c.loop-c.yielded_by _ _ c.in-None.is c.next.ensures.steps in
    let whole : c.loop-c.yielded ≡ c.args.text.now = sym (map-id c.loop-c.yielded) ∙ end.0 ∙ c.as_str.ensures.scalars in
    let told = whole_read c.loop-c.reading c.loop-c.yielded c.args.text.now c.loop-c.invariant whole in
    c.signed.ensures ∙ rw c.in-Digits.is at told

pub returns-in-End : goal.returns-in-End
returns-in-End c =
    let end = YieldsList-end (YieldsList-from_chars c.as_str.result.now c.as_str.utf8 cc) c.loop-c.yielded _ c.loop-c.yielded_by _ _ c.in-None.is c.next.ensures.steps in
    let whole : c.loop-c.yielded ≡ c.args.text.now = sym (map-id c.loop-c.yielded) ∙ end.0 ∙ c.as_str.ensures.scalars in
    let told = whole_read c.loop-c.reading c.loop-c.yielded c.args.text.now c.loop-c.invariant whole in
    c.signed-in-End.ensures ∙ rw c.in-End.is at told

pub returns-in_default : goal.returns-in_default
returns-in_default c =
    let end = YieldsList-end (YieldsList-from_chars c.as_str.result.now c.as_str.utf8 cc) c.loop-c.yielded _ c.loop-c.yielded_by _ _ c.in-None.is c.next.ensures.steps in
    let whole : c.loop-c.yielded ≡ c.args.text.now = sym (map-id c.loop-c.yielded) ∙ end.0 ∙ c.as_str.ensures.scalars in
    let told = whole_read c.loop-c.reading c.loop-c.yielded c.args.text.now c.loop-c.invariant whole in
    unread c.loop-c.reading c.in_default.not-Digits c.in_default.not-End ∙ told
