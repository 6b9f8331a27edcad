use Rattle.page_text.proofs.Reading.{entity_last, entity_plain, entity_read, entity_smaller, special_smaller}
use Rattle.std.specs.String.{string_bytes}
use Rattle.std.proofs.Common.{◌∙◌, ◌++◌, ap, arith}
use Rattle.page_text.proofs.values.unescaped.Goals as goal

pub returns-in_default : goal.returns-in_default
returns-in_default c = entity_last _ c.args.raw.now _ _ _ (string_bytes c.push_str.new.self) c.loop-read.invariant.1 c.scan.ensures.front c.scan.ensures.back c.in_ok-push_str.ensures.bytes c.in_default.ensures

pub loop-read-smaller-in-None : goal.loop-read-smaller-in-None
loop-read-smaller-in-None c = special_smaller _ c.args.raw.now _ _ _ _ c.loop-read.invariant.1 c.scan.ensures.front c.scan.ensures.back c.in_ok-push_str.ensures.bytes _ c.in-Some.ensures.whole

pub loop-read-preserved-in-None : goal.loop-read-preserved-in-None
loop-read-preserved-in-None c =
    (c.in-Some.ensures.utf8, entity_plain _ c.args.raw.now _ _ _ _ c.loop-read.invariant.1 c.scan.ensures.front c.scan.ensures.back c.in_ok-push_str.ensures.bytes _ (string_bytes c.push.new.self) c.in-Some.ensures.whole c.in-None.ensures (c.in_ok-push-in-None.ensures.bytes ∙ ap (λ x. string_bytes c.push_str.new.self ++ x) (c.in_ok-push-in-None.ensures.ascii (omega arith))))

pub loop-read-smaller : goal.loop-read-smaller
loop-read-smaller c = entity_smaller _ c.args.raw.now _ _ _ _ c.loop-read.invariant.1 c.scan.ensures.front c.scan.ensures.back c.in_ok-push_str.ensures.bytes _ c.in-Some-entity.ensures.less

pub loop-read-preserved : goal.loop-read-preserved
loop-read-preserved c =
    let r = c.in-Some-entity.ensures in
    let read = entity_read _ c.args.raw.now _ _ _ _ c.loop-read.invariant.1 c.scan.ensures.front c.scan.ensures.back c.in_ok-push_str.ensures.bytes c.in-Some-entity.c r.length_of _ (string_bytes c.push-in-Some-entity.new.self) c.in-Some.ensures.whole r.entity (c.in_ok-push-in-Some-entity.ensures.bytes ∙ ap (λ x. string_bytes c.push_str.new.self ++ x) (c.in_ok-push-in-Some-entity.ensures.ascii r.small)) in
    (r.utf8, rw r.behind read)
